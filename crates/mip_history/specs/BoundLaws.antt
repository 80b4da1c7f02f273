-- Laws and invariants of Bound: only proofs stand on them.
use Rattle.std.specs.Prelude.{ℕ, List, Bool, false, ◌&&◌, ◌==◌, Option, Some, None}
use Rattle.std.specs.List.{filter_map}
use Rattle.mip_entries.specs.declared.entry.Entry.{Entry}
use Rattle.mip_entries.specs.declared.entry.Entry.TheVariants as entries

abbrev pub packet_posted : Entry → Option (List ℕ)
packet_posted (entries.Sent number node shielded packet) = Some packet
packet_posted (entries.Injected number outsider link packet) = Some packet
packet_posted _ = None

-- the packets that were posted, in order
abbrev pub packets_of : List Entry → List (List ℕ)
packets_of past = filter_map packet_posted past

abbrev pub is_accepted_for : ℕ → ℕ → Entry → Bool
is_accepted_for n home (entries.Accepted node number h binding careof sequence end i j) = (n == node.0) && (h.0 == home)
is_accepted_for n home _ = false
