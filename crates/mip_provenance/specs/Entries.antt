-- What the entries of a history say by themselves: packets, addresses, lives, acceptances.
use Rattle.std.specs.Prelude.{ℕ, suc, List, fold, slice_get, ◌==◌, if◌then◌else◌, Option, Some, None}
use Rattle.std.specs.Option.{option_and_then}
use Rattle.mip_words.specs.Last.{or_else}
use Rattle.mip_words.specs.declared.address.Address.{Address}
use Rattle.mip_entries.specs.declared.entry.Entry.{Entry}
use Rattle.mip_entries.specs.declared.entry.Entry.TheVariants as entries
use Rattle.mip_provenance.specs.declared.accepted_update.AcceptedUpdate.{AcceptedUpdate}
use Rattle.mip_provenance.specs.declared.mark.Mark.{Mark}
use Rattle.mip_provenance.specs.declared.mark.Mark.TheVariants as marks

-- the number of the packet that an entry posts
abbrev pub number_posted : Entry → Option ℕ
number_posted (entries.Sent number node shielded packet) = Some number
number_posted (entries.Injected number outsider link packet) = Some number
number_posted _ = None

abbrev pub packet_told : ℕ → Entry → Option (List ℕ)
packet_told k (entries.Sent number node shielded packet) = if number == k then Some packet else None
packet_told k (entries.Injected number outsider link packet) = if number == k then Some packet else None
packet_told k _ = None

-- the bytes of packet k, of its first `sent` or `injected`
abbrev pub packet_in : List Entry → ℕ → Option (List ℕ)
packet_in past k = fold (λ o e. or_else o (packet_told k e)) None past

abbrev pub claims : ℕ → Entry → Option Address
claims by (entries.Claimed who link address) = if by == who then Some address else None
claims by _ = None

-- the address that somebody claimed first
abbrev pub declared_in : List Entry → ℕ → Option Address
declared_in past by = fold (λ o e. or_else o (claims by e)) None past

abbrev pub restarts : ℕ → ℕ → Entry → ℕ
restarts n count (entries.Restarted node) = if n == node.0 then suc count else count
restarts n count _ = count

-- the life of a node: how often it was restarted
abbrev pub life_in : List Entry → ℕ → ℕ
life_in past n = fold (restarts n) 0 past

-- the update that an entry accepts
abbrev pub update_accepted : Entry → Option AcceptedUpdate
update_accepted (entries.Accepted node number home binding careof sequence end i j) = Some (record {
  node = node;
  number = number;
  home = home;
  careof = careof;
  home_index = i;
  careof_index = j;
})
update_accepted _ = None

-- the update that is accepted at a place
abbrev pub accepted_at : List Entry → ℕ → Option AcceptedUpdate
accepted_at past place = option_and_then update_accepted (slice_get past place)

-- a mark as an entry
abbrev pub mark_entry : Mark → Entry
mark_entry (marks.Origin hot cot update) = entries.Origin hot cot update
mark_entry (marks.Forged cause) = entries.Forged cause
