-- A packet that was read is checked by what the transition leaves, and its head may be written again.
use Rattle.std.proofs.Common.{◌≡◌, ℕ, List, sym, ap, ◌∙◌}
use Rattle.std.specs.Prelude.{Option, Result, Ok}
use Rattle.mip_ipv6.specs.declared.head.Head.{Head}
use Rattle.mip_ipv6.specs.declared.not_packet.NotPacket.{NotPacket}
use Rattle.mip_ipv6.specs.Packet.{Packet}
use Rattle.mip_ipv6.specs.Reading.{packet_of}
use Rattle.mip_mobhdr.specs.Said.{Said}
use Rattle.mip_entries.specs.declared.answer.Answer.{Answer}
use Rattle.mip_bcache.specs.Seen.{CacheSeen}
use Rattle.mip_reception.specs.declared.refusal.Refusal.{Refusal}
use Rattle.mip_reception.specs.declared.address_match.AddressMatch.{AddressMatch}
use Rattle.mip_reception.specs.Checks.{checked}
use Rattle.mip_rules_correspondent.specs.declared.identity.Identity.{Identity}
use Rattle.mip_rules_correspondent.specs.declared.known.Known.{Known}
use Rattle.mip_rules_correspondent.specs.Rules.{standing_of, after_checks, place_in, receives}
use Rattle.mip_rules_correspondent.specs.Transitions.{Transition}
use Rattle.mip_correspondent.specs.Showing.{left, Shows}
use Rattle.mip_correspondent.proofs.ShowingLaws.{shows-now, shows-known}

standing-shown : (me : Identity) (head : Head) (now : ℕ) (cache : CacheSeen) (answers : List Answer) (t : Transition) → Shows now cache answers t → standing_of me t.known t.now head ≡ standing_of me (left now cache) now head
standing-shown me head now cache answers t s =
    ap (λ (k : Known). standing_of me k t.now head) (shows-known now cache answers t s)
    ∙ ap (λ (n : ℕ). standing_of me (left now cache) n head) (shows-now now cache answers t s)

pub receives-checked : (me : Identity) (number : ℕ) (bytes : List ℕ) (p : Packet) (now : ℕ) (cache : CacheSeen) (answers : List Answer) (t : Transition) (place : ℕ) (standing : AddressMatch) (r : Result (Option Said) Refusal)
    → Shows now cache answers t → packet_of bytes ≡ Ok p → place ≡ place_in bytes p → standing ≡ standing_of me (left now cache) now p.head → checked standing place p ≡ r
    → receives me number bytes (packet_of bytes) t ≡ after_checks me number bytes p r t
receives-checked me number bytes p now cache answers t place standing r shows read placed standing_is check =
    ap (λ (o : Result Packet NotPacket). receives me number bytes o t) read
    ∙ ap (λ (o : Result (Option Said) Refusal). after_checks me number bytes p o t)
    (ap (λ (s : AddressMatch). checked s (place_in bytes p) p) (standing-shown me p.head now cache answers t shows ∙ sym standing_is)
    ∙ ap (λ (n : ℕ). checked standing n p) (sym placed) ∙ check)
