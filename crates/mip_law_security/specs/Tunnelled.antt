-- How an update came within a tunnel that a mobile accepts. RFC 6275 section 11.3.3
use Rattle.std.specs.Prelude.{◌≡◌, ℕ, [], ◌∷◌, Bool, true, false, ◌==◌, ◌&&◌, Option, Some, Ok, is_some, slice_get}
use Rattle.std.specs.List.{list_any}
use Rattle.mip_words.specs.declared.address.Address.{Address}
use Rattle.mip_words.specs.declared.shield.Shield.{Shield}
use Rattle.mip_ipv6.specs.Packet.{Packet}
use Rattle.mip_ipv6.specs.Reading.{packet_of}
use Rattle.mip_entries.specs.declared.entry.Entry.{Entry}
use Rattle.mip_entries.specs.declared.entry.Entry.TheVariants.{Accepted}
use Rattle.mip_rules_mobile.specs.Known.{Known}
use Rattle.mip_rules_mobile.specs.TakenLaws.{IsAgent}
use Rattle.mip_links.specs.Table.{Post}
use Rattle.mip_schedule.specs.declared.event.Event.{Event}
use Rattle.mip_history.specs.Setup.{Setup}
use Rattle.mip_history.specs.Setup.Kind.{Mobile}
use Rattle.mip_history.specs.Runs.{Run}
use Rattle.mip_history.specs.Knowing.{now_in, mobile_known_in}
use Rattle.mip_law_delivery.specs.Stretches.{left_by}
use Rattle.mip_law_delivery.specs.StretchesLaws.{IsSingle}

-- node n accepted the update in packet k
abbrev pub is_acceptance_of : (n k : ℕ) → Entry → Bool
is_acceptance_of n k (Accepted node number home binding careof sequence end i j) = (n == node.0) && (number == k)
is_acceptance_of n k _ = false

-- a tunnel packet is from the mobile's agent, that of its registration before its end, or where its last home registration went;
-- it came under a shield, and in it stands a packet with a mobility message
pub record IsOfAgent (k : Known) (now : ℕ) (shield : Option Shield) (outer : Packet) : Type 0 where
  pub agent : Address
  pub of : IsAgent k.registered k.agent now agent
  pub from : outer.head.source.0 ≡ agent.0
  pub shielded : is_some shield ≡ true
  pub packet : Packet
  pub inside : packet_of outer.body ≡ Ok packet
  pub mobility : packet.head.proto ≡ 135

-- whatever event of any run leaves that a mobile accepted the update in a packet which was posted as a tunnel packet: that is from the
-- agent that the mobile knows before the event, and was posted under a shield
abbrev pub AcceptsOfItsAgent : Setup → Type 0
AcceptsOfItsAgent s =
    (run : Run) (event : Event) → IsSingle event → (n : ℕ) (own : Address) (agent : Option Address) → slice_get s.hosts n ≡ Some (record { address = own; kind = Mobile agent })
    → (k : ℕ) (post : Post) → slice_get run.posts k ≡ Some post → (outer : Packet) → packet_of post.packet ≡ Ok outer → outer.head.proto ≡ 41
    → list_any (is_acceptance_of n k) (left_by s run (event ∷ [])) ≡ true
    → IsOfAgent (mobile_known_in s run n own agent) (now_in s run) post.shield outer
