-- By what right a home agent lets a packet out that it was handed, or answers it. RFC 6275 sections 10.3.1, 10.4.1, 10.4.5 and 10.6.2
use Rattle.std.specs.Prelude.{◌≡◌, ◌≢◌, ℕ, List, true, ◌==◌, if◌then◌else◌, Option, Some, None}
use Rattle.mip_words.specs.Protocols.{mobility_header}
use Rattle.mip_words.specs.declared.address.Address.{Address}
use Rattle.mip_words.specs.declared.shield.Shield.{Shield}
use Rattle.mip_ipv6.specs.Packet.{Packet}
use Rattle.mip_ipv6.specs.Tunnel.{encapsulated}
use Rattle.mip_outside.specs.declared.claim.Claim.{Claim}
use Rattle.mip_reception.specs.declared.registration.Registration.{Registration}
use Rattle.mip_reception.specs.Registrations.{home_of}
use Rattle.mip_entries.specs.Reasons.{is_dropped_why}
use Rattle.mip_rules_agent.specs.declared.identity.Identity.{Identity}
use Rattle.mip_rules_agent.specs.Known.{Known}
use Rattle.mip_rules_agent.specs.Steps.{Step, Sends, Denies, Drops}
use Rattle.mip_rules_agent.specs.Questions.{careof_at}
use Rattle.mip_rules_agent.specs.Soundness.{IsShielded}
use Rattle.mip_rules_agent.specs.Taken.{IsUpdateIn}
use Rattle.mip_rules_agent.specs.Answering.{verdict_at, Tells, IsDenied}
use Rattle.mip_rules_agent.specs.Sendings.{Sending, SendsInto, SendsOut, SendsAck, SendsReply, SendsAgents, SendsPrefix, IsPacketOf}

-- a packet out of a tunnel: it came from the care-of address of the registered home that is its source, is not for the agent
-- itself, and came under the shield of that home where it is a mobility message
pub record IsPassed (me : Identity) (k : Known) (now : ℕ) (shield : Option Shield) (outer inner : Packet) : Type 0 where
  pub careof : Address
  pub registered : careof_at k now inner.head.source ≡ Some careof
  pub from : careof.0 ≡ outer.head.source.0
  pub onward : inner.head.destination.0 ≢ me.own.0
  pub shielded : inner.head.proto ≡ mobility_header → IsShielded shield inner.head.source

-- an acknowledgement is of the update that was handed over, which came under the shield of its home, and tells of the verdict on it
pub record IsTold (me : Identity) (k : Known) (now : ℕ) (shield : Option Shield) (bytes : List ℕ) (claim : Claim) (update : Registration) (status sequence lifetime : ℕ) : Type 0 where
  pub shielded : IsShielded shield (home_of update)
  pub is_in : IsUpdateIn bytes update
  pub tells : Tells update (verdict_at me k now shield claim update) status sequence lifetime

-- an acknowledgement, and the prefix, answer only what came under the shield of the home that they are for; a packet goes into a
-- tunnel only to the registered care-of address
abbrev pub IsRightful : Identity → Known → ℕ → Option Shield → List ℕ → Claim → Sending → Type 0
IsRightful me k now shield bytes claim (SendsInto home careof proto) = careof_at k now home ≡ Some careof
IsRightful me k now shield bytes claim (SendsOut outer inner) = IsPassed me k now shield outer inner
IsRightful me k now shield bytes claim (SendsAck update status sequence lifetime) = IsTold me k now shield bytes claim update status sequence lifetime
IsRightful me k now shield bytes claim (SendsReply source reply) = Unit {0}
IsRightful me k now shield bytes claim (SendsAgents to identifier agents) = Unit {0}
IsRightful me k now shield bytes claim (SendsPrefix home careof identifier valid preferred) = IsShielded shield home × (careof_at k now home ≡ Some careof)

-- each packet that is sent, and each update that is denied, where these bytes were handed over under this shield
abbrev pub SendsRightly : Identity → Known → ℕ → Option Shield → List ℕ → Claim → Step → Type 0
SendsRightly me k now shield bytes claim (Sends under packet) = (x : Sending) × IsPacketOf me bytes x under packet × IsRightful me k now shield bytes claim x
SendsRightly me k now shield bytes claim (Denies number status) = IsDenied me k now shield bytes claim status
SendsRightly me k now shield bytes claim (Drops number why) = is_dropped_why why ≡ true
SendsRightly me k now shield bytes claim _ = Unit {0}

-- a packet to a registered home goes to its care-of address in a tunnel: under the shield of agent and home where it is a
-- mobility message, and else under none
abbrev pub IsTunnelled : (own : Address) → Packet → (careof : Address) → List ℕ → Step → Type 0
IsTunnelled own p careof bytes (Sends under packet) =
    (packet ≡ encapsulated own careof bytes) × (under ≡ (if p.head.proto == mobility_header then Some (record { from = own; to = p.head.destination }) else None))
IsTunnelled own p careof bytes _ = Unit {0}
