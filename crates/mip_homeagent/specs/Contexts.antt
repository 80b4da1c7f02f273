-- A packet that is handed over, as the rules see it.
use Rattle.std.specs.Prelude.{◌≡◌, ◌≤◌, ◌<◌, ◌^◌, ◌-◌, ℕ, List, length, IsTrue, Option, Result, IfOk}
use Rattle.mip_ipv6.specs.declared.head.Head.{Head}
use Rattle.mip_ipv6.specs.declared.packet_ref.PacketRef.{PacketRef}
use Rattle.mip_ipv6.specs.Packet.{source_of, packet, is_routable_if_any}
use Rattle.mip_outside.specs.declared.claim.Claim.{Claim}
use Rattle.mip_outside.specs.Places.{Around, claim_in}
use Rattle.mip_rules_agent.specs.Rules.{Handing, place_in}
use Rattle.mip_homeagent.specs.declared.packet_context.PacketContext.{PacketContext}
use Rattle.mip_rules_agent.specs.Transitions.{Transition}
use Rattle.mip_homeagent.specs.declared.response.Response.{Response}
use Rattle.mip_homeagent.specs.Showing.{Leads, opened}

abbrev pub handing_at : PacketContext → Claim → Handing
handing_at d claim = record {
  me = d.identity.now;
  now = d.moment.0;
  known = opened d.moment.0 d.known.now;
  number = d.number;
  shield = d.shield;
  bytes = d.bytes.now;
  claim = claim;
}

-- a packet that was read from these bytes: its home may stand in a routing header, and its body, so long at most, stands there
pub record IsRead (bytes : List ℕ) (p : PacketRef) : Type 0 where
  pub plain : IsTrue (is_routable_if_any p.head.home)
  pub short : length p.body.now ≤ 65535
  pub placed : p.place ≡ place_in bytes (packet p)
  pub near : p.place < 2 ^ 32 - 1

-- what a place answers to a claim of the home address of a packet
abbrev pub claim_of : Around → Head → Claim
claim_of around head = claim_in around (source_of head).0

-- a rule for a packet that is handed over: the answers, and the registration that it accepts, if it does
abbrev pub Follows : {E : Type 0} → PacketContext → Result Response E → (Transition → Transition) → Type 0
Follows d result rule = IfOk result (λ response. Leads rule d.moment.0 (opened d.moment.0 d.known.now) response.answers response.change)
