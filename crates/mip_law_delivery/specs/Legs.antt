-- One leg of the way of data: what a node was handed, and what it knows of it. RFC 6275 sections 9.3, 10.4 and 11.3
use Rattle.std.specs.Prelude.{◌≡◌, ◌≢◌, ℕ, ◌<◌, ◌≤◌, List, ◌∷◌, length, Bool, true, false, Option, Some, None, is_some, Ok}
use Rattle.mip_words.specs.Protocols.{ipv6, mobility_header}
use Rattle.mip_words.specs.declared.address.Address.{Address}
use Rattle.mip_ipv6.specs.declared.head.Head.{Head}
use Rattle.mip_ipv6.specs.Packet.{Packet, is_plain, source_of, destination_of}
use Rattle.mip_ipv6.specs.PacketLaws.{IsInRange}
use Rattle.mip_ipv6.specs.Reading.{packet_of}
use Rattle.mip_ipv6.specs.Spelling.{behind_bytes}
use Rattle.mip_entries.specs.declared.answer.Answer.{Answer}
use Rattle.mip_entries.specs.declared.answer.Answer.TheVariants.{Note}
use Rattle.mip_entries.specs.declared.entry.Entry.TheVariants.{Up}
use Rattle.mip_ipv6.specs.Tunnel.{hop_of, opened}
use Rattle.mip_reception.specs.Checks.{checked}
use Rattle.mip_rules_correspondent.specs.Steps.{myself}
use Rattle.mip_rules_correspondent.specs.Rules as correspondents
use Rattle.mip_rules_correspondent.specs.Rules.{is_data, place_in}
use Rattle.mip_rules_correspondent.specs.declared.identity.Identity as correspondent
use Rattle.mip_rules_correspondent.specs.declared.known.Known as correspondent_known
use Rattle.mip_rules_agent.specs.declared.identity.Identity as agent
use Rattle.mip_rules_agent.specs.Known as agent_known
use Rattle.mip_rules_agent.specs.Questions.{careof_at}
use Rattle.mip_rules_agent.specs.Rules as agents
use Rattle.mip_rules_agent.specs.Rules.{is_careof}
use Rattle.mip_rules_mobile.specs.declared.attachment.Attachment.{Attachment}
use Rattle.mip_rules_mobile.specs.declared.attachment.Attachment.TheVariants.{Detached, AtHome, Away}
use Rattle.mip_rules_mobile.specs.Known as mobile_known
use Rattle.mip_rules_mobile.specs.HomeQuestions.{home_of, registered_agent, agent_of}
use Rattle.mip_rules_mobile.specs.ReceivingRules as mobiles

-- data with this head can be written in a packet
pub record CanBeSent (head : Head) (payload : List ℕ) : Type 0 where
  pub plain : is_plain head ≡ true
  pub range : IsInRange head
  pub size : length (behind_bytes (record { head = head; body = payload })) < 65536

-- a mobile can send from its home address: at home, or away and registered with an agent. RFC 6275 section 11.3.1
abbrev pub sends_from : Attachment → Option Address → Bool
sends_from Detached agent = false
sends_from AtHome agent = true
sends_from (Away careof) agent = is_some agent

abbrev pub can_send : mobile_known.Known → ℕ → Bool
can_send k now = sends_from k.standing (registered_agent k now)

-- the entry of data that is handed up, with home addresses restored; a role writes 0 for its own number
abbrev pub up : ℕ → Packet → Answer
up number p = Note (Up myself number (source_of p.head) (destination_of p.head) p.head.proto p.body)

-- these answers begin with this one
pub record BeginsWith (first : Answer) (answers : List Answer) : Type 0 where
  pub rest : List Answer
  pub is : answers ≡ first ∷ rest

-- a home agent was handed a packet for a home that it has registered, and can put it into a tunnel. RFC 6275 section 10.4.1
pub record IsForHome (k : agent_known.Known) (now : ℕ) (bytes : List ℕ) (p : Packet) (careof : Address) : Type 0 where
  pub read : packet_of bytes ≡ Ok p
  pub registered : careof_at k now p.head.destination ≡ Some careof
  pub hop : 2 ≤ hop_of bytes
  pub size : length bytes ≤ 65535

-- a home agent was handed a packet in the tunnel of a home that it has registered, which goes further and has no mobility
-- message. RFC 6275 section 10.4.5
pub record IsFromHome (me : agent.Identity) (k : agent_known.Known) (now : ℕ) (bytes : List ℕ) (outer inner : Packet) : Type 0 where
  pub read : packet_of bytes ≡ Ok outer
  pub tunnel : outer.head.proto ≡ ipv6
  pub exit : outer.head.destination.0 ≡ me.own.0
  pub own : careof_at k now outer.head.destination ≡ None
  pub passes : checked (agents.standing_of me k now outer.head) (agents.place_in bytes outer) outer ≡ Ok None
  pub inside : packet_of outer.body ≡ Ok inner
  pub registered : is_careof k now inner.head.source outer.head.source ≡ true
  pub further : inner.head.destination.0 ≢ me.own.0
  pub plain : inner.head.proto ≢ mobility_header

-- a correspondent was handed data that passes its checks. RFC 6275 section 9.3.1
pub record IsDataHere (me : correspondent.Identity) (k : correspondent_known.Known) (now : ℕ) (bytes : List ℕ) (p : Packet) : Type 0 where
  pub read : packet_of bytes ≡ Ok p
  pub plain : is_data p.head.proto ≡ true
  pub passes : checked (correspondents.standing_of me k now p.head) (place_in bytes p) p ≡ Ok None

-- a mobile was handed data outside a tunnel that passes its checks. RFC 6275 sections 9.3.1 and 11.3.3
pub record IsDataStraight (k : mobile_known.Known) (now : ℕ) (bytes : List ℕ) (p : Packet) : Type 0 where
  pub read : packet_of bytes ≡ Ok p
  pub plain : is_data p.head.proto ≡ true
  pub passes : checked (mobiles.standing_of k now p.head) (place_in bytes p) p ≡ Ok None

-- a mobile was handed data for its home address in the tunnel of its agent, and both packets pass their checks
pub record IsDataTunnelled (k : mobile_known.Known) (now : ℕ) (bytes : List ℕ) (outer p : Packet) : Type 0 where
  pub read : packet_of bytes ≡ Ok outer
  pub tunnel : outer.head.proto ≡ ipv6
  pub passes : checked (mobiles.standing_of k now outer.head) (place_in bytes outer) outer ≡ Ok None
  pub agent : Address
  pub is_agent : agent_of k now ≡ Some agent
  pub inside : opened agent outer ≡ Ok p
  pub plain : is_data p.head.proto ≡ true
  pub home : p.head.destination.0 ≡ (home_of k).0
  pub straight : is_some p.head.route ≡ false
  pub inner_passes : checked (mobiles.inner_standing k now p.head) (place_in outer.body p) p ≡ Ok None
