-- The packets that a home agent sends, one kind a line: what it was handed, in or out of a tunnel, or a message of its
-- own. RFC 6275 sections 10.3 to 10.6
use Rattle.std.specs.Prelude.{◌≡◌, ℕ, ◌≤◌, List, length, true, Option, Some, None, Ok}
use Rattle.mip_words.specs.Protocols.{ipv6}
use Rattle.mip_words.specs.declared.address.Address.{Address}
use Rattle.mip_words.specs.declared.shield.Shield.{Shield}
use Rattle.mip_ipv6.specs.Packet.{Packet}
use Rattle.mip_ipv6.specs.Reading.{packet_of}
use Rattle.mip_ipv6.specs.Tunnel.{encapsulated}
use Rattle.mip_discovery.specs.declared.agent.Agent.{Agent}
use Rattle.mip_discovery.specs.Reply.{discovery_reply}
use Rattle.mip_reception.specs.declared.reply.Reply.{Reply}
use Rattle.mip_reception.specs.Replies.{reply_packet}
use Rattle.mip_reception.specs.declared.registration.Registration.{Registration}
use Rattle.mip_reception.specs.Registrations.{home_of}
use Rattle.mip_reception.specs.Acks.{ack_packet}
use Rattle.mip_entries.specs.Reasons.{is_dropped_why}
use Rattle.mip_rules_agent.specs.declared.identity.Identity.{Identity}
use Rattle.mip_rules_agent.specs.Steps.{Step, Sends, Drops}
use Rattle.mip_rules_agent.specs.Messages.{shield_to, prefix_packet}
use Rattle.mip_rules_agent.specs.Rules.{shield_for}

pub data Sending : Type 0 where
  -- the packet that was handed over, in a tunnel to a care-of address
  SendsInto : (home careof : Address) (proto : ℕ) → Sending
  -- the packet that came in the tunnel that was handed over
  SendsOut : (outer inner : Packet) → Sending
  -- the acknowledgement of an update
  SendsAck : (update : Registration) (status sequence lifetime : ℕ) → Sending
  -- what goes back to the source of a packet that was refused
  SendsReply : (source : Address) (reply : Reply) → Sending
  -- the home agents of the link
  SendsAgents : (to : Address) (identifier : ℕ) (agents : List Agent) → Sending
  -- the prefix of the link, to the care-of address of a home
  SendsPrefix : (home careof : Address) (identifier valid preferred : ℕ) → Sending

-- this is the shield and the packet, where these bytes were handed over
abbrev pub IsPacketOf : Identity → List ℕ → Sending → Option Shield → List ℕ → Type 0
IsPacketOf me bytes (SendsInto home careof proto) shield packet =
    (shield ≡ shield_for me.own home proto) × (packet ≡ encapsulated me.own careof bytes) × (length bytes ≤ 65535)
IsPacketOf me bytes (SendsOut outer inner) shield packet =
    (shield ≡ None) × (packet ≡ outer.body) × (packet_of bytes ≡ Ok outer) × (outer.head.proto ≡ ipv6) × (packet_of outer.body ≡ Ok inner)
IsPacketOf me bytes (SendsAck update status sequence lifetime) shield packet = (shield ≡ shield_to me.own (home_of update)) × (packet ≡ ack_packet me.own update status sequence lifetime None)
IsPacketOf me bytes (SendsReply source reply) shield packet = (shield ≡ None) × (reply_packet me.own source bytes reply ≡ Some packet)
IsPacketOf me bytes (SendsAgents to identifier agents) shield packet = (shield ≡ None) × (packet ≡ discovery_reply me.own me.preference to identifier agents)
IsPacketOf me bytes (SendsPrefix home careof identifier valid preferred) shield packet = (shield ≡ shield_to me.own home) × (packet ≡ prefix_packet me.own home careof identifier valid preferred)

-- a packet that the step sends, in a call that hands over these bytes, is one of these; one that it drops is dropped for a
-- reason of that kind
abbrev pub SendsOwn : Identity → List ℕ → Step → Type 0
SendsOwn me bytes (Sends shield packet) = (x : Sending) × IsPacketOf me bytes x shield packet
SendsOwn me bytes (Drops number why) = is_dropped_why why ≡ true
SendsOwn me bytes _ = Unit {0}
