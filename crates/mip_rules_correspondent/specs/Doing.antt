-- What a correspondent does about each call: the transition that the call is.
use Rattle.std.specs.Prelude.{ℕ, List, Option, Some, None}
use Rattle.mip_words.specs.declared.address.Address.{Address}
use Rattle.mip_ipv6.specs.declared.head.Head.{Head}
use Rattle.mip_ipv6.specs.Packet.{Packet}
use Rattle.mip_ipv6.specs.Reading.{packet_of}
use Rattle.mip_reception.specs.Says.{message_in}
use Rattle.mip_reception.specs.Packets.{node_head, straight, data_packet}
use Rattle.mip_reception.specs.Messages.{refresh_packet}
use Rattle.mip_rules_correspondent.specs.declared.identity.Identity.{Identity}
use Rattle.mip_rules_correspondent.specs.declared.known.Known.{Known}
use Rattle.mip_rules_correspondent.specs.Calls as calls
use Rattle.mip_rules_correspondent.specs.Calls.{Call}
use Rattle.mip_rules_correspondent.specs.Steps.{Called, Sends, Idles}
use Rattle.mip_rules_correspondent.specs.Questions.{held_of}
use Rattle.mip_rules_correspondent.specs.Transitions.{Transition, begun, noted}
use Rattle.mip_rules_correspondent.specs.Rules.{receives, by_message}

-- a packet is handed to it
unfoldable pub takes : Identity → ℕ → List ℕ → Transition → Transition
takes me number packet t = receives me number packet (packet_of packet) t

-- a packet that has passed its node's checks is handed to the correspondent part of a mobile
unfoldable pub parts : Identity → ℕ → Packet → Transition → Transition
parts me number p t = by_message me number p (message_in p) t

-- a Binding Refresh Request goes to the care-of address that is held for a home, through the home address; nothing
-- where none is held. RFC 6275 sections 6.1.2 and 9.5.5
abbrev pub request_refresh : Identity → Address → Option Address → Transition → Transition
request_refresh me home None t = noted Idles t
request_refresh me home (Some careof) t =
    noted (Sends (refresh_packet me.own careof home)) t

unfoldable pub refreshes : Identity → Address → Transition → Transition
refreshes me home t = request_refresh me home (held_of t.known t.now home) t

-- data goes to the care-of address that is held for its destination, through the destination; straight
-- where none is held. RFC 6275 section 9.3.2
abbrev pub data_head : (own to : Address) (proto : ℕ) → Option Address → Head
data_head own to proto None = straight own to proto
data_head own to proto (Some careof) = node_head own careof (Some to) None proto

abbrev pub data_sent : Identity → Address → ℕ → List ℕ → Option Address → List ℕ
data_sent me to proto payload held = data_packet (data_head me.own to proto held) payload

unfoldable pub transmits : Identity → Address → ℕ → List ℕ → Transition → Transition
transmits me to proto payload t = noted (Sends (data_sent me to proto payload (held_of t.known t.now to))) t

-- what it does about a call that it has got
abbrev pub handles : Identity → Call → Transition → Transition
handles me (calls.Take number shield packet) t = takes me number packet t
handles me (calls.Part number p) t = parts me number p t
handles me calls.Tick t = t
handles me (calls.Refresh home) t = refreshes me home t
handles me (calls.Send to proto payload) t = transmits me to proto payload t

-- each call is a step, and what it does about it follows
unfoldable pub does : Identity → Call → Transition → Transition
does me c t = handles me c (noted (Called c) t)

-- the transition of a call, from what was known before it
abbrev pub transition_of : Identity → Known → ℕ → Call → Transition
transition_of me k now c = does me c (begun now k)
