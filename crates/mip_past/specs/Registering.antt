-- The agent with which a mobile registers, as its entries tell it: that of its registration, else the one to which it sent its last home
-- registration. RFC 6275 sections 11.3.1, 11.5.5 and 11.7.1
use Rattle.std.specs.Prelude.{ℕ, List, not, ◌&&◌, ◌==◌, if◌then◌else◌, Option, Some, None, option_map, Result, Ok, Err}
use Rattle.std.specs.Option.{option_or}
use Rattle.mip_words.specs.declared.address.Address.{Address}
use Rattle.mip_words.specs.Asked.{asked}
use Rattle.mip_ipv6.specs.declared.not_packet.NotPacket.{NotPacket}
use Rattle.mip_ipv6.specs.Packet.{Packet}
use Rattle.mip_ipv6.specs.Reading.{packet_of}
use Rattle.mip_mobhdr.specs.Said.{Said}
use Rattle.mip_packets.specs.Says.{message_in}
use Rattle.mip_entries.specs.declared.entry.Entry.{Entry}
use Rattle.mip_entries.specs.declared.entry.Entry.TheVariants as entries
use Rattle.mip_reception.specs.declared.registration.Registration.{Registration}
use Rattle.mip_reception.specs.Registrations.{registration_said, deletes}
use Rattle.mip_history.specs.Told.{agent_in}

-- the agent that an update with this destination asks to register a home; none where it is for a peer, or ends a registration
abbrev pub agent_asked : (to : Address) → Option Registration → Option Address
agent_asked to None = None
agent_asked to (Some r) = if r.for_agent && not (deletes r) then Some to else None

abbrev pub agent_by : Packet → Option Said → Option Address
agent_by p None = None
agent_by p (Some message) = agent_asked p.head.destination (registration_said p.head.source p.head.home (Ok message))

-- the agent that a packet asks
abbrev pub packet_agent : Result Packet NotPacket → Option Address
packet_agent (Ok p) = agent_by p (message_in p)
packet_agent (Err fault) = None

-- where mobile n sent a home registration, which it does under its shield; a restart forgets it
abbrev pub sent_to : ℕ → Entry → Option (Option Address)
sent_to n (entries.Sent number node shielded packet) = if (n == node.0) && shielded then option_map (λ a. Some a) (packet_agent (packet_of packet)) else None
sent_to n (entries.Restarted node) = if n == node.0 then Some None else None
sent_to n _ = None

-- the agent to which it sent its last one in its present life
abbrev pub last_sent_to : List Entry → ℕ → Option Address
last_sent_to past n = asked (sent_to n) None past

-- the agent for tunnels, deregistrations and prefix messages
abbrev pub agent_of_told : (now : ℕ) → List Entry → ℕ → Option Address
agent_of_told now past n = option_or (agent_in now past n) (last_sent_to past n)
