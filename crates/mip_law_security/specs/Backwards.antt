-- Where an acknowledgement goes. RFC 6275 sections 6.1.8 and 9.5.4
use Rattle.std.specs.Prelude.{◌≡◌, ◌≢◌, ◌⊎◌, ℕ, List, Option, Some, None}
use Rattle.mip_words.specs.declared.address.Address.{Address}
use Rattle.mip_ipv6.specs.Packet.{Packet}
use Rattle.mip_ipv6.specs.Spelling.{packet_bytes}
use Rattle.mip_rules_correspondent.specs.declared.identity.Identity.{Identity}
use Rattle.mip_rules_correspondent.specs.Calls.{Call}
use Rattle.mip_rules_correspondent.specs.Steps.{Step, Sends}
use Rattle.mip_rules_correspondent.specs.Sendings.{Sending, IsPacketOf}
use Rattle.mip_rules_correspondent.specs.Answering.{IsNoAck}

-- these bytes are a packet from a node back to the source of an update: with a routing header that names the Home Address option
-- of the update, where it had one that is another address than its source, and else with none; and with no option of its own
pub record GoesBack (own source : Address) (option : Option Address) (bytes : List ℕ) : Type 0 where
  pub packet : Packet
  pub is : bytes ≡ packet_bytes packet
  pub from : packet.head.source ≡ own
  pub to : packet.head.destination ≡ source
  pub bare : packet.head.home ≡ None
  pub straight : option ≡ None → packet.head.route ≡ None
  pub routed : (home : Address) → option ≡ Some home → home.0 ≢ source.0 → packet.head.route ≡ Some home
  pub same : (home : Address) → option ≡ Some home → home.0 ≡ source.0 → packet.head.route ≡ None

-- a packet that is sent about this one is no acknowledgement, or goes back so
abbrev pub SendsBack : Identity → Call → (now : ℕ) → Packet → Step → Type 0
SendsBack me c now about (Sends bytes) = ((x : Sending) × IsNoAck x × IsPacketOf me c now x bytes) ⊎ GoesBack me.own about.head.source about.head.home bytes
SendsBack me c now about _ = Unit {0}
