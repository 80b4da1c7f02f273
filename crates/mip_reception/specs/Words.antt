-- The words for what is refused.
use Rattle.mip_words.specs.declared.why.Why.{Why}
use Rattle.mip_words.specs.declared.why.Why.TheVariants as whys
use Rattle.mip_ipv6.specs.declared.not_packet.NotPacket.{NotPacket}
use Rattle.mip_ipv6.specs.declared.not_packet.NotPacket.TheVariants as packets
use Rattle.mip_mobhdr.specs.declared.fault.Fault.{Fault}
use Rattle.mip_mobhdr.specs.declared.fault.Fault.TheVariants as faults

-- bytes that are no packet
abbrev pub packet_why : NotPacket → Why
packet_why packets.Short = whys.Short
packet_why packets.Version = whys.Version
packet_why packets.Length = whys.Length
packet_why (packets.Header number) = whys.Header
packet_why packets.Route = whys.Route
packet_why (packets.Option type) = whys.Option

-- a body that is no message
abbrev pub message_why : Fault → Why
message_why faults.Size = whys.Size
message_why faults.Checksum = whys.Checksum
message_why (faults.Unknown type) = whys.Kind
message_why faults.Proto = whys.Proto
message_why faults.HeaderLen = whys.HeaderLen
message_why (faults.Option place) = whys.MobilityOption
