-- A packet's headers as C has them.
use Rattle.std.specs.Prelude.{◌≡◌, ℕ, ◌+◌, ◌-◌, length, replicate, false, is_some, Result, Ok, Err}
use Rattle.mip_words.specs.Addresses.{address_at, address_bytes}
use Rattle.mip_ipv6.specs.declared.head.Head.{Head}
use Rattle.mip_ipv6.specs.declared.not_packet.NotPacket.{NotPacket}
use Rattle.mip_ipv6.specs.declared.not_packet.NotPacket.TheVariants.{Short, Version, Length, Header, Route, Option as BadOption}
use Rattle.mip_ipv6.specs.Packet.{Packet, source_of, destination_of}
use Rattle.mip_c.specs.declared.packet_fields.PacketFields.{PacketFields}
use Rattle.mip_c_words.specs.Addresses.{bytes_if_any, some_if}

-- the fields of a head whose body begins at a place
abbrev pub fields_of : Head → ℕ → PacketFields
fields_of head place = record {
  source = address_bytes head.source;
  destination = address_bytes head.destination;
  hop = head.hop;
  traffic_class = head.class;
  flow = head.flow;
  has_route = is_some head.route;
  route = bytes_if_any head.route;
  has_home = is_some head.home;
  home = bytes_if_any head.home;
  proto = head.proto;
  body = place;
  refused = 0;
  sender = address_bytes (source_of head);
  receiver = address_bytes (destination_of head);
}

-- the head that such fields say
abbrev pub head_of : PacketFields → Head
head_of fields = record {
  source = address_at 0 fields.source;
  destination = address_at 0 fields.destination;
  hop = fields.hop;
  class = fields.traffic_class;
  flow = fields.flow;
  route = some_if fields.has_route (address_at 0 fields.route);
  home = some_if fields.has_home (address_at 0 fields.home);
  proto = fields.proto;
}

-- the status of a refusal, from a first one on: 16 for a packet, 24 for one in a tunnel packet
abbrev pub refusal_status : ℕ → NotPacket → ℕ
refusal_status first Short = first
refusal_status first Version = first + 1
refusal_status first Length = first + 2
refusal_status first (Header n) = first + 3
refusal_status first Route = first + 4
refusal_status first (BadOption t) = first + 5

-- the next-header number or the type of the option that is refused
abbrev pub refused_number : NotPacket → ℕ
refused_number (Header n) = n
refused_number (BadOption t) = t
refused_number Short = 0
refused_number Version = 0
refused_number Length = 0
refused_number Route = 0

-- nothing but what is refused
abbrev pub refused_fields : ℕ → PacketFields
refused_fields number = record {
  source = replicate 16 0;
  destination = replicate 16 0;
  hop = 0;
  traffic_class = 0;
  flow = 0;
  has_route = false;
  route = replicate 16 0;
  has_home = false;
  home = replicate 16 0;
  proto = 0;
  body = 0;
  refused = number;
  sender = replicate 16 0;
  receiver = replicate 16 0;
}

-- a call tells what a reading of so many bytes gives: the packet, or why there is none
abbrev pub TellsPacket : ℕ → ℕ → Result Packet NotPacket → ℕ → PacketFields → Type 0
TellsPacket first size (Ok p) status fields = (status ≡ 0) × (fields ≡ fields_of p.head (size - length p.body))
TellsPacket first size (Err refusal) status fields = (status ≡ refusal_status first refusal) × (fields ≡ refused_fields (refused_number refusal))
