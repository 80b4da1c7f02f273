-- Laws and invariants of Passing: only proofs stand on them.
use Rattle.std.specs.Prelude.{◌≡◌, ℕ, List, Some, Ok}
use Rattle.std.specs.List.{flat_map}
use Rattle.mip_ipv6.specs.Packet.{Packet}
use Rattle.mip_ipv6.specs.Reading.{packet_of}
use Rattle.mip_frames.specs.Framing.{Framed, frame_of}
use Rattle.mip_hub.specs.Calls.{sent_by}
use Rattle.mip_hub.specs.Ports.{port_at}
use Rattle.mip_hub.specs.declared.port_row.PortRow.{PortRow}
use Rattle.mip_hub.specs.Passing.{passed, passed_calls}

-- a datagram is a frame whose packet is read, and this port has its destination
pub record HasPort (ports : List PortRow) (datagram : List ℕ) (port : ℕ) : Type 0 where
  pub frame : Framed
  pub packet : Packet
  pub framed : frame_of datagram ≡ Some frame
  pub read : packet_of frame.packet ≡ Ok packet
  pub here : port_at ports packet.head.destination ≡ Some port

-- what is sent on for a datagram
abbrev pub sent_for : List PortRow → (copies : ℕ) → List ℕ → List (ℕ × List ℕ)
sent_for ports copies datagram = flat_map sent_by (passed_calls datagram (passed ports copies datagram))
