-- What becomes of a datagram.
use Rattle.std.specs.Prelude.{ℕ, List, [], ◌∷◌, ◌==◌, if◌then◌else◌, Option, Some, None, Result, Ok, Err, codes, decimal, replicate}
use Rattle.std.specs.List.{flat_map}
use Rattle.mip_ipv6.specs.Packet.{Packet}
use Rattle.mip_ipv6.specs.Reading.{packet_of}
use Rattle.mip_ipv6.specs.declared.not_packet.NotPacket.{NotPacket}
use Rattle.mip_lines.specs.Lines.{line_text}
use Rattle.mip_explain.specs.Words.{refusal_word}
use Rattle.mip_frames.specs.Framing.{Framed, frame_of}
use Rattle.mip_hub.specs.Calls.{Call, Sends}
use Rattle.mip_hub.specs.Ports.{port_at}
use Rattle.mip_hub.specs.declared.port_row.PortRow.{PortRow}

pub data Passed : Type 0 where
  -- it is no frame, or its packet is refused
  Dropped : (word : List ℕ) → Passed
  -- no port has its destination
  Gone : Passed
  -- its turn has no copies
  Lost : Passed
  -- it is sent to a port so many times
  To : (port count : ℕ) → Passed

abbrev pub to_port : (copies : ℕ) → Option ℕ → Passed
to_port copies None = Gone
to_port copies (Some port) = if copies == 0 then Lost else To port copies

abbrev pub packet_passed : List PortRow → (copies : ℕ) → Result Packet NotPacket → Passed
packet_passed ports copies (Err why) = Dropped (refusal_word why)
packet_passed ports copies (Ok p) = to_port copies (port_at ports p.head.destination)

abbrev pub frame_passed : List PortRow → (copies : ℕ) → Option Framed → Passed
frame_passed ports copies None = Dropped (codes "frame")
frame_passed ports copies (Some frame) = packet_passed ports copies (packet_of frame.packet)

-- what becomes of a datagram where addresses are at these ports, in a turn with so many copies
unfoldable pub passed : List PortRow → (copies : ℕ) → List ℕ → Passed
passed ports copies datagram = frame_passed ports copies (frame_of datagram)

-- the same bytes go to the port, so many times
unfoldable pub passed_calls : List ℕ → Passed → List Call
passed_calls datagram (To port count) = replicate count (Sends port datagram)
passed_calls datagram _ = []

abbrev pub to_text : (number port : ℕ) → List ℕ
to_text number port = line_text (codes "to" ∷ decimal number ∷ decimal port ∷ [])

-- the lines that tell what became of the datagram with this number
unfoldable pub passed_text : (number : ℕ) → Passed → List ℕ
passed_text number (Dropped word) = line_text (codes "dropped" ∷ decimal number ∷ word ∷ [])
passed_text number Gone = line_text (codes "gone" ∷ decimal number ∷ codes "noholder" ∷ [])
passed_text number Lost = line_text (codes "lost" ∷ decimal number ∷ [])
passed_text number (To port count) = flat_map (to_text number) (replicate count port)
