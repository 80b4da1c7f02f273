-- What is sent on for a datagram.
use Rattle.std.proofs.Common.{◌≡◌, ℕ, zero, suc, List, [], ◌∷◌, refl, sym, ap, ◌∙◌, inl, inr, Bool, true, false, cond}
use Rattle.std.specs.Prelude.{Option, Some, None, Result, Ok, Err, ◌⊎◌, replicate, ◌==◌}
use Rattle.std.specs.List.{flat_map}
use Rattle.std.proofs.lemmas.Bool.{eqb-true}
use Rattle.mip_ipv6.specs.Packet.{Packet}
use Rattle.mip_ipv6.specs.Reading.{packet_of}
use Rattle.mip_ipv6.specs.declared.not_packet.NotPacket.{NotPacket}
use Rattle.mip_frames.specs.Framing.{Framed, frame_of}
use Rattle.mip_hub.specs.Calls.{Sends, sent_by}
use Rattle.mip_hub.specs.Passing.{Passed, Lost, To, to_port, packet_passed, frame_passed, passed, passed_calls}
use Rattle.mip_hub.specs.PassingLaws.{HasPort, sent_for}
use Rattle.mip_hub.specs.Ports.{port_at}
use Rattle.mip_hub.specs.declared.port_row.PortRow.{PortRow}

copies_sent : (port : ℕ) (datagram : List ℕ) (count : ℕ) → flat_map sent_by (replicate count (Sends port datagram)) ≡ replicate count (port, datagram)
copies_sent port datagram zero = refl
copies_sent port datagram (suc n) = ap (λ (l : List (ℕ × List ℕ)). (port, datagram) ∷ l) (copies_sent port datagram n)

port_sent : (copies port : ℕ) (datagram : List ℕ) → flat_map sent_by (passed_calls datagram (to_port copies (Some port))) ≡ replicate copies (port, datagram)
unfolding passed_calls
port_sent copies port datagram = by (copies == 0) refl
  where
    by : (b : Bool) → (copies == 0) ≡ b → flat_map sent_by (passed_calls datagram (cond b Lost (To port copies))) ≡ replicate copies (port, datagram)
    by true test = sym (ap (λ (n : ℕ). replicate n (port, datagram)) (eqb-true copies 0 test))
    by false test = copies_sent port datagram copies

pub passes : (ports : List PortRow) (copies : ℕ) (datagram : List ℕ) (port : ℕ) → HasPort ports datagram port → sent_for ports copies datagram ≡ replicate copies (port, datagram)
unfolding passed
passes ports copies datagram port has =
    let way : frame_passed ports copies (frame_of datagram) ≡ to_port copies (Some port) =
    ap (frame_passed ports copies) has.framed ∙ ap (packet_passed ports copies) has.read ∙ ap (to_port copies) has.here in
    ap (λ (p : Passed). flat_map sent_by (passed_calls datagram p)) way ∙ port_sent copies port datagram

abbrev Either : List PortRow → ℕ → List ℕ → Passed → Type 0
Either ports copies datagram p = (flat_map sent_by (passed_calls datagram p) ≡ []) ⊎ ((port : ℕ) × HasPort ports datagram port)

pub only : (ports : List PortRow) (copies : ℕ) (datagram : List ℕ) → (sent_for ports copies datagram ≡ []) ⊎ ((port : ℕ) × HasPort ports datagram port)
unfolding passed passed_calls
only ports copies datagram = by_frame (frame_of datagram) refl
  where
    by_port : (frame : Framed) (packet : Packet) → frame_of datagram ≡ Some frame → packet_of frame.packet ≡ Ok packet
        → (found : Option ℕ) → port_at ports packet.head.destination ≡ found → Either ports copies datagram (to_port copies found)
    by_port frame packet framed read None here = inl refl
    by_port frame packet framed read (Some port) here = inr (port, record { frame = frame; packet = packet; framed = framed; read = read; here = here })

    by_packet : (frame : Framed) → frame_of datagram ≡ Some frame → (r : Result Packet NotPacket) → packet_of frame.packet ≡ r → Either ports copies datagram (packet_passed ports copies r)
    by_packet frame framed (Err why) read = inl refl
    by_packet frame framed (Ok packet) read = by_port frame packet framed read (port_at ports packet.head.destination) refl

    by_frame : (f : Option Framed) → frame_of datagram ≡ f → Either ports copies datagram (frame_passed ports copies f)
    by_frame None framed = inl refl
    by_frame (Some frame) framed = by_packet frame framed (packet_of frame.packet) refl
