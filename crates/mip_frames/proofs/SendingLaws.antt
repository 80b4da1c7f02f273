-- What the link shows of packets that were put on the wire.
use Rattle.std.proofs.Common.{◌≡◌, ℕ, ◌≤◌, List, [], ◌∷◌, ◌++◌, length, true, false, refl, sym, ap, ◌∙◌, append-nil}
use Rattle.std.specs.Prelude.{Bool, Option, Some, None, option_map, Result, Ok, Err, IfOk, OnOk, nat_lt, if◌then◌else◌}
use Rattle.std.proofs.lemmas.Bool.{ltb-false}
use Rattle.std.proofs.lemmas.Grind.{flat_map-append}
use Rattle.mip_words.specs.declared.shield.Shield.{Shield}
use Rattle.mip_outside.specs.Wires.{sent_by}
use Rattle.mip_outside.specs.declared.put.Put.{Put}
use Rattle.mip_outside.specs.declared.put.Put.TheVariants.{Sent, Oversize}
use Rattle.mip_outside.specs.declared.put_fault.PutFault.{PutFault}
use Rattle.mip_frames.specs.Framing.{frame_bytes, frame_of, IsInRange}
use Rattle.mip_frames.specs.Routing.{port_of, put_of, put_for, with_frame, sent_for}
use Rattle.mip_frames.specs.Sending.{packet_of, packet_in, packets_in, packets_of}
use Rattle.mip_frames.specs.declared.route.Route.{Route}
use Rattle.mip_frames.proofs.FrameLaws.{frame_back}

abbrev Packets : Type 0
Packets = List (Option Shield × List ℕ)

same_packets : (items : Option (List (ℕ × List ℕ))) → packets_of items ≡ option_map (λ p. p) (packets_of items)
same_packets None = refl
same_packets (Some items) = refl

one_more : (port : ℕ) (shield : Option Shield) (packet : List ℕ) (items : List (ℕ × List ℕ)) → IsInRange shield → length (frame_bytes shield packet) ≤ 4096
    → packets_in (items ++ (port, frame_bytes shield packet) ∷ []) ≡ packets_in items ++ (shield, packet) ∷ []
unfolding packets_in
one_more port shield packet items fits short =
    flat_map-append packet_in items ((port, frame_bytes shield packet) ∷ []) ∙ ap (λ (l : Packets). packets_in items ++ l)
    (append-nil (packet_of (frame_of (frame_bytes shield packet))) ∙ ap packet_of (frame_back shield packet (frame_bytes shield packet) fits refl short))

put_told : (port : Option ℕ) (shield : Option Shield) (packet : List ℕ) (before : Option (List (ℕ × List ℕ))) → IsInRange shield
    → packets_of (option_map (with_frame port (frame_bytes shield packet)) before)
    ≡ option_map (sent_by (put_of port (frame_bytes shield packet)) shield packet) (packets_of before)
put_told None shield packet None fits = refl
put_told None shield packet (Some items) fits = refl
put_told (Some port) shield packet None fits = refl
put_told (Some port) shield packet (Some items) fits = by (nat_lt 4096 (length (frame_bytes shield packet))) refl
  where
    by : (long : Bool) → nat_lt 4096 (length (frame_bytes shield packet)) ≡ long
        → Some (packets_in (if long then items else items ++ (port, frame_bytes shield packet) ∷ []))
        ≡ Some (sent_by (if long then Oversize else Sent) shield packet (packets_in items))
    by true test = refl
    by false test = ap (λ (l : Packets). Some l) (one_more port shield packet items fits (ltb-false 4096 (length (frame_bytes shield packet)) test))

-- a packet was put on the wire
pub out_told : (routes : List Route) (fallback : Option ℕ) (shield : Option Shield) (packet : List ℕ) (r : Result Put PutFault) (before after : Option (List (ℕ × List ℕ)))
    → IsInRange shield → IfOk r (λ put. put ≡ put_for routes fallback shield packet) → OnOk r (after ≡ option_map (sent_for routes fallback shield packet) before)
    → IfOk r (λ put. packets_of after ≡ option_map (sent_by put shield packet) (packets_of before))
out_told routes fallback shield packet (Err fault) before after fits is told = tt
out_told routes fallback shield packet (Ok put) before after fits is told =
    ap packets_of told ∙ put_told (port_of routes fallback packet) shield packet before fits
    ∙ sym (ap (λ (p : Put). option_map (sent_by p shield packet) (packets_of before)) is)
