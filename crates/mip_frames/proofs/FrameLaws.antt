-- A frame and its bytes, both ways.
use Rattle.std.proofs.Common.{◌≡◌, ℕ, ◌+◌, ◌<◌, ◌≤◌, ◌^◌, List, [], ◌∷◌, ◌++◌, length, take, drop, refl, sym, ap, ◌∙◌, subst, arith, length-append}
use Rattle.std.specs.Prelude.{Bool, true, false, ◌==◌, nat_lt, if◌then◌else◌, Option, Some, None, IfSome, option_map}
use Rattle.std.proofs.lemmas.Bool.{cond-false, le-ltb, ltb-false, eqb-true}
use Rattle.std.proofs.lemmas.List.{append_assoc, take-append-drop, drop-drop, drop_at}
use Rattle.mip_words.specs.Numbers.{IsBytes, number_at, number_bytes}
use Rattle.mip_words.specs.Addresses.{address_bytes}
use Rattle.mip_words.specs.declared.shield.Shield.{Shield}
use Rattle.mip_words.proofs.Fields.{IsBytes-rest, length-number_bytes, number_at-number_bytes, number_at-behind, number_bytes-number_at}
use Rattle.mip_frames.specs.declared.frame.Frame.{Frame}
use Rattle.mip_frames.specs.Framing.{Framed, framed, frame_bytes, shield_at, shielded_in, carried_in, frame_of, IsInRange}

-- how long a frame is
pub length_plain : (packet : List ℕ) → length (frame_bytes None packet) ≡ 1 + length packet
unfolding frame_bytes
length_plain packet = omega arith

pub length_shielded : (shield : Shield) (packet : List ℕ) → length (frame_bytes (Some shield) packet) ≡ 33 + length packet
unfolding frame_bytes
length_shielded shield packet =
    omega (
      arith,
      length-append (address_bytes shield.from) (address_bytes shield.to ++ packet),
      length-append (address_bytes shield.to) packet,
      length-number_bytes 16 shield.from.0,
      length-number_bytes 16 shield.to.0,
    )

-- a frame that was written carries what was written
shielded_written : (shield : Shield) (packet : List ℕ) → shield.from.0 < 2 ^ 128 → shield.to.0 < 2 ^ 128
    → shielded_in (address_bytes shield.from ++ (address_bytes shield.to ++ packet)) ≡ Some (record { shield = Some shield; packet = packet })
shielded_written shield packet from to =
    let first = address_bytes shield.from in
    let second = address_bytes shield.to in
    let size-first : length first ≡ 16 = length-number_bytes 16 shield.from.0 in
    let size-second : length second ≡ 16 = length-number_bytes 16 shield.to.0 in
    let size : length (first ++ (second ++ packet)) ≡ 32 + length packet = omega (arith, length-append first (second ++ packet), length-append second packet, size-first, size-second) in
    let begins : number_at 16 0 (first ++ (second ++ packet)) ≡ shield.from.0 = number_at-number_bytes 16 shield.from.0 (second ++ packet) from in
    let ends : number_at 16 16 (first ++ (second ++ packet)) ≡ shield.to.0 =
    number_at-behind 16 16 0 first (second ++ packet) (omega (arith, size-first)) ∙ number_at-number_bytes 16 shield.to.0 packet to in
    let behind : drop 32 (first ++ (second ++ packet)) ≡ packet =
    ap (drop 32) (sym (append_assoc first second packet)) ∙ drop_at (first ++ second) packet 32 (omega (arith, length-append first second, size-first, size-second)) in
    cond-false _ _ _ (le-ltb (length (first ++ (second ++ packet))) 32 (omega (arith, size))) ∙ by begins ends behind
  where
    by : {a b c d : ℕ} {xs ys : List ℕ} → a ≡ c → b ≡ d → xs ≡ ys
        → Some (let f : Framed = record { shield = Some (record { from = record { 0 = a }; to = record { 0 = b } }); packet = xs } in f)
        ≡ Some (record { shield = Some (record { from = record { 0 = c }; to = record { 0 = d } }); packet = ys })
    by x y z = cc

carried_written : (shield : Option Shield) (packet : List ℕ) → IsInRange shield → carried_in (frame_bytes shield packet) ≡ Some (record { shield = shield; packet = packet })
unfolding frame_bytes
carried_written None packet fits = refl
carried_written (Some shield) packet fits = shielded_written shield packet fits.0 fits.1

frame_read : (shield : Option Shield) (packet : List ℕ) → IsInRange shield → length (frame_bytes shield packet) ≤ 4096
    → frame_of (frame_bytes shield packet) ≡ Some (record { shield = shield; packet = packet })
unfolding frame_of
frame_read shield packet fits short = cond-false _ _ _ (le-ltb 4096 (length (frame_bytes shield packet)) short) ∙ carried_written shield packet fits

pub frame_back : (shield : Option Shield) (packet bytes : List ℕ) → IsInRange shield → bytes ≡ frame_bytes shield packet → length bytes ≤ 4096
    → frame_of bytes ≡ Some (record { shield = shield; packet = packet })
frame_back shield packet bytes fits is short =
    ap frame_of is ∙ frame_read shield packet fits (subst (λ (l : List ℕ). length l ≤ 4096) is short)

-- a frame that was read has the bytes of what it carries
shielded_found : (rest : List ℕ) (f : Framed) → IsBytes rest → shielded_in rest ≡ Some f → (1 ∷ rest) ≡ frame_bytes f.shield f.packet
unfolding frame_bytes
shielded_found rest f are e = by (nat_lt (length rest) 32) refl e
  where
    by : (short : Bool) → nat_lt (length rest) 32 ≡ short
        → (if short then None else Some (record { shield = Some (shield_at rest); packet = drop 32 rest })) ≡ Some f
        → (1 ∷ rest) ≡ frame_bytes f.shield f.packet
    by true test e = absurd cc
    by false test e =
        let long : 32 ≤ length rest = ltb-false (length rest) 32 test in
        let is : f ≡ record { shield = Some (shield_at rest); packet = drop 32 rest } = cc in
        let first : number_bytes 16 (number_at 16 0 rest) ≡ take 16 rest = number_bytes-number_at 16 0 rest are (omega arith) in
        let second : number_bytes 16 (number_at 16 16 rest) ≡ take 16 (drop 16 rest) = number_bytes-number_at 16 16 rest are (omega arith) in
        let back : take 16 rest ++ (take 16 (drop 16 rest) ++ drop 32 rest) ≡ rest =
        ap (λ (l : List ℕ). take 16 rest ++ (take 16 (drop 16 rest) ++ l)) (sym (drop-drop 16 16 rest))
        ∙ ap (λ (l : List ℕ). take 16 rest ++ l) (take-append-drop 16 (drop 16 rest)) ∙ take-append-drop 16 rest in
        subst (λ (g : Framed). (1 ∷ rest) ≡ frame_bytes g.shield g.packet) (sym is)
        (ap (λ (l : List ℕ). 1 ∷ l) (sym back ∙ ap (λ (l : List ℕ). l ++ (take 16 (drop 16 rest) ++ drop 32 rest)) (sym first)
        ∙ ap (λ (l : List ℕ). number_bytes 16 (number_at 16 0 rest) ++ (l ++ drop 32 rest)) (sym second)))

carried_found : (datagram : List ℕ) (f : Framed) → IsBytes datagram → carried_in datagram ≡ Some f → datagram ≡ frame_bytes f.shield f.packet
unfolding frame_bytes
carried_found [] f are e = absurd cc
carried_found (kind ∷ rest) f are e = by (kind == 0) refl (kind == 1) refl e
  where
    by : (plain : Bool) → (kind == 0) ≡ plain → (shielded : Bool) → (kind == 1) ≡ shielded
        → (if plain then Some (record { shield = None; packet = rest }) else if shielded then shielded_in rest else None) ≡ Some f
        → (kind ∷ rest) ≡ frame_bytes f.shield f.packet
    by true test shielded other e =
        let is : f ≡ record { shield = None; packet = rest } = cc in
        subst (λ (g : Framed). (kind ∷ rest) ≡ frame_bytes g.shield g.packet) (sym is) (ap (λ (k : ℕ). k ∷ rest) (eqb-true kind 0 test))
    by false test true other e = ap (λ (k : ℕ). k ∷ rest) (eqb-true kind 1 other) ∙ shielded_found rest f (IsBytes-rest kind rest are) e
    by false test false other e = absurd cc

frame_found : (datagram : List ℕ) (f : Framed) → IsBytes datagram → frame_of datagram ≡ Some f → datagram ≡ frame_bytes f.shield f.packet
unfolding frame_of
frame_found datagram f are e = by (nat_lt 4096 (length datagram)) e
  where
    by : (long : Bool) → (if long then None else carried_in datagram) ≡ Some f → datagram ≡ frame_bytes f.shield f.packet
    by true e = absurd cc
    by false e = carried_found datagram f are e

pub found_if : (datagram : List ℕ) (r : Option Frame) → IsBytes datagram → option_map framed r ≡ frame_of datagram
    → IfSome r (λ f. datagram ≡ frame_bytes f.shield f.packet.now)
found_if datagram (Some f) are e = frame_found datagram (framed f) are (sym e)
found_if datagram None are e = tt
