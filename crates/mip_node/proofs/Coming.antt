-- What was received is the next item of the link.
use Rattle.std.proofs.Common.{◌≡◌, ℕ, ◌<◌, ◌≤◌, List, [], ◌∷◌, take, length, min, Bool, true, false, refl, sym, ◌∙◌, ap, arith}
use Rattle.std.specs.Prelude.{None, Some, Option, IfSome, nat_le}
use Rattle.std.proofs.lemmas.List.{take_all}
use Rattle.std.proofs.lemmas.Bool.{leb-true, leb-false}
use Rattle.mip_outside.specs.Datagrams.{IsReceived}
use Rattle.mip_node.specs.Seen.{Coming, IsNext}

cut-to-room : (datagram : List ℕ) (n : ℕ) → n ≡ min (length datagram) 4097 → take n datagram ≡ take 4097 datagram
cut-to-room datagram n is = by (nat_le (length datagram) 4097) refl
  where
    by : (b : Bool) → nat_le (length datagram) 4097 ≡ b → take n datagram ≡ take 4097 datagram
    by true e = let fits : length datagram ≤ 4097 = leb-true (length datagram) 4097 e in take_all n datagram (omega arith) ∙ sym (take_all 4097 datagram fits)
    by false e = let long : 4097 < length datagram = leb-false (length datagram) 4097 e in let same : n ≡ 4097 = omega arith in ap (λ (k : ℕ). take k datagram) same

pub came_some : (coming : Coming) (answer : Option ℕ) (count : ℕ) (into d : List ℕ) → answer ≡ Some count → length into ≡ 4097 → d ≡ take count into
    → IfSome coming (λ items. IsReceived items answer into) → IfSome coming (λ items. IsNext items (Some d))
came_some None answer count into d some room is came = tt
came_some (Some []) answer count into d some room is came = let e : Some count ≡ None = sym some ∙ came in absurd cc
came_some (Some (None ∷ items)) answer count into d some room is came = let e : Some count ≡ None = sym some ∙ came in absurd cc
came_some (Some (Some datagram ∷ items)) answer count into d some room is came =
    let e : Some count ≡ Some (min (length datagram) (length into)) = sym some ∙ came.0 in
    let same : count ≡ min (length datagram) (length into) = cc in
    let here : count ≡ min (length datagram) 4097 = same ∙ ap (min (length datagram)) room in
    ap (λ (l : List ℕ). Some l)
    (is ∙ ap (λ (k : ℕ). take k into) same ∙ came.1 ∙ ap (λ (k : ℕ). take k datagram) (sym same) ∙ cut-to-room datagram count here)
