-- A clock and a link that tell what they will answer fix what the turns find.
use Rattle.std.proofs.Common.{◌≡◌, ℕ, List, [], ◌∷◌, length, drop, refl, sym, ◌∙◌, ap}
use Rattle.std.specs.Prelude.{Option, Some}
use Rattle.mip_node.specs.Seen.{Sees, IsNext}
use Rattle.mip_node.specs.Turns.{Seen}

next-is : (items : List (Option (List ℕ))) (a b : Option (List ℕ)) → IsNext items a → IsNext items b → a ≡ b
next-is [] a b one two = one ∙ sym two
next-is (item ∷ items) a b one two = one ∙ sym two

pair : (x y : Seen) → x.0 ≡ y.0 → x.1 ≡ y.1 → x ≡ y
pair x y now item =
    let first : x ≡ (y.0, x.1) = ap (λ (n : ℕ). let s : Seen = (n, x.1) in s) now in
    first ∙ ap (λ (i : Option (List ℕ)). let s : Seen = (y.0, i) in s) item

pub one_run : (moment : ℕ) (moments : List ℕ) (items : List (Option (List ℕ))) (some other : List Seen) → Sees (Some (moment ∷ moments)) (Some items) some
    → Sees (Some (moment ∷ moments)) (Some items) other → length some ≡ length other → some ≡ other
unfolding Sees
one_run m ms items [] [] one two same = refl
one_run m ms items [] (y ∷ t) one two same = absurd cc
one_run m ms items (x ∷ s) [] one two same = absurd cc
one_run m [] items (x ∷ s) (y ∷ t) one two same =
    let head : x ≡ y = pair x y (one.0.0 ∙ sym two.0.0) (next-is items x.1 y.1 one.0.1 two.0.1) in
    let length_same : length s ≡ length t = cc in
    let tail : s ≡ t = one_run m [] (drop 1 items) s t one.1 two.1 length_same in
    ap (λ (h : Seen). h ∷ s) head ∙ ap (λ (l : List Seen). y ∷ l) tail
one_run m (n ∷ ms) items (x ∷ s) (y ∷ t) one two same =
    let head : x ≡ y = pair x y (one.0.0 ∙ sym two.0.0) (next-is items x.1 y.1 one.0.1 two.0.1) in
    let length_same : length s ≡ length t = cc in
    let tail : s ≡ t = one_run n ms (drop 1 items) s t one.1 two.1 length_same in
    ap (λ (h : Seen). h ∷ s) head ∙ ap (λ (l : List Seen). y ∷ l) tail
