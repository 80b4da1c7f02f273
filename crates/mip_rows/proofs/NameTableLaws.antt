-- Names by number: what stands at a number, and one more.
use Rattle.std.proofs.Common.{◌≡◌, ℕ, zero, suc, ◌+◌, ◌<◌, sym, ap, ◌∙◌, subst, zero-add, arith, get_or, List, [], ◌∷◌, ◌++◌, length, length-append}
use Rattle.std.specs.Borrow.{Bor}
use Rattle.mip_rows.specs.NameTables.{AreNamesFrom}

named_at : (name : ℕ → List ℕ) (n k : ℕ) (bs : List (Bor (List ℕ))) (d : Bor (List ℕ)) → AreNamesFrom name n bs → k < length bs → (get_or bs k d).now ≡ name (n + k)
named_at name n k [] d a lt = let no : ⊥ = omega arith in absurd no
named_at name n zero (b ∷ bs) d a lt = let e : n ≡ n + zero = omega arith in subst (λ m. b.now ≡ name m) e a.0
named_at name n (suc k) (b ∷ bs) d a lt =
    let e : (n + 1) + k ≡ n + suc k = omega arith in
    let within : k < length bs = omega arith in
    subst (λ m. (get_or bs k d).now ≡ name m) e (named_at name (n + 1) k bs d a.1 within)

pub named_more : (name : ℕ → List ℕ) (n : ℕ) (bs : List (Bor (List ℕ))) (b : Bor (List ℕ)) → AreNamesFrom name n bs → b.now ≡ name (n + length bs) → AreNamesFrom name n (bs ++ b ∷ [])
named_more name n [] b a is = let e : n + zero ≡ n = omega arith in (subst (λ m. b.now ≡ name m) e is, tt)
named_more name n (x ∷ bs) b a is =
    let e : n + suc (length bs) ≡ (n + 1) + length bs = omega arith in
    (a.0, named_more name (n + 1) bs b a.1 (subst (λ m. b.now ≡ name m) e is))

pub named : (name : ℕ → List ℕ) (k : ℕ) (bs : List (Bor (List ℕ))) (b : Bor (List ℕ)) → AreNamesFrom name 0 bs → k < length bs → b ≡ get_or bs k b → b.now ≡ name k
named name k bs b a lt e = ap (λ (x : Bor (List ℕ)). x.now) e ∙ subst (λ m. (get_or bs k b).now ≡ name m) (zero-add k) (named_at name 0 k bs b a lt)

pub named_push : (name : ℕ → List ℕ) (k : ℕ) (bs more : List (Bor (List ℕ))) (b : Bor (List ℕ)) → AreNamesFrom name 0 bs × (length bs ≡ k) → more ≡ bs ++ b ∷ [] → b.now ≡ name k → AreNamesFrom name 0 more × (length more ≡ k + 1)
named_push name k bs more b a e is =
    let there : k ≡ 0 + length bs = omega (arith, a.1) in
    (subst (AreNamesFrom name 0) (sym e) (named_more name 0 bs b a.0 (subst (λ m. b.now ≡ name m) there is)), omega (arith, ap length e, length-append bs (b ∷ []), a.1))
