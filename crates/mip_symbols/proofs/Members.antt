-- One declaration more, or none, before what has a place.
use Rattle.std.proofs.Common.{◌≡◌, ℕ, zero, suc, ◌+◌, ◌-◌, ◌<◌, ◌≤◌, List, ◌∷◌, length, drop, get_or, true, false, ap, ◌∙◌, arith}
use Rattle.std.specs.Prelude.{Some, None, slice_get}
use Rattle.std.proofs.lemmas.Bool.{cond-true, cond-false}
use Rattle.std.proofs.lemmas.List.{drop_more, drop_all}
use Rattle.mip_symbols.specs.Places.{members, counts}
use Rattle.mip_symbols.specs.declared.declaration.Declaration.{Declaration}
use Rattle.mip_symbols.specs.declared.places.Sort.{Sort}

next : {X : Type 0} (x : X) (xs : List X) (n : ℕ) → 0 < n → slice_get (x ∷ xs) n ≡ slice_get xs (n - 1)
next x xs zero some = absurd (omega arith)
next x xs (suc n) some = let e : n ≡ suc n - 1 = omega arith in ap (slice_get xs) e

-- the declaration at i is the one
pub member_here : (sort : Sort) (ds : List Declaration) (i : ℕ) (d : Declaration) → i < length ds → counts sort (get_or ds i d) ≡ true → slice_get (members sort (drop i ds)) 0 ≡ Some (get_or ds i d)
unfolding members
member_here sort ds i d inside test =
    ap (λ (xs : List Declaration). slice_get (members sort xs) 0) (drop_more ds i d inside)
    ∙ ap (λ (xs : List Declaration). slice_get xs 0) (cond-true (counts sort (get_or ds i d)) (get_or ds i d ∷ members sort (drop (i + 1) ds)) (members sort (drop (i + 1) ds)) test)

-- the declaration at i is numbered before it
pub member_behind : (sort : Sort) (ds : List Declaration) (i : ℕ) (d : Declaration) (n : ℕ) → i < length ds → counts sort (get_or ds i d) ≡ true → 0 < n
    → slice_get (members sort (drop i ds)) n ≡ slice_get (members sort (drop (i + 1) ds)) (n - 1)
unfolding members
member_behind sort ds i d n inside test some =
    ap (λ (xs : List Declaration). slice_get (members sort xs) n) (drop_more ds i d inside)
    ∙ ap (λ (xs : List Declaration). slice_get xs n) (cond-true (counts sort (get_or ds i d)) (get_or ds i d ∷ members sort (drop (i + 1) ds)) (members sort (drop (i + 1) ds)) test)
    ∙ next (get_or ds i d) (members sort (drop (i + 1) ds)) n some

-- the declaration at i is numbered otherwise
pub member_past : (sort : Sort) (ds : List Declaration) (i : ℕ) (d : Declaration) (n : ℕ) → i < length ds → counts sort (get_or ds i d) ≡ false
    → slice_get (members sort (drop i ds)) n ≡ slice_get (members sort (drop (i + 1) ds)) n
unfolding members
member_past sort ds i d n inside test =
    ap (λ (xs : List Declaration). slice_get (members sort xs) n) (drop_more ds i d inside)
    ∙ ap (λ (xs : List Declaration). slice_get xs n) (cond-false (counts sort (get_or ds i d)) (get_or ds i d ∷ members sort (drop (i + 1) ds)) (members sort (drop (i + 1) ds)) test)

-- no declaration is left
pub member_none : (sort : Sort) (ds : List Declaration) (i n : ℕ) → length ds ≤ i → slice_get (members sort (drop i ds)) n ≡ None
unfolding members
member_none sort ds i n past = ap (λ (xs : List Declaration). slice_get (members sort xs) n) (drop_all i ds past)
