-- Items of a list with one more.
use Rattle.std.proofs.Common.{◌≡◌, ℕ, zero, suc, ◌<◌, ◌⊎◌, List, [], ◌∷◌, ◌++◌, length, inl, inr, refl, arith}
use Rattle.std.specs.Prelude.{Some, slice_get}

pub get_front : {X : Type 0} (xs : List X) (y : X) (i : ℕ) → i < length xs → slice_get (xs ++ y ∷ []) i ≡ slice_get xs i
get_front [] y i inside = absurd (omega (arith, inside))
get_front (x ∷ xs) y zero inside = refl
get_front (x ∷ xs) y (suc i) inside = get_front xs y i (omega (arith, inside))

pub get_seam : {X : Type 0} (xs : List X) (y : X) (i : ℕ) → i ≡ length xs → slice_get (xs ++ y ∷ []) i ≡ Some y
get_seam [] y zero is = refl
get_seam [] y (suc i) is = absurd (omega (arith, is))
get_seam (x ∷ xs) y zero is = absurd (omega (arith, is))
get_seam (x ∷ xs) y (suc i) is = get_seam xs y i (omega (arith, is))

-- an item is one of those before, or the last
pub get_more : {X : Type 0} (xs : List X) (y : X) (i : ℕ) (z : X) → slice_get (xs ++ y ∷ []) i ≡ Some z
    → (slice_get xs i ≡ Some z) ⊎ ((i ≡ length xs) × (y ≡ z))
get_more [] y zero z got = inr (refl, cc)
get_more [] y (suc i) z got = absurd cc
get_more (x ∷ xs) y zero z got = inl got
get_more (x ∷ xs) y (suc i) z got = by (get_more xs y i z got)
  where
    by : (slice_get xs i ≡ Some z) ⊎ ((i ≡ length xs) × (y ≡ z)) → (slice_get (x ∷ xs) (suc i) ≡ Some z) ⊎ ((suc i ≡ length (x ∷ xs)) × (y ≡ z))
    by (inl front) = inl front
    by (inr last) = inr (omega (arith, last.0), last.1)
