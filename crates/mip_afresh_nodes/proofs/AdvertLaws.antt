-- A link that is not there has no prefix.
use Rattle.std.proofs.Common.{◌≡◌, ℕ, zero, suc, List, [], ◌∷◌, refl}
use Rattle.std.specs.Prelude.{Option, None, slice_get, slice_index_or}

pub none_there : (xs : List ℕ) (n : ℕ) → ◌≡◌ {A = Option ℕ} None (slice_get xs n) → 0 ≡ slice_index_or xs n 0
none_there [] n none = refl
none_there (x ∷ xs) zero none = absurd cc
none_there (x ∷ xs) (suc n) none = none_there xs n none
