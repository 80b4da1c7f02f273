-- Lines one after another, each onto what those before it made.
use Rattle.std.specs.Prelude.{ℕ, ◌+◌, List, [], ◌∷◌, Result, Ok}
use Rattle.mip_words.specs.Steps.{◌>>=◌}
use Rattle.mip_symbols.specs.declared.reason.Reason.{Reason}
use Rattle.mip_schedule.specs.Faults.{Wrong}
use Rattle.mip_schedule.specs.Reading.{at_line, bad_form}

-- what the lines made, and the number of the line that would come next
pub record Walked (S : Type 0) : Type 0 where
  pub draft : S
  pub line : ℕ

-- nothing stands behind the last line end
abbrev pub ended : {S : Type 0} → S → ℕ → List (List ℕ) → Result (Walked S) Wrong
ended draft n ([] ∷ []) = Ok (record { draft = draft; line = n })
ended draft n row = bad_form n

-- the lines from the line n on, onto this; the last row is what stands behind the last line end
unfoldable pub walk : {S : Type 0} → (S → List (List ℕ) → Result S Reason) → S → ℕ → List (List (List ℕ)) → Result (Walked S) Wrong
walk onto draft n [] = bad_form n
walk onto draft n (row ∷ []) = ended draft n row
walk onto draft n (row ∷ next ∷ rows) = at_line n (onto draft row) >>= (λ more. walk onto more (n + 1) (next ∷ rows))
