-- Options one after another, each with a type and a length in units of 8 bytes, as router and neighbour messages have them.
-- RFC 4861 section 4.6
use Rattle.std.specs.Prelude.{◌≡◌, ℕ, zero, suc, ◌+◌, ◌-◌, ◌*◌, List, [], ◌∷◌, length, Bool, true, Result, Ok, Err, not, ◌||◌, nat_lt, slice_index, if◌then◌else◌}
use Rattle.mip_words.specs.Steps.{◌>>=◌}

-- these bytes are one option, where an option of a type may have these lengths
pub record IsOptionOf (has_units : ℕ → ℕ → Bool) (option : List ℕ) : Type 0 where
  pub units : has_units (slice_index option 0) (slice_index option 1) ≡ true
  pub whole : length option ≡ 8 * slice_index option 1

-- what was seen so far, with the option that begins these bytes, and how many bytes it takes; or its place is bad
unfoldable pub option_by : {S F : Type 0} → (ℕ → ℕ → Bool) → (S → List ℕ → S) → (ℕ → F) → ℕ → S → List ℕ → Result (S × ℕ) F
option_by has_units noted bad place seen bytes =
    if nat_lt (length bytes) 2 then Err (bad place)
    else if nat_lt (length bytes) (8 * slice_index bytes 1) || not (has_units (slice_index bytes 0) (slice_index bytes 1)) then Err (bad place)
    else Ok (noted seen bytes, 8 * slice_index bytes 1)

-- the options of these bytes, which begin at a place of their message, after a number of bytes to pass over
unfoldable pub options_by : {S F : Type 0} → (ℕ → S → List ℕ → Result (S × ℕ) F) → ℕ → S → ℕ → List ℕ → Result S F
options_by step skipped seen place [] = Ok seen
options_by step (suc n) seen place (b ∷ rest) = options_by step n seen (place + 1) rest
options_by step zero seen place (t ∷ rest) = do
  x ← step place seen (t ∷ rest)
  options_by step (x.1 - 1) x.0 (place + 1) rest
