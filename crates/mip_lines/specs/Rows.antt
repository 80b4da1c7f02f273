-- Rows of fields: a line of one kind has so many fields c1, c2, .., each read in its own way k1, k2, .., the first
-- from the left that is none of its kind refusing the line.
use Rattle.std.specs.Prelude.{ℕ, List, [], ◌∷◌, Result, Ok, Err}
use Rattle.mip_words.specs.Steps.{◌>>=◌}

-- 1 field; e where there are more or fewer
abbrev pub row1 : {A1 X E : Type 0} → E → (List ℕ → Result A1 E) → (A1 → X) → List (List ℕ) → Result X E
row1 e k1 to (c1 ∷ []) = do
  a1 ← k1 c1
  Ok (to a1)
row1 e k1 to _ = Err e

-- 2 fields; e where there are more or fewer
abbrev pub row2 : {A1 A2 X E : Type 0} → E → (List ℕ → Result A1 E) → (List ℕ → Result A2 E) → (A1 → A2 → X) → List (List ℕ) → Result X E
row2 e k1 k2 to (c1 ∷ c2 ∷ []) = do
  a1 ← k1 c1
  a2 ← k2 c2
  Ok (to a1 a2)
row2 e k1 k2 to _ = Err e

-- 3 fields; e where there are more or fewer
abbrev pub row3 : {A1 A2 A3 X E : Type 0} → E → (List ℕ → Result A1 E) → (List ℕ → Result A2 E) → (List ℕ → Result A3 E) → (A1 → A2 → A3 → X) → List (List ℕ) → Result X E
row3 e k1 k2 k3 to (c1 ∷ c2 ∷ c3 ∷ []) = do
  a1 ← k1 c1
  a2 ← k2 c2
  a3 ← k3 c3
  Ok (to a1 a2 a3)
row3 e k1 k2 k3 to _ = Err e

-- 4 fields; e where there are more or fewer
abbrev pub row4 : {A1 A2 A3 A4 X E : Type 0} → E → (List ℕ → Result A1 E) → (List ℕ → Result A2 E) → (List ℕ → Result A3 E) → (List ℕ → Result A4 E) → (A1 → A2 → A3 → A4 → X) → List (List ℕ) → Result X E
row4 e k1 k2 k3 k4 to (c1 ∷ c2 ∷ c3 ∷ c4 ∷ []) = do
  a1 ← k1 c1
  a2 ← k2 c2
  a3 ← k3 c3
  a4 ← k4 c4
  Ok (to a1 a2 a3 a4)
row4 e k1 k2 k3 k4 to _ = Err e

-- 6 fields; e where there are more or fewer
abbrev pub row6 : {A1 A2 A3 A4 A5 A6 X E : Type 0} → E → (List ℕ → Result A1 E) → (List ℕ → Result A2 E) → (List ℕ → Result A3 E) → (List ℕ → Result A4 E) → (List ℕ → Result A5 E) → (List ℕ → Result A6 E) → (A1 → A2 → A3 → A4 → A5 → A6 → X) → List (List ℕ) → Result X E
row6 e k1 k2 k3 k4 k5 k6 to (c1 ∷ c2 ∷ c3 ∷ c4 ∷ c5 ∷ c6 ∷ []) = do
  a1 ← k1 c1
  a2 ← k2 c2
  a3 ← k3 c3
  a4 ← k4 c4
  a5 ← k5 c5
  a6 ← k6 c6
  Ok (to a1 a2 a3 a4 a5 a6)
row6 e k1 k2 k3 k4 k5 k6 to _ = Err e

-- 10 fields; e where there are more or fewer
abbrev pub row10 : {A1 A2 A3 A4 A5 A6 A7 A8 A9 A10 X E : Type 0} → E → (List ℕ → Result A1 E) → (List ℕ → Result A2 E) → (List ℕ → Result A3 E) → (List ℕ → Result A4 E) → (List ℕ → Result A5 E) → (List ℕ → Result A6 E) → (List ℕ → Result A7 E) → (List ℕ → Result A8 E) → (List ℕ → Result A9 E) → (List ℕ → Result A10 E) → (A1 → A2 → A3 → A4 → A5 → A6 → A7 → A8 → A9 → A10 → X) → List (List ℕ) → Result X E
row10 e k1 k2 k3 k4 k5 k6 k7 k8 k9 k10 to (c1 ∷ c2 ∷ c3 ∷ c4 ∷ c5 ∷ c6 ∷ c7 ∷ c8 ∷ c9 ∷ c10 ∷ []) = do
  a1 ← k1 c1
  a2 ← k2 c2
  a3 ← k3 c3
  a4 ← k4 c4
  a5 ← k5 c5
  a6 ← k6 c6
  a7 ← k7 c7
  a8 ← k8 c8
  a9 ← k9 c9
  a10 ← k10 c10
  Ok (to a1 a2 a3 a4 a5 a6 a7 a8 a9 a10)
row10 e k1 k2 k3 k4 k5 k6 k7 k8 k9 k10 to _ = Err e

-- 11 fields; e where there are more or fewer
abbrev pub row11 : {A1 A2 A3 A4 A5 A6 A7 A8 A9 A10 A11 X E : Type 0} → E → (List ℕ → Result A1 E) → (List ℕ → Result A2 E) → (List ℕ → Result A3 E) → (List ℕ → Result A4 E) → (List ℕ → Result A5 E) → (List ℕ → Result A6 E) → (List ℕ → Result A7 E) → (List ℕ → Result A8 E) → (List ℕ → Result A9 E) → (List ℕ → Result A10 E) → (List ℕ → Result A11 E) → (A1 → A2 → A3 → A4 → A5 → A6 → A7 → A8 → A9 → A10 → A11 → X) → List (List ℕ) → Result X E
row11 e k1 k2 k3 k4 k5 k6 k7 k8 k9 k10 k11 to (c1 ∷ c2 ∷ c3 ∷ c4 ∷ c5 ∷ c6 ∷ c7 ∷ c8 ∷ c9 ∷ c10 ∷ c11 ∷ []) = do
  a1 ← k1 c1
  a2 ← k2 c2
  a3 ← k3 c3
  a4 ← k4 c4
  a5 ← k5 c5
  a6 ← k6 c6
  a7 ← k7 c7
  a8 ← k8 c8
  a9 ← k9 c9
  a10 ← k10 c10
  a11 ← k11 c11
  Ok (to a1 a2 a3 a4 a5 a6 a7 a8 a9 a10 a11)
row11 e k1 k2 k3 k4 k5 k6 k7 k8 k9 k10 k11 to _ = Err e
