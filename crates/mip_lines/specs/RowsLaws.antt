-- Laws and invariants of Rows: only proofs stand on them.
use Rattle.std.specs.Prelude.{ℕ, ◌≡◌, List, [], ◌∷◌, Result, Ok, Err}
use Rattle.mip_words.specs.Steps.{◌>>=◌}

-- what a reading accepts is spelled so
abbrev pub Spells : {A E : Type 0} → (List ℕ → Result A E) → (A → List ℕ) → Type 0
Spells {A} read text = (field : List ℕ) (a : A) → read field ≡ Ok a → field ≡ text a

-- 5 fields; e where there are more or fewer
abbrev pub row5 : {A1 A2 A3 A4 A5 X E : Type 0} → E → (List ℕ → Result A1 E) → (List ℕ → Result A2 E) → (List ℕ → Result A3 E) → (List ℕ → Result A4 E) → (List ℕ → Result A5 E) → (A1 → A2 → A3 → A4 → A5 → X) → List (List ℕ) → Result X E
row5 e k1 k2 k3 k4 k5 to (c1 ∷ c2 ∷ c3 ∷ c4 ∷ c5 ∷ []) = do
  a1 ← k1 c1
  a2 ← k2 c2
  a3 ← k3 c3
  a4 ← k4 c4
  a5 ← k5 c5
  Ok (to a1 a2 a3 a4 a5)
row5 e k1 k2 k3 k4 k5 to _ = Err e

-- 7 fields; e where there are more or fewer
abbrev pub row7 : {A1 A2 A3 A4 A5 A6 A7 X E : Type 0} → E → (List ℕ → Result A1 E) → (List ℕ → Result A2 E) → (List ℕ → Result A3 E) → (List ℕ → Result A4 E) → (List ℕ → Result A5 E) → (List ℕ → Result A6 E) → (List ℕ → Result A7 E) → (A1 → A2 → A3 → A4 → A5 → A6 → A7 → X) → List (List ℕ) → Result X E
row7 e k1 k2 k3 k4 k5 k6 k7 to (c1 ∷ c2 ∷ c3 ∷ c4 ∷ c5 ∷ c6 ∷ c7 ∷ []) = do
  a1 ← k1 c1
  a2 ← k2 c2
  a3 ← k3 c3
  a4 ← k4 c4
  a5 ← k5 c5
  a6 ← k6 c6
  a7 ← k7 c7
  Ok (to a1 a2 a3 a4 a5 a6 a7)
row7 e k1 k2 k3 k4 k5 k6 k7 to _ = Err e

-- 8 fields; e where there are more or fewer
abbrev pub row8 : {A1 A2 A3 A4 A5 A6 A7 A8 X E : Type 0} → E → (List ℕ → Result A1 E) → (List ℕ → Result A2 E) → (List ℕ → Result A3 E) → (List ℕ → Result A4 E) → (List ℕ → Result A5 E) → (List ℕ → Result A6 E) → (List ℕ → Result A7 E) → (List ℕ → Result A8 E) → (A1 → A2 → A3 → A4 → A5 → A6 → A7 → A8 → X) → List (List ℕ) → Result X E
row8 e k1 k2 k3 k4 k5 k6 k7 k8 to (c1 ∷ c2 ∷ c3 ∷ c4 ∷ c5 ∷ c6 ∷ c7 ∷ c8 ∷ []) = do
  a1 ← k1 c1
  a2 ← k2 c2
  a3 ← k3 c3
  a4 ← k4 c4
  a5 ← k5 c5
  a6 ← k6 c6
  a7 ← k7 c7
  a8 ← k8 c8
  Ok (to a1 a2 a3 a4 a5 a6 a7 a8)
row8 e k1 k2 k3 k4 k5 k6 k7 k8 to _ = Err e

-- 9 fields; e where there are more or fewer
abbrev pub row9 : {A1 A2 A3 A4 A5 A6 A7 A8 A9 X E : Type 0} → E → (List ℕ → Result A1 E) → (List ℕ → Result A2 E) → (List ℕ → Result A3 E) → (List ℕ → Result A4 E) → (List ℕ → Result A5 E) → (List ℕ → Result A6 E) → (List ℕ → Result A7 E) → (List ℕ → Result A8 E) → (List ℕ → Result A9 E) → (A1 → A2 → A3 → A4 → A5 → A6 → A7 → A8 → A9 → X) → List (List ℕ) → Result X E
row9 e k1 k2 k3 k4 k5 k6 k7 k8 k9 to (c1 ∷ c2 ∷ c3 ∷ c4 ∷ c5 ∷ c6 ∷ c7 ∷ c8 ∷ c9 ∷ []) = do
  a1 ← k1 c1
  a2 ← k2 c2
  a3 ← k3 c3
  a4 ← k4 c4
  a5 ← k5 c5
  a6 ← k6 c6
  a7 ← k7 c7
  a8 ← k8 c8
  a9 ← k9 c9
  Ok (to a1 a2 a3 a4 a5 a6 a7 a8 a9)
row9 e k1 k2 k3 k4 k5 k6 k7 k8 k9 to _ = Err e
