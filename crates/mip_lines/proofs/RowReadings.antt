-- A row of fields that is spelled so is read.
use Rattle.std.proofs.Common.{◌≡◌, ℕ, List, [], ◌∷◌, refl}
use Rattle.std.specs.Prelude.{Result, Ok}
use Rattle.mip_lines.specs.Rows.{row1, row2, row3, row4, row6, row10}
use Rattle.mip_lines.specs.RowsLaws.{row5, row7, row8, row9}

pub row1-again : {A1 X E : Type 0} (e : E)
    (k1 : List ℕ → Result A1 E)
    (to : A1 → X)
    (c1 : List ℕ) (a1 : A1)
    → k1 c1 ≡ Ok a1
    → row1 e k1 to (c1 ∷ []) ≡ Ok (to a1)
row1-again e k1 to c1 a1 s1 = rw (s1) refl

pub row2-again : {A1 A2 X E : Type 0} (e : E)
    (k1 : List ℕ → Result A1 E) (k2 : List ℕ → Result A2 E)
    (to : A1 → A2 → X)
    (c1 : List ℕ) (a1 : A1) (c2 : List ℕ) (a2 : A2)
    → k1 c1 ≡ Ok a1
    → k2 c2 ≡ Ok a2
    → row2 e k1 k2 to (c1 ∷ c2 ∷ []) ≡ Ok (to a1 a2)
row2-again e k1 k2 to c1 a1 c2 a2 s1 s2 = rw (s1, s2) refl

pub row3-again : {A1 A2 A3 X E : Type 0} (e : E)
    (k1 : List ℕ → Result A1 E) (k2 : List ℕ → Result A2 E) (k3 : List ℕ → Result A3 E)
    (to : A1 → A2 → A3 → X)
    (c1 : List ℕ) (a1 : A1) (c2 : List ℕ) (a2 : A2) (c3 : List ℕ) (a3 : A3)
    → k1 c1 ≡ Ok a1
    → k2 c2 ≡ Ok a2
    → k3 c3 ≡ Ok a3
    → row3 e k1 k2 k3 to (c1 ∷ c2 ∷ c3 ∷ []) ≡ Ok (to a1 a2 a3)
row3-again e k1 k2 k3 to c1 a1 c2 a2 c3 a3 s1 s2 s3 = rw (s1, s2, s3) refl

pub row4-again : {A1 A2 A3 A4 X E : Type 0} (e : E)
    (k1 : List ℕ → Result A1 E) (k2 : List ℕ → Result A2 E) (k3 : List ℕ → Result A3 E) (k4 : List ℕ → Result A4 E)
    (to : A1 → A2 → A3 → A4 → X)
    (c1 : List ℕ) (a1 : A1) (c2 : List ℕ) (a2 : A2) (c3 : List ℕ) (a3 : A3) (c4 : List ℕ) (a4 : A4)
    → k1 c1 ≡ Ok a1
    → k2 c2 ≡ Ok a2
    → k3 c3 ≡ Ok a3
    → k4 c4 ≡ Ok a4
    → row4 e k1 k2 k3 k4 to (c1 ∷ c2 ∷ c3 ∷ c4 ∷ []) ≡ Ok (to a1 a2 a3 a4)
row4-again e k1 k2 k3 k4 to c1 a1 c2 a2 c3 a3 c4 a4 s1 s2 s3 s4 = rw (s1, s2, s3, s4) refl

pub row5-again : {A1 A2 A3 A4 A5 X E : Type 0} (e : E)
    (k1 : List ℕ → Result A1 E) (k2 : List ℕ → Result A2 E) (k3 : List ℕ → Result A3 E) (k4 : List ℕ → Result A4 E) (k5 : List ℕ → Result A5 E)
    (to : A1 → A2 → A3 → A4 → A5 → X)
    (c1 : List ℕ) (a1 : A1) (c2 : List ℕ) (a2 : A2) (c3 : List ℕ) (a3 : A3) (c4 : List ℕ) (a4 : A4) (c5 : List ℕ) (a5 : A5)
    → k1 c1 ≡ Ok a1
    → k2 c2 ≡ Ok a2
    → k3 c3 ≡ Ok a3
    → k4 c4 ≡ Ok a4
    → k5 c5 ≡ Ok a5
    → row5 e k1 k2 k3 k4 k5 to (c1 ∷ c2 ∷ c3 ∷ c4 ∷ c5 ∷ []) ≡ Ok (to a1 a2 a3 a4 a5)
row5-again e k1 k2 k3 k4 k5 to c1 a1 c2 a2 c3 a3 c4 a4 c5 a5 s1 s2 s3 s4 s5 = rw (s1, s2, s3, s4, s5) refl

pub row6-again : {A1 A2 A3 A4 A5 A6 X E : Type 0} (e : E)
    (k1 : List ℕ → Result A1 E) (k2 : List ℕ → Result A2 E) (k3 : List ℕ → Result A3 E) (k4 : List ℕ → Result A4 E) (k5 : List ℕ → Result A5 E) (k6 : List ℕ → Result A6 E)
    (to : A1 → A2 → A3 → A4 → A5 → A6 → X)
    (c1 : List ℕ) (a1 : A1) (c2 : List ℕ) (a2 : A2) (c3 : List ℕ) (a3 : A3) (c4 : List ℕ) (a4 : A4) (c5 : List ℕ) (a5 : A5) (c6 : List ℕ) (a6 : A6)
    → k1 c1 ≡ Ok a1
    → k2 c2 ≡ Ok a2
    → k3 c3 ≡ Ok a3
    → k4 c4 ≡ Ok a4
    → k5 c5 ≡ Ok a5
    → k6 c6 ≡ Ok a6
    → row6 e k1 k2 k3 k4 k5 k6 to (c1 ∷ c2 ∷ c3 ∷ c4 ∷ c5 ∷ c6 ∷ []) ≡ Ok (to a1 a2 a3 a4 a5 a6)
row6-again e k1 k2 k3 k4 k5 k6 to c1 a1 c2 a2 c3 a3 c4 a4 c5 a5 c6 a6 s1 s2 s3 s4 s5 s6 = rw (s1, s2, s3, s4, s5, s6) refl

pub row7-again : {A1 A2 A3 A4 A5 A6 A7 X E : Type 0} (e : E)
    (k1 : List ℕ → Result A1 E) (k2 : List ℕ → Result A2 E) (k3 : List ℕ → Result A3 E) (k4 : List ℕ → Result A4 E) (k5 : List ℕ → Result A5 E) (k6 : List ℕ → Result A6 E) (k7 : List ℕ → Result A7 E)
    (to : A1 → A2 → A3 → A4 → A5 → A6 → A7 → X)
    (c1 : List ℕ) (a1 : A1) (c2 : List ℕ) (a2 : A2) (c3 : List ℕ) (a3 : A3) (c4 : List ℕ) (a4 : A4) (c5 : List ℕ) (a5 : A5) (c6 : List ℕ) (a6 : A6) (c7 : List ℕ) (a7 : A7)
    → k1 c1 ≡ Ok a1
    → k2 c2 ≡ Ok a2
    → k3 c3 ≡ Ok a3
    → k4 c4 ≡ Ok a4
    → k5 c5 ≡ Ok a5
    → k6 c6 ≡ Ok a6
    → k7 c7 ≡ Ok a7
    → row7 e k1 k2 k3 k4 k5 k6 k7 to (c1 ∷ c2 ∷ c3 ∷ c4 ∷ c5 ∷ c6 ∷ c7 ∷ []) ≡ Ok (to a1 a2 a3 a4 a5 a6 a7)
row7-again e k1 k2 k3 k4 k5 k6 k7 to c1 a1 c2 a2 c3 a3 c4 a4 c5 a5 c6 a6 c7 a7 s1 s2 s3 s4 s5 s6 s7 = rw (s1, s2, s3, s4, s5, s6, s7) refl

pub row8-again : {A1 A2 A3 A4 A5 A6 A7 A8 X E : Type 0} (e : E)
    (k1 : List ℕ → Result A1 E) (k2 : List ℕ → Result A2 E) (k3 : List ℕ → Result A3 E) (k4 : List ℕ → Result A4 E) (k5 : List ℕ → Result A5 E) (k6 : List ℕ → Result A6 E) (k7 : List ℕ → Result A7 E) (k8 : List ℕ → Result A8 E)
    (to : A1 → A2 → A3 → A4 → A5 → A6 → A7 → A8 → X)
    (c1 : List ℕ) (a1 : A1) (c2 : List ℕ) (a2 : A2) (c3 : List ℕ) (a3 : A3) (c4 : List ℕ) (a4 : A4) (c5 : List ℕ) (a5 : A5) (c6 : List ℕ) (a6 : A6) (c7 : List ℕ) (a7 : A7) (c8 : List ℕ) (a8 : A8)
    → k1 c1 ≡ Ok a1
    → k2 c2 ≡ Ok a2
    → k3 c3 ≡ Ok a3
    → k4 c4 ≡ Ok a4
    → k5 c5 ≡ Ok a5
    → k6 c6 ≡ Ok a6
    → k7 c7 ≡ Ok a7
    → k8 c8 ≡ Ok a8
    → row8 e k1 k2 k3 k4 k5 k6 k7 k8 to (c1 ∷ c2 ∷ c3 ∷ c4 ∷ c5 ∷ c6 ∷ c7 ∷ c8 ∷ []) ≡ Ok (to a1 a2 a3 a4 a5 a6 a7 a8)
row8-again e k1 k2 k3 k4 k5 k6 k7 k8 to c1 a1 c2 a2 c3 a3 c4 a4 c5 a5 c6 a6 c7 a7 c8 a8 s1 s2 s3 s4 s5 s6 s7 s8 = rw (s1, s2, s3, s4, s5, s6, s7, s8) refl

pub row9-again : {A1 A2 A3 A4 A5 A6 A7 A8 A9 X E : Type 0} (e : E)
    (k1 : List ℕ → Result A1 E) (k2 : List ℕ → Result A2 E) (k3 : List ℕ → Result A3 E) (k4 : List ℕ → Result A4 E) (k5 : List ℕ → Result A5 E) (k6 : List ℕ → Result A6 E) (k7 : List ℕ → Result A7 E) (k8 : List ℕ → Result A8 E) (k9 : List ℕ → Result A9 E)
    (to : A1 → A2 → A3 → A4 → A5 → A6 → A7 → A8 → A9 → X)
    (c1 : List ℕ) (a1 : A1) (c2 : List ℕ) (a2 : A2) (c3 : List ℕ) (a3 : A3) (c4 : List ℕ) (a4 : A4) (c5 : List ℕ) (a5 : A5) (c6 : List ℕ) (a6 : A6) (c7 : List ℕ) (a7 : A7) (c8 : List ℕ) (a8 : A8) (c9 : List ℕ) (a9 : A9)
    → k1 c1 ≡ Ok a1
    → k2 c2 ≡ Ok a2
    → k3 c3 ≡ Ok a3
    → k4 c4 ≡ Ok a4
    → k5 c5 ≡ Ok a5
    → k6 c6 ≡ Ok a6
    → k7 c7 ≡ Ok a7
    → k8 c8 ≡ Ok a8
    → k9 c9 ≡ Ok a9
    → row9 e k1 k2 k3 k4 k5 k6 k7 k8 k9 to (c1 ∷ c2 ∷ c3 ∷ c4 ∷ c5 ∷ c6 ∷ c7 ∷ c8 ∷ c9 ∷ []) ≡ Ok (to a1 a2 a3 a4 a5 a6 a7 a8 a9)
row9-again e k1 k2 k3 k4 k5 k6 k7 k8 k9 to c1 a1 c2 a2 c3 a3 c4 a4 c5 a5 c6 a6 c7 a7 c8 a8 c9 a9 s1 s2 s3 s4 s5 s6 s7 s8 s9 = rw (s1, s2, s3, s4, s5, s6, s7, s8, s9) refl

pub row10-again : {A1 A2 A3 A4 A5 A6 A7 A8 A9 A10 X E : Type 0} (e : E)
    (k1 : List ℕ → Result A1 E) (k2 : List ℕ → Result A2 E) (k3 : List ℕ → Result A3 E) (k4 : List ℕ → Result A4 E) (k5 : List ℕ → Result A5 E) (k6 : List ℕ → Result A6 E) (k7 : List ℕ → Result A7 E) (k8 : List ℕ → Result A8 E) (k9 : List ℕ → Result A9 E) (k10 : List ℕ → Result A10 E)
    (to : A1 → A2 → A3 → A4 → A5 → A6 → A7 → A8 → A9 → A10 → X)
    (c1 : List ℕ) (a1 : A1) (c2 : List ℕ) (a2 : A2) (c3 : List ℕ) (a3 : A3) (c4 : List ℕ) (a4 : A4) (c5 : List ℕ) (a5 : A5) (c6 : List ℕ) (a6 : A6) (c7 : List ℕ) (a7 : A7) (c8 : List ℕ) (a8 : A8) (c9 : List ℕ) (a9 : A9) (c10 : List ℕ) (a10 : A10)
    → k1 c1 ≡ Ok a1
    → k2 c2 ≡ Ok a2
    → k3 c3 ≡ Ok a3
    → k4 c4 ≡ Ok a4
    → k5 c5 ≡ Ok a5
    → k6 c6 ≡ Ok a6
    → k7 c7 ≡ Ok a7
    → k8 c8 ≡ Ok a8
    → k9 c9 ≡ Ok a9
    → k10 c10 ≡ Ok a10
    → row10 e k1 k2 k3 k4 k5 k6 k7 k8 k9 k10 to (c1 ∷ c2 ∷ c3 ∷ c4 ∷ c5 ∷ c6 ∷ c7 ∷ c8 ∷ c9 ∷ c10 ∷ []) ≡ Ok (to a1 a2 a3 a4 a5 a6 a7 a8 a9 a10)
row10-again e k1 k2 k3 k4 k5 k6 k7 k8 k9 k10 to c1 a1 c2 a2 c3 a3 c4 a4 c5 a5 c6 a6 c7 a7 c8 a8 c9 a9 c10 a10 s1 s2 s3 s4 s5 s6 s7 s8 s9 s10 = rw (s1, s2, s3, s4, s5, s6, s7, s8, s9, s10) refl
