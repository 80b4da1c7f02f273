-- Rows with more fields than a line of their kind has.
use Rattle.std.proofs.Common.{◌≡◌, ℕ, ◌<◌, List, [], ◌∷◌, length, refl, arith}
use Rattle.std.specs.Prelude.{Result, Err}
use Rattle.mip_lines.specs.Rows.{row1, row2, row3, row4, row6, row10, row11}
use Rattle.mip_lines.specs.RowsLaws.{row5, row7, row8, row9}

pub row1-long : {A1 X E : Type 0} (e : E) (k1 : List ℕ → Result A1 E) (to : A1 → X) (fields : List (List ℕ)) → 1 < length fields → row1 e k1 to fields ≡ Err e
row1-long e k1 to [] long = absurd (omega arith)
row1-long e k1 to (c1 ∷ []) long = absurd (omega arith)
row1-long e k1 to (c1 ∷ c2 ∷ more) long = refl

pub row2-long : {A1 A2 X E : Type 0} (e : E) (k1 : List ℕ → Result A1 E) (k2 : List ℕ → Result A2 E) (to : A1 → A2 → X) (fields : List (List ℕ)) → 2 < length fields → row2 e k1 k2 to fields ≡ Err e
row2-long e k1 k2 to [] long = absurd (omega arith)
row2-long e k1 k2 to (c1 ∷ []) long = absurd (omega arith)
row2-long e k1 k2 to (c1 ∷ c2 ∷ []) long = absurd (omega arith)
row2-long e k1 k2 to (c1 ∷ c2 ∷ c3 ∷ more) long = refl

pub row3-long : {A1 A2 A3 X E : Type 0} (e : E) (k1 : List ℕ → Result A1 E) (k2 : List ℕ → Result A2 E) (k3 : List ℕ → Result A3 E) (to : A1 → A2 → A3 → X) (fields : List (List ℕ)) → 3 < length fields → row3 e k1 k2 k3 to fields ≡ Err e
row3-long e k1 k2 k3 to [] long = absurd (omega arith)
row3-long e k1 k2 k3 to (c1 ∷ []) long = absurd (omega arith)
row3-long e k1 k2 k3 to (c1 ∷ c2 ∷ []) long = absurd (omega arith)
row3-long e k1 k2 k3 to (c1 ∷ c2 ∷ c3 ∷ []) long = absurd (omega arith)
row3-long e k1 k2 k3 to (c1 ∷ c2 ∷ c3 ∷ c4 ∷ more) long = refl

pub row4-long : {A1 A2 A3 A4 X E : Type 0} (e : E) (k1 : List ℕ → Result A1 E) (k2 : List ℕ → Result A2 E) (k3 : List ℕ → Result A3 E) (k4 : List ℕ → Result A4 E) (to : A1 → A2 → A3 → A4 → X) (fields : List (List ℕ)) → 4 < length fields → row4 e k1 k2 k3 k4 to fields ≡ Err e
row4-long e k1 k2 k3 k4 to [] long = absurd (omega arith)
row4-long e k1 k2 k3 k4 to (c1 ∷ []) long = absurd (omega arith)
row4-long e k1 k2 k3 k4 to (c1 ∷ c2 ∷ []) long = absurd (omega arith)
row4-long e k1 k2 k3 k4 to (c1 ∷ c2 ∷ c3 ∷ []) long = absurd (omega arith)
row4-long e k1 k2 k3 k4 to (c1 ∷ c2 ∷ c3 ∷ c4 ∷ []) long = absurd (omega arith)
row4-long e k1 k2 k3 k4 to (c1 ∷ c2 ∷ c3 ∷ c4 ∷ c5 ∷ more) long = refl

pub row5-long : {A1 A2 A3 A4 A5 X E : Type 0} (e : E) (k1 : List ℕ → Result A1 E) (k2 : List ℕ → Result A2 E) (k3 : List ℕ → Result A3 E) (k4 : List ℕ → Result A4 E) (k5 : List ℕ → Result A5 E) (to : A1 → A2 → A3 → A4 → A5 → X) (fields : List (List ℕ)) → 5 < length fields → row5 e k1 k2 k3 k4 k5 to fields ≡ Err e
row5-long e k1 k2 k3 k4 k5 to [] long = absurd (omega arith)
row5-long e k1 k2 k3 k4 k5 to (c1 ∷ []) long = absurd (omega arith)
row5-long e k1 k2 k3 k4 k5 to (c1 ∷ c2 ∷ []) long = absurd (omega arith)
row5-long e k1 k2 k3 k4 k5 to (c1 ∷ c2 ∷ c3 ∷ []) long = absurd (omega arith)
row5-long e k1 k2 k3 k4 k5 to (c1 ∷ c2 ∷ c3 ∷ c4 ∷ []) long = absurd (omega arith)
row5-long e k1 k2 k3 k4 k5 to (c1 ∷ c2 ∷ c3 ∷ c4 ∷ c5 ∷ []) long = absurd (omega arith)
row5-long e k1 k2 k3 k4 k5 to (c1 ∷ c2 ∷ c3 ∷ c4 ∷ c5 ∷ c6 ∷ more) long = refl

pub row6-long : {A1 A2 A3 A4 A5 A6 X E : Type 0} (e : E) (k1 : List ℕ → Result A1 E) (k2 : List ℕ → Result A2 E) (k3 : List ℕ → Result A3 E) (k4 : List ℕ → Result A4 E) (k5 : List ℕ → Result A5 E) (k6 : List ℕ → Result A6 E) (to : A1 → A2 → A3 → A4 → A5 → A6 → X) (fields : List (List ℕ)) → 6 < length fields → row6 e k1 k2 k3 k4 k5 k6 to fields ≡ Err e
row6-long e k1 k2 k3 k4 k5 k6 to [] long = absurd (omega arith)
row6-long e k1 k2 k3 k4 k5 k6 to (c1 ∷ []) long = absurd (omega arith)
row6-long e k1 k2 k3 k4 k5 k6 to (c1 ∷ c2 ∷ []) long = absurd (omega arith)
row6-long e k1 k2 k3 k4 k5 k6 to (c1 ∷ c2 ∷ c3 ∷ []) long = absurd (omega arith)
row6-long e k1 k2 k3 k4 k5 k6 to (c1 ∷ c2 ∷ c3 ∷ c4 ∷ []) long = absurd (omega arith)
row6-long e k1 k2 k3 k4 k5 k6 to (c1 ∷ c2 ∷ c3 ∷ c4 ∷ c5 ∷ []) long = absurd (omega arith)
row6-long e k1 k2 k3 k4 k5 k6 to (c1 ∷ c2 ∷ c3 ∷ c4 ∷ c5 ∷ c6 ∷ []) long = absurd (omega arith)
row6-long e k1 k2 k3 k4 k5 k6 to (c1 ∷ c2 ∷ c3 ∷ c4 ∷ c5 ∷ c6 ∷ c7 ∷ more) long = refl

pub row7-long : {A1 A2 A3 A4 A5 A6 A7 X E : Type 0} (e : E) (k1 : List ℕ → Result A1 E) (k2 : List ℕ → Result A2 E) (k3 : List ℕ → Result A3 E) (k4 : List ℕ → Result A4 E) (k5 : List ℕ → Result A5 E) (k6 : List ℕ → Result A6 E) (k7 : List ℕ → Result A7 E) (to : A1 → A2 → A3 → A4 → A5 → A6 → A7 → X) (fields : List (List ℕ)) → 7 < length fields → row7 e k1 k2 k3 k4 k5 k6 k7 to fields ≡ Err e
row7-long e k1 k2 k3 k4 k5 k6 k7 to [] long = absurd (omega arith)
row7-long e k1 k2 k3 k4 k5 k6 k7 to (c1 ∷ []) long = absurd (omega arith)
row7-long e k1 k2 k3 k4 k5 k6 k7 to (c1 ∷ c2 ∷ []) long = absurd (omega arith)
row7-long e k1 k2 k3 k4 k5 k6 k7 to (c1 ∷ c2 ∷ c3 ∷ []) long = absurd (omega arith)
row7-long e k1 k2 k3 k4 k5 k6 k7 to (c1 ∷ c2 ∷ c3 ∷ c4 ∷ []) long = absurd (omega arith)
row7-long e k1 k2 k3 k4 k5 k6 k7 to (c1 ∷ c2 ∷ c3 ∷ c4 ∷ c5 ∷ []) long = absurd (omega arith)
row7-long e k1 k2 k3 k4 k5 k6 k7 to (c1 ∷ c2 ∷ c3 ∷ c4 ∷ c5 ∷ c6 ∷ []) long = absurd (omega arith)
row7-long e k1 k2 k3 k4 k5 k6 k7 to (c1 ∷ c2 ∷ c3 ∷ c4 ∷ c5 ∷ c6 ∷ c7 ∷ []) long = absurd (omega arith)
row7-long e k1 k2 k3 k4 k5 k6 k7 to (c1 ∷ c2 ∷ c3 ∷ c4 ∷ c5 ∷ c6 ∷ c7 ∷ c8 ∷ more) long = refl

pub row8-long : {A1 A2 A3 A4 A5 A6 A7 A8 X E : Type 0} (e : E) (k1 : List ℕ → Result A1 E) (k2 : List ℕ → Result A2 E) (k3 : List ℕ → Result A3 E) (k4 : List ℕ → Result A4 E) (k5 : List ℕ → Result A5 E) (k6 : List ℕ → Result A6 E) (k7 : List ℕ → Result A7 E) (k8 : List ℕ → Result A8 E) (to : A1 → A2 → A3 → A4 → A5 → A6 → A7 → A8 → X) (fields : List (List ℕ)) → 8 < length fields → row8 e k1 k2 k3 k4 k5 k6 k7 k8 to fields ≡ Err e
row8-long e k1 k2 k3 k4 k5 k6 k7 k8 to [] long = absurd (omega arith)
row8-long e k1 k2 k3 k4 k5 k6 k7 k8 to (c1 ∷ []) long = absurd (omega arith)
row8-long e k1 k2 k3 k4 k5 k6 k7 k8 to (c1 ∷ c2 ∷ []) long = absurd (omega arith)
row8-long e k1 k2 k3 k4 k5 k6 k7 k8 to (c1 ∷ c2 ∷ c3 ∷ []) long = absurd (omega arith)
row8-long e k1 k2 k3 k4 k5 k6 k7 k8 to (c1 ∷ c2 ∷ c3 ∷ c4 ∷ []) long = absurd (omega arith)
row8-long e k1 k2 k3 k4 k5 k6 k7 k8 to (c1 ∷ c2 ∷ c3 ∷ c4 ∷ c5 ∷ []) long = absurd (omega arith)
row8-long e k1 k2 k3 k4 k5 k6 k7 k8 to (c1 ∷ c2 ∷ c3 ∷ c4 ∷ c5 ∷ c6 ∷ []) long = absurd (omega arith)
row8-long e k1 k2 k3 k4 k5 k6 k7 k8 to (c1 ∷ c2 ∷ c3 ∷ c4 ∷ c5 ∷ c6 ∷ c7 ∷ []) long = absurd (omega arith)
row8-long e k1 k2 k3 k4 k5 k6 k7 k8 to (c1 ∷ c2 ∷ c3 ∷ c4 ∷ c5 ∷ c6 ∷ c7 ∷ c8 ∷ []) long = absurd (omega arith)
row8-long e k1 k2 k3 k4 k5 k6 k7 k8 to (c1 ∷ c2 ∷ c3 ∷ c4 ∷ c5 ∷ c6 ∷ c7 ∷ c8 ∷ c9 ∷ more) long = refl

pub row9-long : {A1 A2 A3 A4 A5 A6 A7 A8 A9 X E : Type 0} (e : E) (k1 : List ℕ → Result A1 E) (k2 : List ℕ → Result A2 E) (k3 : List ℕ → Result A3 E) (k4 : List ℕ → Result A4 E) (k5 : List ℕ → Result A5 E) (k6 : List ℕ → Result A6 E) (k7 : List ℕ → Result A7 E) (k8 : List ℕ → Result A8 E) (k9 : List ℕ → Result A9 E) (to : A1 → A2 → A3 → A4 → A5 → A6 → A7 → A8 → A9 → X) (fields : List (List ℕ)) → 9 < length fields → row9 e k1 k2 k3 k4 k5 k6 k7 k8 k9 to fields ≡ Err e
row9-long e k1 k2 k3 k4 k5 k6 k7 k8 k9 to [] long = absurd (omega arith)
row9-long e k1 k2 k3 k4 k5 k6 k7 k8 k9 to (c1 ∷ []) long = absurd (omega arith)
row9-long e k1 k2 k3 k4 k5 k6 k7 k8 k9 to (c1 ∷ c2 ∷ []) long = absurd (omega arith)
row9-long e k1 k2 k3 k4 k5 k6 k7 k8 k9 to (c1 ∷ c2 ∷ c3 ∷ []) long = absurd (omega arith)
row9-long e k1 k2 k3 k4 k5 k6 k7 k8 k9 to (c1 ∷ c2 ∷ c3 ∷ c4 ∷ []) long = absurd (omega arith)
row9-long e k1 k2 k3 k4 k5 k6 k7 k8 k9 to (c1 ∷ c2 ∷ c3 ∷ c4 ∷ c5 ∷ []) long = absurd (omega arith)
row9-long e k1 k2 k3 k4 k5 k6 k7 k8 k9 to (c1 ∷ c2 ∷ c3 ∷ c4 ∷ c5 ∷ c6 ∷ []) long = absurd (omega arith)
row9-long e k1 k2 k3 k4 k5 k6 k7 k8 k9 to (c1 ∷ c2 ∷ c3 ∷ c4 ∷ c5 ∷ c6 ∷ c7 ∷ []) long = absurd (omega arith)
row9-long e k1 k2 k3 k4 k5 k6 k7 k8 k9 to (c1 ∷ c2 ∷ c3 ∷ c4 ∷ c5 ∷ c6 ∷ c7 ∷ c8 ∷ []) long = absurd (omega arith)
row9-long e k1 k2 k3 k4 k5 k6 k7 k8 k9 to (c1 ∷ c2 ∷ c3 ∷ c4 ∷ c5 ∷ c6 ∷ c7 ∷ c8 ∷ c9 ∷ []) long = absurd (omega arith)
row9-long e k1 k2 k3 k4 k5 k6 k7 k8 k9 to (c1 ∷ c2 ∷ c3 ∷ c4 ∷ c5 ∷ c6 ∷ c7 ∷ c8 ∷ c9 ∷ c10 ∷ more) long = refl

pub row10-long : {A1 A2 A3 A4 A5 A6 A7 A8 A9 A10 X E : Type 0} (e : E) (k1 : List ℕ → Result A1 E) (k2 : List ℕ → Result A2 E) (k3 : List ℕ → Result A3 E) (k4 : List ℕ → Result A4 E) (k5 : List ℕ → Result A5 E) (k6 : List ℕ → Result A6 E) (k7 : List ℕ → Result A7 E) (k8 : List ℕ → Result A8 E) (k9 : List ℕ → Result A9 E) (k10 : List ℕ → Result A10 E) (to : A1 → A2 → A3 → A4 → A5 → A6 → A7 → A8 → A9 → A10 → X) (fields : List (List ℕ)) → 10 < length fields → row10 e k1 k2 k3 k4 k5 k6 k7 k8 k9 k10 to fields ≡ Err e
row10-long e k1 k2 k3 k4 k5 k6 k7 k8 k9 k10 to [] long = absurd (omega arith)
row10-long e k1 k2 k3 k4 k5 k6 k7 k8 k9 k10 to (c1 ∷ []) long = absurd (omega arith)
row10-long e k1 k2 k3 k4 k5 k6 k7 k8 k9 k10 to (c1 ∷ c2 ∷ []) long = absurd (omega arith)
row10-long e k1 k2 k3 k4 k5 k6 k7 k8 k9 k10 to (c1 ∷ c2 ∷ c3 ∷ []) long = absurd (omega arith)
row10-long e k1 k2 k3 k4 k5 k6 k7 k8 k9 k10 to (c1 ∷ c2 ∷ c3 ∷ c4 ∷ []) long = absurd (omega arith)
row10-long e k1 k2 k3 k4 k5 k6 k7 k8 k9 k10 to (c1 ∷ c2 ∷ c3 ∷ c4 ∷ c5 ∷ []) long = absurd (omega arith)
row10-long e k1 k2 k3 k4 k5 k6 k7 k8 k9 k10 to (c1 ∷ c2 ∷ c3 ∷ c4 ∷ c5 ∷ c6 ∷ []) long = absurd (omega arith)
row10-long e k1 k2 k3 k4 k5 k6 k7 k8 k9 k10 to (c1 ∷ c2 ∷ c3 ∷ c4 ∷ c5 ∷ c6 ∷ c7 ∷ []) long = absurd (omega arith)
row10-long e k1 k2 k3 k4 k5 k6 k7 k8 k9 k10 to (c1 ∷ c2 ∷ c3 ∷ c4 ∷ c5 ∷ c6 ∷ c7 ∷ c8 ∷ []) long = absurd (omega arith)
row10-long e k1 k2 k3 k4 k5 k6 k7 k8 k9 k10 to (c1 ∷ c2 ∷ c3 ∷ c4 ∷ c5 ∷ c6 ∷ c7 ∷ c8 ∷ c9 ∷ []) long = absurd (omega arith)
row10-long e k1 k2 k3 k4 k5 k6 k7 k8 k9 k10 to (c1 ∷ c2 ∷ c3 ∷ c4 ∷ c5 ∷ c6 ∷ c7 ∷ c8 ∷ c9 ∷ c10 ∷ []) long = absurd (omega arith)
row10-long e k1 k2 k3 k4 k5 k6 k7 k8 k9 k10 to (c1 ∷ c2 ∷ c3 ∷ c4 ∷ c5 ∷ c6 ∷ c7 ∷ c8 ∷ c9 ∷ c10 ∷ f11 ∷ more) long = refl

pub row11-long : {A1 A2 A3 A4 A5 A6 A7 A8 A9 A10 A11 X E : Type 0} (e : E) (k1 : List ℕ → Result A1 E) (k2 : List ℕ → Result A2 E) (k3 : List ℕ → Result A3 E) (k4 : List ℕ → Result A4 E) (k5 : List ℕ → Result A5 E) (k6 : List ℕ → Result A6 E) (k7 : List ℕ → Result A7 E) (k8 : List ℕ → Result A8 E) (k9 : List ℕ → Result A9 E) (k10 : List ℕ → Result A10 E) (k11 : List ℕ → Result A11 E) (to : A1 → A2 → A3 → A4 → A5 → A6 → A7 → A8 → A9 → A10 → A11 → X) (fields : List (List ℕ)) → 11 < length fields → row11 e k1 k2 k3 k4 k5 k6 k7 k8 k9 k10 k11 to fields ≡ Err e
row11-long e k1 k2 k3 k4 k5 k6 k7 k8 k9 k10 k11 to [] long = absurd (omega arith)
row11-long e k1 k2 k3 k4 k5 k6 k7 k8 k9 k10 k11 to (c1 ∷ []) long = absurd (omega arith)
row11-long e k1 k2 k3 k4 k5 k6 k7 k8 k9 k10 k11 to (c1 ∷ c2 ∷ []) long = absurd (omega arith)
row11-long e k1 k2 k3 k4 k5 k6 k7 k8 k9 k10 k11 to (c1 ∷ c2 ∷ c3 ∷ []) long = absurd (omega arith)
row11-long e k1 k2 k3 k4 k5 k6 k7 k8 k9 k10 k11 to (c1 ∷ c2 ∷ c3 ∷ c4 ∷ []) long = absurd (omega arith)
row11-long e k1 k2 k3 k4 k5 k6 k7 k8 k9 k10 k11 to (c1 ∷ c2 ∷ c3 ∷ c4 ∷ c5 ∷ []) long = absurd (omega arith)
row11-long e k1 k2 k3 k4 k5 k6 k7 k8 k9 k10 k11 to (c1 ∷ c2 ∷ c3 ∷ c4 ∷ c5 ∷ c6 ∷ []) long = absurd (omega arith)
row11-long e k1 k2 k3 k4 k5 k6 k7 k8 k9 k10 k11 to (c1 ∷ c2 ∷ c3 ∷ c4 ∷ c5 ∷ c6 ∷ c7 ∷ []) long = absurd (omega arith)
row11-long e k1 k2 k3 k4 k5 k6 k7 k8 k9 k10 k11 to (c1 ∷ c2 ∷ c3 ∷ c4 ∷ c5 ∷ c6 ∷ c7 ∷ c8 ∷ []) long = absurd (omega arith)
row11-long e k1 k2 k3 k4 k5 k6 k7 k8 k9 k10 k11 to (c1 ∷ c2 ∷ c3 ∷ c4 ∷ c5 ∷ c6 ∷ c7 ∷ c8 ∷ c9 ∷ []) long = absurd (omega arith)
row11-long e k1 k2 k3 k4 k5 k6 k7 k8 k9 k10 k11 to (c1 ∷ c2 ∷ c3 ∷ c4 ∷ c5 ∷ c6 ∷ c7 ∷ c8 ∷ c9 ∷ c10 ∷ []) long = absurd (omega arith)
row11-long e k1 k2 k3 k4 k5 k6 k7 k8 k9 k10 k11 to (c1 ∷ c2 ∷ c3 ∷ c4 ∷ c5 ∷ c6 ∷ c7 ∷ c8 ∷ c9 ∷ c10 ∷ c11 ∷ []) long = absurd (omega arith)
row11-long e k1 k2 k3 k4 k5 k6 k7 k8 k9 k10 k11 to (c1 ∷ c2 ∷ c3 ∷ c4 ∷ c5 ∷ c6 ∷ c7 ∷ c8 ∷ c9 ∷ c10 ∷ c11 ∷ f12 ∷ more) long = refl
