-- A row of fields that is read is spelled so.
use Rattle.std.proofs.Common.{◌≡◌, ℕ, List, [], ◌∷◌, sym, ap, ◌∙◌, subst}
use Rattle.std.specs.Prelude.{Result, Ok}
use Rattle.mip_words.specs.Steps.{◌>>=◌}
use Rattle.mip_words.proofs.StepLaws.{bind_ok, ok_is}
use Rattle.mip_lines.specs.Rows.{row1, row2, row3, row4, row6, row10, row11}
use Rattle.mip_lines.specs.RowsLaws.{Spells, row5, row7, row8, row9}

-- a first step that was read, seen as its spelling
taken : {A X E : Type 0} (r : List ℕ → Result A E) (t : A → List ℕ) → Spells r t → (f : List ℕ) (k : A → Result X E) (x : X) (P : List ℕ → Type 0)
    → (r f >>= k) ≡ Ok x → ((a : A) → k a ≡ Ok x → P (t a)) → P f
taken r t s f k x P is more =
    let p = bind_ok (r f) k x is in
    subst P (sym (s f p.0 p.1)) (more p.0 p.2)

pub row1-spelled : {A1 X E : Type 0} (e : E) (text : X → List (List ℕ)) (word : List ℕ)
    {k1 : List ℕ → Result A1 E} {t1 : A1 → List ℕ}
    {to : A1 → X}
    → Spells k1 t1
    → ((a1 : A1) → text (to a1) ≡ word ∷ t1 a1 ∷ [])
    → (fields : List (List ℕ)) (x : X) → row1 e k1 to fields ≡ Ok x → word ∷ fields ≡ text x
row1-spelled e text word s1 same [] x is = absurd cc
row1-spelled e text word {k1 = k1} {t1 = t1} {to = to} s1 same (c1 ∷ []) x is =
    taken k1 t1 s1 c1 (λ a1. Ok (to a1)) x (λ g. word ∷ g ∷ [] ≡ text x) is (λ a1 is1.
    sym (same a1) ∙ ap text (ok_is (to a1) x is1))
row1-spelled e text word s1 same (c1 ∷ g ∷ more) x is = absurd cc

pub row2-spelled : {A1 A2 X E : Type 0} (e : E) (text : X → List (List ℕ)) (word : List ℕ)
    {k1 : List ℕ → Result A1 E} {t1 : A1 → List ℕ}
    {k2 : List ℕ → Result A2 E} {t2 : A2 → List ℕ}
    {to : A1 → A2 → X}
    → Spells k1 t1
    → Spells k2 t2
    → ((a1 : A1) (a2 : A2) → text (to a1 a2) ≡ word ∷ t1 a1 ∷ t2 a2 ∷ [])
    → (fields : List (List ℕ)) (x : X) → row2 e k1 k2 to fields ≡ Ok x → word ∷ fields ≡ text x
row2-spelled e text word s1 s2 same [] x is = absurd cc
row2-spelled e text word s1 s2 same (c1 ∷ []) x is = absurd cc
row2-spelled e text word {k1 = k1} {t1 = t1} {k2 = k2} {t2 = t2} {to = to} s1 s2 same (c1 ∷ c2 ∷ []) x is =
    taken k1 t1 s1 c1 (λ a1. (k2 c2 >>= (λ a2. Ok (to a1 a2)))) x (λ g. word ∷ g ∷ c2 ∷ [] ≡ text x) is (λ a1 is1.
    taken k2 t2 s2 c2 (λ a2. Ok (to a1 a2)) x (λ g. word ∷ t1 a1 ∷ g ∷ [] ≡ text x) is1 (λ a2 is2.
    sym (same a1 a2) ∙ ap text (ok_is (to a1 a2) x is2)))
row2-spelled e text word s1 s2 same (c1 ∷ c2 ∷ g ∷ more) x is = absurd cc

pub row3-spelled : {A1 A2 A3 X E : Type 0} (e : E) (text : X → List (List ℕ)) (word : List ℕ)
    {k1 : List ℕ → Result A1 E} {t1 : A1 → List ℕ}
    {k2 : List ℕ → Result A2 E} {t2 : A2 → List ℕ}
    {k3 : List ℕ → Result A3 E} {t3 : A3 → List ℕ}
    {to : A1 → A2 → A3 → X}
    → Spells k1 t1
    → Spells k2 t2
    → Spells k3 t3
    → ((a1 : A1) (a2 : A2) (a3 : A3) → text (to a1 a2 a3) ≡ word ∷ t1 a1 ∷ t2 a2 ∷ t3 a3 ∷ [])
    → (fields : List (List ℕ)) (x : X) → row3 e k1 k2 k3 to fields ≡ Ok x → word ∷ fields ≡ text x
row3-spelled e text word s1 s2 s3 same [] x is = absurd cc
row3-spelled e text word s1 s2 s3 same (c1 ∷ []) x is = absurd cc
row3-spelled e text word s1 s2 s3 same (c1 ∷ c2 ∷ []) x is = absurd cc
row3-spelled e text word {k1 = k1} {t1 = t1} {k2 = k2} {t2 = t2} {k3 = k3} {t3 = t3} {to = to} s1 s2 s3 same (c1 ∷ c2 ∷ c3 ∷ []) x is =
    taken k1 t1 s1 c1 (λ a1. (k2 c2 >>= (λ a2. (k3 c3 >>= (λ a3. Ok (to a1 a2 a3)))))) x (λ g. word ∷ g ∷ c2 ∷ c3 ∷ [] ≡ text x) is (λ a1 is1.
    taken k2 t2 s2 c2 (λ a2. (k3 c3 >>= (λ a3. Ok (to a1 a2 a3)))) x (λ g. word ∷ t1 a1 ∷ g ∷ c3 ∷ [] ≡ text x) is1 (λ a2 is2.
    taken k3 t3 s3 c3 (λ a3. Ok (to a1 a2 a3)) x (λ g. word ∷ t1 a1 ∷ t2 a2 ∷ g ∷ [] ≡ text x) is2 (λ a3 is3.
    sym (same a1 a2 a3) ∙ ap text (ok_is (to a1 a2 a3) x is3))))
row3-spelled e text word s1 s2 s3 same (c1 ∷ c2 ∷ c3 ∷ g ∷ more) x is = absurd cc

pub row4-spelled : {A1 A2 A3 A4 X E : Type 0} (e : E) (text : X → List (List ℕ)) (word : List ℕ)
    {k1 : List ℕ → Result A1 E} {t1 : A1 → List ℕ}
    {k2 : List ℕ → Result A2 E} {t2 : A2 → List ℕ}
    {k3 : List ℕ → Result A3 E} {t3 : A3 → List ℕ}
    {k4 : List ℕ → Result A4 E} {t4 : A4 → List ℕ}
    {to : A1 → A2 → A3 → A4 → X}
    → Spells k1 t1
    → Spells k2 t2
    → Spells k3 t3
    → Spells k4 t4
    → ((a1 : A1) (a2 : A2) (a3 : A3) (a4 : A4) → text (to a1 a2 a3 a4) ≡ word ∷ t1 a1 ∷ t2 a2 ∷ t3 a3 ∷ t4 a4 ∷ [])
    → (fields : List (List ℕ)) (x : X) → row4 e k1 k2 k3 k4 to fields ≡ Ok x → word ∷ fields ≡ text x
row4-spelled e text word s1 s2 s3 s4 same [] x is = absurd cc
row4-spelled e text word s1 s2 s3 s4 same (c1 ∷ []) x is = absurd cc
row4-spelled e text word s1 s2 s3 s4 same (c1 ∷ c2 ∷ []) x is = absurd cc
row4-spelled e text word s1 s2 s3 s4 same (c1 ∷ c2 ∷ c3 ∷ []) x is = absurd cc
row4-spelled e text word {k1 = k1} {t1 = t1} {k2 = k2} {t2 = t2} {k3 = k3} {t3 = t3} {k4 = k4} {t4 = t4} {to = to} s1 s2 s3 s4 same (c1 ∷ c2 ∷ c3 ∷ c4 ∷ []) x is =
    taken k1 t1 s1 c1 (λ a1. (k2 c2 >>= (λ a2. (k3 c3 >>= (λ a3. (k4 c4 >>= (λ a4. Ok (to a1 a2 a3 a4)))))))) x (λ g. word ∷ g ∷ c2 ∷ c3 ∷ c4 ∷ [] ≡ text x) is (λ a1 is1.
    taken k2 t2 s2 c2 (λ a2. (k3 c3 >>= (λ a3. (k4 c4 >>= (λ a4. Ok (to a1 a2 a3 a4)))))) x (λ g. word ∷ t1 a1 ∷ g ∷ c3 ∷ c4 ∷ [] ≡ text x) is1 (λ a2 is2.
    taken k3 t3 s3 c3 (λ a3. (k4 c4 >>= (λ a4. Ok (to a1 a2 a3 a4)))) x (λ g. word ∷ t1 a1 ∷ t2 a2 ∷ g ∷ c4 ∷ [] ≡ text x) is2 (λ a3 is3.
    taken k4 t4 s4 c4 (λ a4. Ok (to a1 a2 a3 a4)) x (λ g. word ∷ t1 a1 ∷ t2 a2 ∷ t3 a3 ∷ g ∷ [] ≡ text x) is3 (λ a4 is4.
    sym (same a1 a2 a3 a4) ∙ ap text (ok_is (to a1 a2 a3 a4) x is4)))))
row4-spelled e text word s1 s2 s3 s4 same (c1 ∷ c2 ∷ c3 ∷ c4 ∷ g ∷ more) x is = absurd cc

pub row5-spelled : {A1 A2 A3 A4 A5 X E : Type 0} (e : E) (text : X → List (List ℕ)) (word : List ℕ)
    {k1 : List ℕ → Result A1 E} {t1 : A1 → List ℕ}
    {k2 : List ℕ → Result A2 E} {t2 : A2 → List ℕ}
    {k3 : List ℕ → Result A3 E} {t3 : A3 → List ℕ}
    {k4 : List ℕ → Result A4 E} {t4 : A4 → List ℕ}
    {k5 : List ℕ → Result A5 E} {t5 : A5 → List ℕ}
    {to : A1 → A2 → A3 → A4 → A5 → X}
    → Spells k1 t1
    → Spells k2 t2
    → Spells k3 t3
    → Spells k4 t4
    → Spells k5 t5
    → ((a1 : A1) (a2 : A2) (a3 : A3) (a4 : A4) (a5 : A5) → text (to a1 a2 a3 a4 a5) ≡ word ∷ t1 a1 ∷ t2 a2 ∷ t3 a3 ∷ t4 a4 ∷ t5 a5 ∷ [])
    → (fields : List (List ℕ)) (x : X) → row5 e k1 k2 k3 k4 k5 to fields ≡ Ok x → word ∷ fields ≡ text x
row5-spelled e text word s1 s2 s3 s4 s5 same [] x is = absurd cc
row5-spelled e text word s1 s2 s3 s4 s5 same (c1 ∷ []) x is = absurd cc
row5-spelled e text word s1 s2 s3 s4 s5 same (c1 ∷ c2 ∷ []) x is = absurd cc
row5-spelled e text word s1 s2 s3 s4 s5 same (c1 ∷ c2 ∷ c3 ∷ []) x is = absurd cc
row5-spelled e text word s1 s2 s3 s4 s5 same (c1 ∷ c2 ∷ c3 ∷ c4 ∷ []) x is = absurd cc
row5-spelled e text word {k1 = k1} {t1 = t1} {k2 = k2} {t2 = t2} {k3 = k3} {t3 = t3} {k4 = k4} {t4 = t4} {k5 = k5} {t5 = t5} {to = to} s1 s2 s3 s4 s5 same (c1 ∷ c2 ∷ c3 ∷ c4 ∷ c5 ∷ []) x is =
    taken k1 t1 s1 c1 (λ a1. (k2 c2 >>= (λ a2. (k3 c3 >>= (λ a3. (k4 c4 >>= (λ a4. (k5 c5 >>= (λ a5. Ok (to a1 a2 a3 a4 a5)))))))))) x (λ g. word ∷ g ∷ c2 ∷ c3 ∷ c4 ∷ c5 ∷ [] ≡ text x) is (λ a1 is1.
    taken k2 t2 s2 c2 (λ a2. (k3 c3 >>= (λ a3. (k4 c4 >>= (λ a4. (k5 c5 >>= (λ a5. Ok (to a1 a2 a3 a4 a5)))))))) x (λ g. word ∷ t1 a1 ∷ g ∷ c3 ∷ c4 ∷ c5 ∷ [] ≡ text x) is1 (λ a2 is2.
    taken k3 t3 s3 c3 (λ a3. (k4 c4 >>= (λ a4. (k5 c5 >>= (λ a5. Ok (to a1 a2 a3 a4 a5)))))) x (λ g. word ∷ t1 a1 ∷ t2 a2 ∷ g ∷ c4 ∷ c5 ∷ [] ≡ text x) is2 (λ a3 is3.
    taken k4 t4 s4 c4 (λ a4. (k5 c5 >>= (λ a5. Ok (to a1 a2 a3 a4 a5)))) x (λ g. word ∷ t1 a1 ∷ t2 a2 ∷ t3 a3 ∷ g ∷ c5 ∷ [] ≡ text x) is3 (λ a4 is4.
    taken k5 t5 s5 c5 (λ a5. Ok (to a1 a2 a3 a4 a5)) x (λ g. word ∷ t1 a1 ∷ t2 a2 ∷ t3 a3 ∷ t4 a4 ∷ g ∷ [] ≡ text x) is4 (λ a5 is5.
    sym (same a1 a2 a3 a4 a5) ∙ ap text (ok_is (to a1 a2 a3 a4 a5) x is5))))))
row5-spelled e text word s1 s2 s3 s4 s5 same (c1 ∷ c2 ∷ c3 ∷ c4 ∷ c5 ∷ g ∷ more) x is = absurd cc

pub row6-spelled : {A1 A2 A3 A4 A5 A6 X E : Type 0} (e : E) (text : X → List (List ℕ)) (word : List ℕ)
    {k1 : List ℕ → Result A1 E} {t1 : A1 → List ℕ}
    {k2 : List ℕ → Result A2 E} {t2 : A2 → List ℕ}
    {k3 : List ℕ → Result A3 E} {t3 : A3 → List ℕ}
    {k4 : List ℕ → Result A4 E} {t4 : A4 → List ℕ}
    {k5 : List ℕ → Result A5 E} {t5 : A5 → List ℕ}
    {k6 : List ℕ → Result A6 E} {t6 : A6 → List ℕ}
    {to : A1 → A2 → A3 → A4 → A5 → A6 → X}
    → Spells k1 t1
    → Spells k2 t2
    → Spells k3 t3
    → Spells k4 t4
    → Spells k5 t5
    → Spells k6 t6
    → ((a1 : A1) (a2 : A2) (a3 : A3) (a4 : A4) (a5 : A5) (a6 : A6) → text (to a1 a2 a3 a4 a5 a6) ≡ word ∷ t1 a1 ∷ t2 a2 ∷ t3 a3 ∷ t4 a4 ∷ t5 a5 ∷ t6 a6 ∷ [])
    → (fields : List (List ℕ)) (x : X) → row6 e k1 k2 k3 k4 k5 k6 to fields ≡ Ok x → word ∷ fields ≡ text x
row6-spelled e text word s1 s2 s3 s4 s5 s6 same [] x is = absurd cc
row6-spelled e text word s1 s2 s3 s4 s5 s6 same (c1 ∷ []) x is = absurd cc
row6-spelled e text word s1 s2 s3 s4 s5 s6 same (c1 ∷ c2 ∷ []) x is = absurd cc
row6-spelled e text word s1 s2 s3 s4 s5 s6 same (c1 ∷ c2 ∷ c3 ∷ []) x is = absurd cc
row6-spelled e text word s1 s2 s3 s4 s5 s6 same (c1 ∷ c2 ∷ c3 ∷ c4 ∷ []) x is = absurd cc
row6-spelled e text word s1 s2 s3 s4 s5 s6 same (c1 ∷ c2 ∷ c3 ∷ c4 ∷ c5 ∷ []) x is = absurd cc
row6-spelled e text word {k1 = k1} {t1 = t1} {k2 = k2} {t2 = t2} {k3 = k3} {t3 = t3} {k4 = k4} {t4 = t4} {k5 = k5} {t5 = t5} {k6 = k6} {t6 = t6} {to = to} s1 s2 s3 s4 s5 s6 same (c1 ∷ c2 ∷ c3 ∷ c4 ∷ c5 ∷ c6 ∷ []) x is =
    taken k1 t1 s1 c1 (λ a1. (k2 c2 >>= (λ a2. (k3 c3 >>= (λ a3. (k4 c4 >>= (λ a4. (k5 c5 >>= (λ a5. (k6 c6 >>= (λ a6. Ok (to a1 a2 a3 a4 a5 a6)))))))))))) x (λ g. word ∷ g ∷ c2 ∷ c3 ∷ c4 ∷ c5 ∷ c6 ∷ [] ≡ text x) is (λ a1 is1.
    taken k2 t2 s2 c2 (λ a2. (k3 c3 >>= (λ a3. (k4 c4 >>= (λ a4. (k5 c5 >>= (λ a5. (k6 c6 >>= (λ a6. Ok (to a1 a2 a3 a4 a5 a6)))))))))) x (λ g. word ∷ t1 a1 ∷ g ∷ c3 ∷ c4 ∷ c5 ∷ c6 ∷ [] ≡ text x) is1 (λ a2 is2.
    taken k3 t3 s3 c3 (λ a3. (k4 c4 >>= (λ a4. (k5 c5 >>= (λ a5. (k6 c6 >>= (λ a6. Ok (to a1 a2 a3 a4 a5 a6)))))))) x (λ g. word ∷ t1 a1 ∷ t2 a2 ∷ g ∷ c4 ∷ c5 ∷ c6 ∷ [] ≡ text x) is2 (λ a3 is3.
    taken k4 t4 s4 c4 (λ a4. (k5 c5 >>= (λ a5. (k6 c6 >>= (λ a6. Ok (to a1 a2 a3 a4 a5 a6)))))) x (λ g. word ∷ t1 a1 ∷ t2 a2 ∷ t3 a3 ∷ g ∷ c5 ∷ c6 ∷ [] ≡ text x) is3 (λ a4 is4.
    taken k5 t5 s5 c5 (λ a5. (k6 c6 >>= (λ a6. Ok (to a1 a2 a3 a4 a5 a6)))) x (λ g. word ∷ t1 a1 ∷ t2 a2 ∷ t3 a3 ∷ t4 a4 ∷ g ∷ c6 ∷ [] ≡ text x) is4 (λ a5 is5.
    taken k6 t6 s6 c6 (λ a6. Ok (to a1 a2 a3 a4 a5 a6)) x (λ g. word ∷ t1 a1 ∷ t2 a2 ∷ t3 a3 ∷ t4 a4 ∷ t5 a5 ∷ g ∷ [] ≡ text x) is5 (λ a6 is6.
    sym (same a1 a2 a3 a4 a5 a6) ∙ ap text (ok_is (to a1 a2 a3 a4 a5 a6) x is6)))))))
row6-spelled e text word s1 s2 s3 s4 s5 s6 same (c1 ∷ c2 ∷ c3 ∷ c4 ∷ c5 ∷ c6 ∷ g ∷ more) x is = absurd cc

pub row7-spelled : {A1 A2 A3 A4 A5 A6 A7 X E : Type 0} (e : E) (text : X → List (List ℕ)) (word : List ℕ)
    {k1 : List ℕ → Result A1 E} {t1 : A1 → List ℕ}
    {k2 : List ℕ → Result A2 E} {t2 : A2 → List ℕ}
    {k3 : List ℕ → Result A3 E} {t3 : A3 → List ℕ}
    {k4 : List ℕ → Result A4 E} {t4 : A4 → List ℕ}
    {k5 : List ℕ → Result A5 E} {t5 : A5 → List ℕ}
    {k6 : List ℕ → Result A6 E} {t6 : A6 → List ℕ}
    {k7 : List ℕ → Result A7 E} {t7 : A7 → List ℕ}
    {to : A1 → A2 → A3 → A4 → A5 → A6 → A7 → X}
    → Spells k1 t1
    → Spells k2 t2
    → Spells k3 t3
    → Spells k4 t4
    → Spells k5 t5
    → Spells k6 t6
    → Spells k7 t7
    → ((a1 : A1) (a2 : A2) (a3 : A3) (a4 : A4) (a5 : A5) (a6 : A6) (a7 : A7) → text (to a1 a2 a3 a4 a5 a6 a7) ≡ word ∷ t1 a1 ∷ t2 a2 ∷ t3 a3 ∷ t4 a4 ∷ t5 a5 ∷ t6 a6 ∷ t7 a7 ∷ [])
    → (fields : List (List ℕ)) (x : X) → row7 e k1 k2 k3 k4 k5 k6 k7 to fields ≡ Ok x → word ∷ fields ≡ text x
row7-spelled e text word s1 s2 s3 s4 s5 s6 s7 same [] x is = absurd cc
row7-spelled e text word s1 s2 s3 s4 s5 s6 s7 same (c1 ∷ []) x is = absurd cc
row7-spelled e text word s1 s2 s3 s4 s5 s6 s7 same (c1 ∷ c2 ∷ []) x is = absurd cc
row7-spelled e text word s1 s2 s3 s4 s5 s6 s7 same (c1 ∷ c2 ∷ c3 ∷ []) x is = absurd cc
row7-spelled e text word s1 s2 s3 s4 s5 s6 s7 same (c1 ∷ c2 ∷ c3 ∷ c4 ∷ []) x is = absurd cc
row7-spelled e text word s1 s2 s3 s4 s5 s6 s7 same (c1 ∷ c2 ∷ c3 ∷ c4 ∷ c5 ∷ []) x is = absurd cc
row7-spelled e text word s1 s2 s3 s4 s5 s6 s7 same (c1 ∷ c2 ∷ c3 ∷ c4 ∷ c5 ∷ c6 ∷ []) x is = absurd cc
row7-spelled e text word {k1 = k1} {t1 = t1} {k2 = k2} {t2 = t2} {k3 = k3} {t3 = t3} {k4 = k4} {t4 = t4} {k5 = k5} {t5 = t5} {k6 = k6} {t6 = t6} {k7 = k7} {t7 = t7} {to = to} s1 s2 s3 s4 s5 s6 s7 same (c1 ∷ c2 ∷ c3 ∷ c4 ∷ c5 ∷ c6 ∷ c7 ∷ []) x is =
    taken k1 t1 s1 c1 (λ a1. (k2 c2 >>= (λ a2. (k3 c3 >>= (λ a3. (k4 c4 >>= (λ a4. (k5 c5 >>= (λ a5. (k6 c6 >>= (λ a6. (k7 c7 >>= (λ a7. Ok (to a1 a2 a3 a4 a5 a6 a7)))))))))))))) x (λ g. word ∷ g ∷ c2 ∷ c3 ∷ c4 ∷ c5 ∷ c6 ∷ c7 ∷ [] ≡ text x) is (λ a1 is1.
    taken k2 t2 s2 c2 (λ a2. (k3 c3 >>= (λ a3. (k4 c4 >>= (λ a4. (k5 c5 >>= (λ a5. (k6 c6 >>= (λ a6. (k7 c7 >>= (λ a7. Ok (to a1 a2 a3 a4 a5 a6 a7)))))))))))) x (λ g. word ∷ t1 a1 ∷ g ∷ c3 ∷ c4 ∷ c5 ∷ c6 ∷ c7 ∷ [] ≡ text x) is1 (λ a2 is2.
    taken k3 t3 s3 c3 (λ a3. (k4 c4 >>= (λ a4. (k5 c5 >>= (λ a5. (k6 c6 >>= (λ a6. (k7 c7 >>= (λ a7. Ok (to a1 a2 a3 a4 a5 a6 a7)))))))))) x (λ g. word ∷ t1 a1 ∷ t2 a2 ∷ g ∷ c4 ∷ c5 ∷ c6 ∷ c7 ∷ [] ≡ text x) is2 (λ a3 is3.
    taken k4 t4 s4 c4 (λ a4. (k5 c5 >>= (λ a5. (k6 c6 >>= (λ a6. (k7 c7 >>= (λ a7. Ok (to a1 a2 a3 a4 a5 a6 a7)))))))) x (λ g. word ∷ t1 a1 ∷ t2 a2 ∷ t3 a3 ∷ g ∷ c5 ∷ c6 ∷ c7 ∷ [] ≡ text x) is3 (λ a4 is4.
    taken k5 t5 s5 c5 (λ a5. (k6 c6 >>= (λ a6. (k7 c7 >>= (λ a7. Ok (to a1 a2 a3 a4 a5 a6 a7)))))) x (λ g. word ∷ t1 a1 ∷ t2 a2 ∷ t3 a3 ∷ t4 a4 ∷ g ∷ c6 ∷ c7 ∷ [] ≡ text x) is4 (λ a5 is5.
    taken k6 t6 s6 c6 (λ a6. (k7 c7 >>= (λ a7. Ok (to a1 a2 a3 a4 a5 a6 a7)))) x (λ g. word ∷ t1 a1 ∷ t2 a2 ∷ t3 a3 ∷ t4 a4 ∷ t5 a5 ∷ g ∷ c7 ∷ [] ≡ text x) is5 (λ a6 is6.
    taken k7 t7 s7 c7 (λ a7. Ok (to a1 a2 a3 a4 a5 a6 a7)) x (λ g. word ∷ t1 a1 ∷ t2 a2 ∷ t3 a3 ∷ t4 a4 ∷ t5 a5 ∷ t6 a6 ∷ g ∷ [] ≡ text x) is6 (λ a7 is7.
    sym (same a1 a2 a3 a4 a5 a6 a7) ∙ ap text (ok_is (to a1 a2 a3 a4 a5 a6 a7) x is7))))))))
row7-spelled e text word s1 s2 s3 s4 s5 s6 s7 same (c1 ∷ c2 ∷ c3 ∷ c4 ∷ c5 ∷ c6 ∷ c7 ∷ g ∷ more) x is = absurd cc

pub row8-spelled : {A1 A2 A3 A4 A5 A6 A7 A8 X E : Type 0} (e : E) (text : X → List (List ℕ)) (word : List ℕ)
    {k1 : List ℕ → Result A1 E} {t1 : A1 → List ℕ}
    {k2 : List ℕ → Result A2 E} {t2 : A2 → List ℕ}
    {k3 : List ℕ → Result A3 E} {t3 : A3 → List ℕ}
    {k4 : List ℕ → Result A4 E} {t4 : A4 → List ℕ}
    {k5 : List ℕ → Result A5 E} {t5 : A5 → List ℕ}
    {k6 : List ℕ → Result A6 E} {t6 : A6 → List ℕ}
    {k7 : List ℕ → Result A7 E} {t7 : A7 → List ℕ}
    {k8 : List ℕ → Result A8 E} {t8 : A8 → List ℕ}
    {to : A1 → A2 → A3 → A4 → A5 → A6 → A7 → A8 → X}
    → Spells k1 t1
    → Spells k2 t2
    → Spells k3 t3
    → Spells k4 t4
    → Spells k5 t5
    → Spells k6 t6
    → Spells k7 t7
    → Spells k8 t8
    → ((a1 : A1) (a2 : A2) (a3 : A3) (a4 : A4) (a5 : A5) (a6 : A6) (a7 : A7) (a8 : A8) → text (to a1 a2 a3 a4 a5 a6 a7 a8) ≡ word ∷ t1 a1 ∷ t2 a2 ∷ t3 a3 ∷ t4 a4 ∷ t5 a5 ∷ t6 a6 ∷ t7 a7 ∷ t8 a8 ∷ [])
    → (fields : List (List ℕ)) (x : X) → row8 e k1 k2 k3 k4 k5 k6 k7 k8 to fields ≡ Ok x → word ∷ fields ≡ text x
row8-spelled e text word s1 s2 s3 s4 s5 s6 s7 s8 same [] x is = absurd cc
row8-spelled e text word s1 s2 s3 s4 s5 s6 s7 s8 same (c1 ∷ []) x is = absurd cc
row8-spelled e text word s1 s2 s3 s4 s5 s6 s7 s8 same (c1 ∷ c2 ∷ []) x is = absurd cc
row8-spelled e text word s1 s2 s3 s4 s5 s6 s7 s8 same (c1 ∷ c2 ∷ c3 ∷ []) x is = absurd cc
row8-spelled e text word s1 s2 s3 s4 s5 s6 s7 s8 same (c1 ∷ c2 ∷ c3 ∷ c4 ∷ []) x is = absurd cc
row8-spelled e text word s1 s2 s3 s4 s5 s6 s7 s8 same (c1 ∷ c2 ∷ c3 ∷ c4 ∷ c5 ∷ []) x is = absurd cc
row8-spelled e text word s1 s2 s3 s4 s5 s6 s7 s8 same (c1 ∷ c2 ∷ c3 ∷ c4 ∷ c5 ∷ c6 ∷ []) x is = absurd cc
row8-spelled e text word s1 s2 s3 s4 s5 s6 s7 s8 same (c1 ∷ c2 ∷ c3 ∷ c4 ∷ c5 ∷ c6 ∷ c7 ∷ []) x is = absurd cc
row8-spelled e text word {k1 = k1} {t1 = t1} {k2 = k2} {t2 = t2} {k3 = k3} {t3 = t3} {k4 = k4} {t4 = t4} {k5 = k5} {t5 = t5} {k6 = k6} {t6 = t6} {k7 = k7} {t7 = t7} {k8 = k8} {t8 = t8} {to = to} s1 s2 s3 s4 s5 s6 s7 s8 same (c1 ∷ c2 ∷ c3 ∷ c4 ∷ c5 ∷ c6 ∷ c7 ∷ c8 ∷ []) x is =
    taken k1 t1 s1 c1 (λ a1. (k2 c2 >>= (λ a2. (k3 c3 >>= (λ a3. (k4 c4 >>= (λ a4. (k5 c5 >>= (λ a5. (k6 c6 >>= (λ a6. (k7 c7 >>= (λ a7. (k8 c8 >>= (λ a8. Ok (to a1 a2 a3 a4 a5 a6 a7 a8)))))))))))))))) x (λ g. word ∷ g ∷ c2 ∷ c3 ∷ c4 ∷ c5 ∷ c6 ∷ c7 ∷ c8 ∷ [] ≡ text x) is (λ a1 is1.
    taken k2 t2 s2 c2 (λ a2. (k3 c3 >>= (λ a3. (k4 c4 >>= (λ a4. (k5 c5 >>= (λ a5. (k6 c6 >>= (λ a6. (k7 c7 >>= (λ a7. (k8 c8 >>= (λ a8. Ok (to a1 a2 a3 a4 a5 a6 a7 a8)))))))))))))) x (λ g. word ∷ t1 a1 ∷ g ∷ c3 ∷ c4 ∷ c5 ∷ c6 ∷ c7 ∷ c8 ∷ [] ≡ text x) is1 (λ a2 is2.
    taken k3 t3 s3 c3 (λ a3. (k4 c4 >>= (λ a4. (k5 c5 >>= (λ a5. (k6 c6 >>= (λ a6. (k7 c7 >>= (λ a7. (k8 c8 >>= (λ a8. Ok (to a1 a2 a3 a4 a5 a6 a7 a8)))))))))))) x (λ g. word ∷ t1 a1 ∷ t2 a2 ∷ g ∷ c4 ∷ c5 ∷ c6 ∷ c7 ∷ c8 ∷ [] ≡ text x) is2 (λ a3 is3.
    taken k4 t4 s4 c4 (λ a4. (k5 c5 >>= (λ a5. (k6 c6 >>= (λ a6. (k7 c7 >>= (λ a7. (k8 c8 >>= (λ a8. Ok (to a1 a2 a3 a4 a5 a6 a7 a8)))))))))) x (λ g. word ∷ t1 a1 ∷ t2 a2 ∷ t3 a3 ∷ g ∷ c5 ∷ c6 ∷ c7 ∷ c8 ∷ [] ≡ text x) is3 (λ a4 is4.
    taken k5 t5 s5 c5 (λ a5. (k6 c6 >>= (λ a6. (k7 c7 >>= (λ a7. (k8 c8 >>= (λ a8. Ok (to a1 a2 a3 a4 a5 a6 a7 a8)))))))) x (λ g. word ∷ t1 a1 ∷ t2 a2 ∷ t3 a3 ∷ t4 a4 ∷ g ∷ c6 ∷ c7 ∷ c8 ∷ [] ≡ text x) is4 (λ a5 is5.
    taken k6 t6 s6 c6 (λ a6. (k7 c7 >>= (λ a7. (k8 c8 >>= (λ a8. Ok (to a1 a2 a3 a4 a5 a6 a7 a8)))))) x (λ g. word ∷ t1 a1 ∷ t2 a2 ∷ t3 a3 ∷ t4 a4 ∷ t5 a5 ∷ g ∷ c7 ∷ c8 ∷ [] ≡ text x) is5 (λ a6 is6.
    taken k7 t7 s7 c7 (λ a7. (k8 c8 >>= (λ a8. Ok (to a1 a2 a3 a4 a5 a6 a7 a8)))) x (λ g. word ∷ t1 a1 ∷ t2 a2 ∷ t3 a3 ∷ t4 a4 ∷ t5 a5 ∷ t6 a6 ∷ g ∷ c8 ∷ [] ≡ text x) is6 (λ a7 is7.
    taken k8 t8 s8 c8 (λ a8. Ok (to a1 a2 a3 a4 a5 a6 a7 a8)) x (λ g. word ∷ t1 a1 ∷ t2 a2 ∷ t3 a3 ∷ t4 a4 ∷ t5 a5 ∷ t6 a6 ∷ t7 a7 ∷ g ∷ [] ≡ text x) is7 (λ a8 is8.
    sym (same a1 a2 a3 a4 a5 a6 a7 a8) ∙ ap text (ok_is (to a1 a2 a3 a4 a5 a6 a7 a8) x is8)))))))))
row8-spelled e text word s1 s2 s3 s4 s5 s6 s7 s8 same (c1 ∷ c2 ∷ c3 ∷ c4 ∷ c5 ∷ c6 ∷ c7 ∷ c8 ∷ g ∷ more) x is = absurd cc

pub row9-spelled : {A1 A2 A3 A4 A5 A6 A7 A8 A9 X E : Type 0} (e : E) (text : X → List (List ℕ)) (word : List ℕ)
    {k1 : List ℕ → Result A1 E} {t1 : A1 → List ℕ}
    {k2 : List ℕ → Result A2 E} {t2 : A2 → List ℕ}
    {k3 : List ℕ → Result A3 E} {t3 : A3 → List ℕ}
    {k4 : List ℕ → Result A4 E} {t4 : A4 → List ℕ}
    {k5 : List ℕ → Result A5 E} {t5 : A5 → List ℕ}
    {k6 : List ℕ → Result A6 E} {t6 : A6 → List ℕ}
    {k7 : List ℕ → Result A7 E} {t7 : A7 → List ℕ}
    {k8 : List ℕ → Result A8 E} {t8 : A8 → List ℕ}
    {k9 : List ℕ → Result A9 E} {t9 : A9 → List ℕ}
    {to : A1 → A2 → A3 → A4 → A5 → A6 → A7 → A8 → A9 → X}
    → Spells k1 t1
    → Spells k2 t2
    → Spells k3 t3
    → Spells k4 t4
    → Spells k5 t5
    → Spells k6 t6
    → Spells k7 t7
    → Spells k8 t8
    → Spells k9 t9
    → ((a1 : A1) (a2 : A2) (a3 : A3) (a4 : A4) (a5 : A5) (a6 : A6) (a7 : A7) (a8 : A8) (a9 : A9) → text (to a1 a2 a3 a4 a5 a6 a7 a8 a9) ≡ word ∷ t1 a1 ∷ t2 a2 ∷ t3 a3 ∷ t4 a4 ∷ t5 a5 ∷ t6 a6 ∷ t7 a7 ∷ t8 a8 ∷ t9 a9 ∷ [])
    → (fields : List (List ℕ)) (x : X) → row9 e k1 k2 k3 k4 k5 k6 k7 k8 k9 to fields ≡ Ok x → word ∷ fields ≡ text x
row9-spelled e text word s1 s2 s3 s4 s5 s6 s7 s8 s9 same [] x is = absurd cc
row9-spelled e text word s1 s2 s3 s4 s5 s6 s7 s8 s9 same (c1 ∷ []) x is = absurd cc
row9-spelled e text word s1 s2 s3 s4 s5 s6 s7 s8 s9 same (c1 ∷ c2 ∷ []) x is = absurd cc
row9-spelled e text word s1 s2 s3 s4 s5 s6 s7 s8 s9 same (c1 ∷ c2 ∷ c3 ∷ []) x is = absurd cc
row9-spelled e text word s1 s2 s3 s4 s5 s6 s7 s8 s9 same (c1 ∷ c2 ∷ c3 ∷ c4 ∷ []) x is = absurd cc
row9-spelled e text word s1 s2 s3 s4 s5 s6 s7 s8 s9 same (c1 ∷ c2 ∷ c3 ∷ c4 ∷ c5 ∷ []) x is = absurd cc
row9-spelled e text word s1 s2 s3 s4 s5 s6 s7 s8 s9 same (c1 ∷ c2 ∷ c3 ∷ c4 ∷ c5 ∷ c6 ∷ []) x is = absurd cc
row9-spelled e text word s1 s2 s3 s4 s5 s6 s7 s8 s9 same (c1 ∷ c2 ∷ c3 ∷ c4 ∷ c5 ∷ c6 ∷ c7 ∷ []) x is = absurd cc
row9-spelled e text word s1 s2 s3 s4 s5 s6 s7 s8 s9 same (c1 ∷ c2 ∷ c3 ∷ c4 ∷ c5 ∷ c6 ∷ c7 ∷ c8 ∷ []) x is = absurd cc
row9-spelled e text word {k1 = k1} {t1 = t1} {k2 = k2} {t2 = t2} {k3 = k3} {t3 = t3} {k4 = k4} {t4 = t4} {k5 = k5} {t5 = t5} {k6 = k6} {t6 = t6} {k7 = k7} {t7 = t7} {k8 = k8} {t8 = t8} {k9 = k9} {t9 = t9} {to = to} s1 s2 s3 s4 s5 s6 s7 s8 s9 same (c1 ∷ c2 ∷ c3 ∷ c4 ∷ c5 ∷ c6 ∷ c7 ∷ c8 ∷ c9 ∷ []) x is =
    taken k1 t1 s1 c1 (λ a1. (k2 c2 >>= (λ a2. (k3 c3 >>= (λ a3. (k4 c4 >>= (λ a4. (k5 c5 >>= (λ a5. (k6 c6 >>= (λ a6. (k7 c7 >>= (λ a7. (k8 c8 >>= (λ a8. (k9 c9 >>= (λ a9. Ok (to a1 a2 a3 a4 a5 a6 a7 a8 a9)))))))))))))))))) x (λ g. word ∷ g ∷ c2 ∷ c3 ∷ c4 ∷ c5 ∷ c6 ∷ c7 ∷ c8 ∷ c9 ∷ [] ≡ text x) is (λ a1 is1.
    taken k2 t2 s2 c2 (λ a2. (k3 c3 >>= (λ a3. (k4 c4 >>= (λ a4. (k5 c5 >>= (λ a5. (k6 c6 >>= (λ a6. (k7 c7 >>= (λ a7. (k8 c8 >>= (λ a8. (k9 c9 >>= (λ a9. Ok (to a1 a2 a3 a4 a5 a6 a7 a8 a9)))))))))))))))) x (λ g. word ∷ t1 a1 ∷ g ∷ c3 ∷ c4 ∷ c5 ∷ c6 ∷ c7 ∷ c8 ∷ c9 ∷ [] ≡ text x) is1 (λ a2 is2.
    taken k3 t3 s3 c3 (λ a3. (k4 c4 >>= (λ a4. (k5 c5 >>= (λ a5. (k6 c6 >>= (λ a6. (k7 c7 >>= (λ a7. (k8 c8 >>= (λ a8. (k9 c9 >>= (λ a9. Ok (to a1 a2 a3 a4 a5 a6 a7 a8 a9)))))))))))))) x (λ g. word ∷ t1 a1 ∷ t2 a2 ∷ g ∷ c4 ∷ c5 ∷ c6 ∷ c7 ∷ c8 ∷ c9 ∷ [] ≡ text x) is2 (λ a3 is3.
    taken k4 t4 s4 c4 (λ a4. (k5 c5 >>= (λ a5. (k6 c6 >>= (λ a6. (k7 c7 >>= (λ a7. (k8 c8 >>= (λ a8. (k9 c9 >>= (λ a9. Ok (to a1 a2 a3 a4 a5 a6 a7 a8 a9)))))))))))) x (λ g. word ∷ t1 a1 ∷ t2 a2 ∷ t3 a3 ∷ g ∷ c5 ∷ c6 ∷ c7 ∷ c8 ∷ c9 ∷ [] ≡ text x) is3 (λ a4 is4.
    taken k5 t5 s5 c5 (λ a5. (k6 c6 >>= (λ a6. (k7 c7 >>= (λ a7. (k8 c8 >>= (λ a8. (k9 c9 >>= (λ a9. Ok (to a1 a2 a3 a4 a5 a6 a7 a8 a9)))))))))) x (λ g. word ∷ t1 a1 ∷ t2 a2 ∷ t3 a3 ∷ t4 a4 ∷ g ∷ c6 ∷ c7 ∷ c8 ∷ c9 ∷ [] ≡ text x) is4 (λ a5 is5.
    taken k6 t6 s6 c6 (λ a6. (k7 c7 >>= (λ a7. (k8 c8 >>= (λ a8. (k9 c9 >>= (λ a9. Ok (to a1 a2 a3 a4 a5 a6 a7 a8 a9)))))))) x (λ g. word ∷ t1 a1 ∷ t2 a2 ∷ t3 a3 ∷ t4 a4 ∷ t5 a5 ∷ g ∷ c7 ∷ c8 ∷ c9 ∷ [] ≡ text x) is5 (λ a6 is6.
    taken k7 t7 s7 c7 (λ a7. (k8 c8 >>= (λ a8. (k9 c9 >>= (λ a9. Ok (to a1 a2 a3 a4 a5 a6 a7 a8 a9)))))) x (λ g. word ∷ t1 a1 ∷ t2 a2 ∷ t3 a3 ∷ t4 a4 ∷ t5 a5 ∷ t6 a6 ∷ g ∷ c8 ∷ c9 ∷ [] ≡ text x) is6 (λ a7 is7.
    taken k8 t8 s8 c8 (λ a8. (k9 c9 >>= (λ a9. Ok (to a1 a2 a3 a4 a5 a6 a7 a8 a9)))) x (λ g. word ∷ t1 a1 ∷ t2 a2 ∷ t3 a3 ∷ t4 a4 ∷ t5 a5 ∷ t6 a6 ∷ t7 a7 ∷ g ∷ c9 ∷ [] ≡ text x) is7 (λ a8 is8.
    taken k9 t9 s9 c9 (λ a9. Ok (to a1 a2 a3 a4 a5 a6 a7 a8 a9)) x (λ g. word ∷ t1 a1 ∷ t2 a2 ∷ t3 a3 ∷ t4 a4 ∷ t5 a5 ∷ t6 a6 ∷ t7 a7 ∷ t8 a8 ∷ g ∷ [] ≡ text x) is8 (λ a9 is9.
    sym (same a1 a2 a3 a4 a5 a6 a7 a8 a9) ∙ ap text (ok_is (to a1 a2 a3 a4 a5 a6 a7 a8 a9) x is9))))))))))
row9-spelled e text word s1 s2 s3 s4 s5 s6 s7 s8 s9 same (c1 ∷ c2 ∷ c3 ∷ c4 ∷ c5 ∷ c6 ∷ c7 ∷ c8 ∷ c9 ∷ g ∷ more) x is = absurd cc

pub row10-spelled : {A1 A2 A3 A4 A5 A6 A7 A8 A9 A10 X E : Type 0} (e : E) (text : X → List (List ℕ)) (word : List ℕ)
    {k1 : List ℕ → Result A1 E} {t1 : A1 → List ℕ}
    {k2 : List ℕ → Result A2 E} {t2 : A2 → List ℕ}
    {k3 : List ℕ → Result A3 E} {t3 : A3 → List ℕ}
    {k4 : List ℕ → Result A4 E} {t4 : A4 → List ℕ}
    {k5 : List ℕ → Result A5 E} {t5 : A5 → List ℕ}
    {k6 : List ℕ → Result A6 E} {t6 : A6 → List ℕ}
    {k7 : List ℕ → Result A7 E} {t7 : A7 → List ℕ}
    {k8 : List ℕ → Result A8 E} {t8 : A8 → List ℕ}
    {k9 : List ℕ → Result A9 E} {t9 : A9 → List ℕ}
    {k10 : List ℕ → Result A10 E} {t10 : A10 → List ℕ}
    {to : A1 → A2 → A3 → A4 → A5 → A6 → A7 → A8 → A9 → A10 → X}
    → Spells k1 t1
    → Spells k2 t2
    → Spells k3 t3
    → Spells k4 t4
    → Spells k5 t5
    → Spells k6 t6
    → Spells k7 t7
    → Spells k8 t8
    → Spells k9 t9
    → Spells k10 t10
    → ((a1 : A1) (a2 : A2) (a3 : A3) (a4 : A4) (a5 : A5) (a6 : A6) (a7 : A7) (a8 : A8) (a9 : A9) (a10 : A10) → text (to a1 a2 a3 a4 a5 a6 a7 a8 a9 a10) ≡ word ∷ t1 a1 ∷ t2 a2 ∷ t3 a3 ∷ t4 a4 ∷ t5 a5 ∷ t6 a6 ∷ t7 a7 ∷ t8 a8 ∷ t9 a9 ∷ t10 a10 ∷ [])
    → (fields : List (List ℕ)) (x : X) → row10 e k1 k2 k3 k4 k5 k6 k7 k8 k9 k10 to fields ≡ Ok x → word ∷ fields ≡ text x
row10-spelled e text word s1 s2 s3 s4 s5 s6 s7 s8 s9 s10 same [] x is = absurd cc
row10-spelled e text word s1 s2 s3 s4 s5 s6 s7 s8 s9 s10 same (c1 ∷ []) x is = absurd cc
row10-spelled e text word s1 s2 s3 s4 s5 s6 s7 s8 s9 s10 same (c1 ∷ c2 ∷ []) x is = absurd cc
row10-spelled e text word s1 s2 s3 s4 s5 s6 s7 s8 s9 s10 same (c1 ∷ c2 ∷ c3 ∷ []) x is = absurd cc
row10-spelled e text word s1 s2 s3 s4 s5 s6 s7 s8 s9 s10 same (c1 ∷ c2 ∷ c3 ∷ c4 ∷ []) x is = absurd cc
row10-spelled e text word s1 s2 s3 s4 s5 s6 s7 s8 s9 s10 same (c1 ∷ c2 ∷ c3 ∷ c4 ∷ c5 ∷ []) x is = absurd cc
row10-spelled e text word s1 s2 s3 s4 s5 s6 s7 s8 s9 s10 same (c1 ∷ c2 ∷ c3 ∷ c4 ∷ c5 ∷ c6 ∷ []) x is = absurd cc
row10-spelled e text word s1 s2 s3 s4 s5 s6 s7 s8 s9 s10 same (c1 ∷ c2 ∷ c3 ∷ c4 ∷ c5 ∷ c6 ∷ c7 ∷ []) x is = absurd cc
row10-spelled e text word s1 s2 s3 s4 s5 s6 s7 s8 s9 s10 same (c1 ∷ c2 ∷ c3 ∷ c4 ∷ c5 ∷ c6 ∷ c7 ∷ c8 ∷ []) x is = absurd cc
row10-spelled e text word s1 s2 s3 s4 s5 s6 s7 s8 s9 s10 same (c1 ∷ c2 ∷ c3 ∷ c4 ∷ c5 ∷ c6 ∷ c7 ∷ c8 ∷ c9 ∷ []) x is = absurd cc
row10-spelled e text word {k1 = k1} {t1 = t1} {k2 = k2} {t2 = t2} {k3 = k3} {t3 = t3} {k4 = k4} {t4 = t4} {k5 = k5} {t5 = t5} {k6 = k6} {t6 = t6} {k7 = k7} {t7 = t7} {k8 = k8} {t8 = t8} {k9 = k9} {t9 = t9} {k10 = k10} {t10 = t10} {to = to} s1 s2 s3 s4 s5 s6 s7 s8 s9 s10 same (c1 ∷ c2 ∷ c3 ∷ c4 ∷ c5 ∷ c6 ∷ c7 ∷ c8 ∷ c9 ∷ c10 ∷ []) x is =
    taken k1 t1 s1 c1 (λ a1. (k2 c2 >>= (λ a2. (k3 c3 >>= (λ a3. (k4 c4 >>= (λ a4. (k5 c5 >>= (λ a5. (k6 c6 >>= (λ a6. (k7 c7 >>= (λ a7. (k8 c8 >>= (λ a8. (k9 c9 >>= (λ a9. (k10 c10 >>= (λ a10. Ok (to a1 a2 a3 a4 a5 a6 a7 a8 a9 a10)))))))))))))))))))) x (λ g. word ∷ g ∷ c2 ∷ c3 ∷ c4 ∷ c5 ∷ c6 ∷ c7 ∷ c8 ∷ c9 ∷ c10 ∷ [] ≡ text x) is (λ a1 is1.
    taken k2 t2 s2 c2 (λ a2. (k3 c3 >>= (λ a3. (k4 c4 >>= (λ a4. (k5 c5 >>= (λ a5. (k6 c6 >>= (λ a6. (k7 c7 >>= (λ a7. (k8 c8 >>= (λ a8. (k9 c9 >>= (λ a9. (k10 c10 >>= (λ a10. Ok (to a1 a2 a3 a4 a5 a6 a7 a8 a9 a10)))))))))))))))))) x (λ g. word ∷ t1 a1 ∷ g ∷ c3 ∷ c4 ∷ c5 ∷ c6 ∷ c7 ∷ c8 ∷ c9 ∷ c10 ∷ [] ≡ text x) is1 (λ a2 is2.
    taken k3 t3 s3 c3 (λ a3. (k4 c4 >>= (λ a4. (k5 c5 >>= (λ a5. (k6 c6 >>= (λ a6. (k7 c7 >>= (λ a7. (k8 c8 >>= (λ a8. (k9 c9 >>= (λ a9. (k10 c10 >>= (λ a10. Ok (to a1 a2 a3 a4 a5 a6 a7 a8 a9 a10)))))))))))))))) x (λ g. word ∷ t1 a1 ∷ t2 a2 ∷ g ∷ c4 ∷ c5 ∷ c6 ∷ c7 ∷ c8 ∷ c9 ∷ c10 ∷ [] ≡ text x) is2 (λ a3 is3.
    taken k4 t4 s4 c4 (λ a4. (k5 c5 >>= (λ a5. (k6 c6 >>= (λ a6. (k7 c7 >>= (λ a7. (k8 c8 >>= (λ a8. (k9 c9 >>= (λ a9. (k10 c10 >>= (λ a10. Ok (to a1 a2 a3 a4 a5 a6 a7 a8 a9 a10)))))))))))))) x (λ g. word ∷ t1 a1 ∷ t2 a2 ∷ t3 a3 ∷ g ∷ c5 ∷ c6 ∷ c7 ∷ c8 ∷ c9 ∷ c10 ∷ [] ≡ text x) is3 (λ a4 is4.
    taken k5 t5 s5 c5 (λ a5. (k6 c6 >>= (λ a6. (k7 c7 >>= (λ a7. (k8 c8 >>= (λ a8. (k9 c9 >>= (λ a9. (k10 c10 >>= (λ a10. Ok (to a1 a2 a3 a4 a5 a6 a7 a8 a9 a10)))))))))))) x (λ g. word ∷ t1 a1 ∷ t2 a2 ∷ t3 a3 ∷ t4 a4 ∷ g ∷ c6 ∷ c7 ∷ c8 ∷ c9 ∷ c10 ∷ [] ≡ text x) is4 (λ a5 is5.
    taken k6 t6 s6 c6 (λ a6. (k7 c7 >>= (λ a7. (k8 c8 >>= (λ a8. (k9 c9 >>= (λ a9. (k10 c10 >>= (λ a10. Ok (to a1 a2 a3 a4 a5 a6 a7 a8 a9 a10)))))))))) x (λ g. word ∷ t1 a1 ∷ t2 a2 ∷ t3 a3 ∷ t4 a4 ∷ t5 a5 ∷ g ∷ c7 ∷ c8 ∷ c9 ∷ c10 ∷ [] ≡ text x) is5 (λ a6 is6.
    taken k7 t7 s7 c7 (λ a7. (k8 c8 >>= (λ a8. (k9 c9 >>= (λ a9. (k10 c10 >>= (λ a10. Ok (to a1 a2 a3 a4 a5 a6 a7 a8 a9 a10)))))))) x (λ g. word ∷ t1 a1 ∷ t2 a2 ∷ t3 a3 ∷ t4 a4 ∷ t5 a5 ∷ t6 a6 ∷ g ∷ c8 ∷ c9 ∷ c10 ∷ [] ≡ text x) is6 (λ a7 is7.
    taken k8 t8 s8 c8 (λ a8. (k9 c9 >>= (λ a9. (k10 c10 >>= (λ a10. Ok (to a1 a2 a3 a4 a5 a6 a7 a8 a9 a10)))))) x (λ g. word ∷ t1 a1 ∷ t2 a2 ∷ t3 a3 ∷ t4 a4 ∷ t5 a5 ∷ t6 a6 ∷ t7 a7 ∷ g ∷ c9 ∷ c10 ∷ [] ≡ text x) is7 (λ a8 is8.
    taken k9 t9 s9 c9 (λ a9. (k10 c10 >>= (λ a10. Ok (to a1 a2 a3 a4 a5 a6 a7 a8 a9 a10)))) x (λ g. word ∷ t1 a1 ∷ t2 a2 ∷ t3 a3 ∷ t4 a4 ∷ t5 a5 ∷ t6 a6 ∷ t7 a7 ∷ t8 a8 ∷ g ∷ c10 ∷ [] ≡ text x) is8 (λ a9 is9.
    taken k10 t10 s10 c10 (λ a10. Ok (to a1 a2 a3 a4 a5 a6 a7 a8 a9 a10)) x (λ g. word ∷ t1 a1 ∷ t2 a2 ∷ t3 a3 ∷ t4 a4 ∷ t5 a5 ∷ t6 a6 ∷ t7 a7 ∷ t8 a8 ∷ t9 a9 ∷ g ∷ [] ≡ text x) is9 (λ a10 is10.
    sym (same a1 a2 a3 a4 a5 a6 a7 a8 a9 a10) ∙ ap text (ok_is (to a1 a2 a3 a4 a5 a6 a7 a8 a9 a10) x is10)))))))))))
row10-spelled e text word s1 s2 s3 s4 s5 s6 s7 s8 s9 s10 same (c1 ∷ c2 ∷ c3 ∷ c4 ∷ c5 ∷ c6 ∷ c7 ∷ c8 ∷ c9 ∷ c10 ∷ g ∷ more) x is = absurd cc

pub row11-spelled : {A1 A2 A3 A4 A5 A6 A7 A8 A9 A10 A11 X E : Type 0} (e : E) (text : X → List (List ℕ)) (word : List ℕ)
    {k1 : List ℕ → Result A1 E} {t1 : A1 → List ℕ}
    {k2 : List ℕ → Result A2 E} {t2 : A2 → List ℕ}
    {k3 : List ℕ → Result A3 E} {t3 : A3 → List ℕ}
    {k4 : List ℕ → Result A4 E} {t4 : A4 → List ℕ}
    {k5 : List ℕ → Result A5 E} {t5 : A5 → List ℕ}
    {k6 : List ℕ → Result A6 E} {t6 : A6 → List ℕ}
    {k7 : List ℕ → Result A7 E} {t7 : A7 → List ℕ}
    {k8 : List ℕ → Result A8 E} {t8 : A8 → List ℕ}
    {k9 : List ℕ → Result A9 E} {t9 : A9 → List ℕ}
    {k10 : List ℕ → Result A10 E} {t10 : A10 → List ℕ}
    {k11 : List ℕ → Result A11 E} {t11 : A11 → List ℕ}
    {to : A1 → A2 → A3 → A4 → A5 → A6 → A7 → A8 → A9 → A10 → A11 → X}
    → Spells k1 t1
    → Spells k2 t2
    → Spells k3 t3
    → Spells k4 t4
    → Spells k5 t5
    → Spells k6 t6
    → Spells k7 t7
    → Spells k8 t8
    → Spells k9 t9
    → Spells k10 t10
    → Spells k11 t11
    → ((a1 : A1) (a2 : A2) (a3 : A3) (a4 : A4) (a5 : A5) (a6 : A6) (a7 : A7) (a8 : A8) (a9 : A9) (a10 : A10) (a11 : A11) → text (to a1 a2 a3 a4 a5 a6 a7 a8 a9 a10 a11) ≡ word ∷ t1 a1 ∷ t2 a2 ∷ t3 a3 ∷ t4 a4 ∷ t5 a5 ∷ t6 a6 ∷ t7 a7 ∷ t8 a8 ∷ t9 a9 ∷ t10 a10 ∷ t11 a11 ∷ [])
    → (fields : List (List ℕ)) (x : X) → row11 e k1 k2 k3 k4 k5 k6 k7 k8 k9 k10 k11 to fields ≡ Ok x → word ∷ fields ≡ text x
row11-spelled e text word s1 s2 s3 s4 s5 s6 s7 s8 s9 s10 s11 same [] x is = absurd cc
row11-spelled e text word s1 s2 s3 s4 s5 s6 s7 s8 s9 s10 s11 same (c1 ∷ []) x is = absurd cc
row11-spelled e text word s1 s2 s3 s4 s5 s6 s7 s8 s9 s10 s11 same (c1 ∷ c2 ∷ []) x is = absurd cc
row11-spelled e text word s1 s2 s3 s4 s5 s6 s7 s8 s9 s10 s11 same (c1 ∷ c2 ∷ c3 ∷ []) x is = absurd cc
row11-spelled e text word s1 s2 s3 s4 s5 s6 s7 s8 s9 s10 s11 same (c1 ∷ c2 ∷ c3 ∷ c4 ∷ []) x is = absurd cc
row11-spelled e text word s1 s2 s3 s4 s5 s6 s7 s8 s9 s10 s11 same (c1 ∷ c2 ∷ c3 ∷ c4 ∷ c5 ∷ []) x is = absurd cc
row11-spelled e text word s1 s2 s3 s4 s5 s6 s7 s8 s9 s10 s11 same (c1 ∷ c2 ∷ c3 ∷ c4 ∷ c5 ∷ c6 ∷ []) x is = absurd cc
row11-spelled e text word s1 s2 s3 s4 s5 s6 s7 s8 s9 s10 s11 same (c1 ∷ c2 ∷ c3 ∷ c4 ∷ c5 ∷ c6 ∷ c7 ∷ []) x is = absurd cc
row11-spelled e text word s1 s2 s3 s4 s5 s6 s7 s8 s9 s10 s11 same (c1 ∷ c2 ∷ c3 ∷ c4 ∷ c5 ∷ c6 ∷ c7 ∷ c8 ∷ []) x is = absurd cc
row11-spelled e text word s1 s2 s3 s4 s5 s6 s7 s8 s9 s10 s11 same (c1 ∷ c2 ∷ c3 ∷ c4 ∷ c5 ∷ c6 ∷ c7 ∷ c8 ∷ c9 ∷ []) x is = absurd cc
row11-spelled e text word s1 s2 s3 s4 s5 s6 s7 s8 s9 s10 s11 same (c1 ∷ c2 ∷ c3 ∷ c4 ∷ c5 ∷ c6 ∷ c7 ∷ c8 ∷ c9 ∷ c10 ∷ []) x is = absurd cc
row11-spelled e text word {k1 = k1} {t1 = t1} {k2 = k2} {t2 = t2} {k3 = k3} {t3 = t3} {k4 = k4} {t4 = t4} {k5 = k5} {t5 = t5} {k6 = k6} {t6 = t6} {k7 = k7} {t7 = t7} {k8 = k8} {t8 = t8} {k9 = k9} {t9 = t9} {k10 = k10} {t10 = t10} {k11 = k11} {t11 = t11} {to = to} s1 s2 s3 s4 s5 s6 s7 s8 s9 s10 s11 same (c1 ∷ c2 ∷ c3 ∷ c4 ∷ c5 ∷ c6 ∷ c7 ∷ c8 ∷ c9 ∷ c10 ∷ c11 ∷ []) x is =
    taken k1 t1 s1 c1 (λ a1. (k2 c2 >>= (λ a2. (k3 c3 >>= (λ a3. (k4 c4 >>= (λ a4. (k5 c5 >>= (λ a5. (k6 c6 >>= (λ a6. (k7 c7 >>= (λ a7. (k8 c8 >>= (λ a8. (k9 c9 >>= (λ a9. (k10 c10 >>= (λ a10. (k11 c11 >>= (λ a11. Ok (to a1 a2 a3 a4 a5 a6 a7 a8 a9 a10 a11)))))))))))))))))))))) x (λ g. word ∷ g ∷ c2 ∷ c3 ∷ c4 ∷ c5 ∷ c6 ∷ c7 ∷ c8 ∷ c9 ∷ c10 ∷ c11 ∷ [] ≡ text x) is (λ a1 is1.
    taken k2 t2 s2 c2 (λ a2. (k3 c3 >>= (λ a3. (k4 c4 >>= (λ a4. (k5 c5 >>= (λ a5. (k6 c6 >>= (λ a6. (k7 c7 >>= (λ a7. (k8 c8 >>= (λ a8. (k9 c9 >>= (λ a9. (k10 c10 >>= (λ a10. (k11 c11 >>= (λ a11. Ok (to a1 a2 a3 a4 a5 a6 a7 a8 a9 a10 a11)))))))))))))))))))) x (λ g. word ∷ t1 a1 ∷ g ∷ c3 ∷ c4 ∷ c5 ∷ c6 ∷ c7 ∷ c8 ∷ c9 ∷ c10 ∷ c11 ∷ [] ≡ text x) is1 (λ a2 is2.
    taken k3 t3 s3 c3 (λ a3. (k4 c4 >>= (λ a4. (k5 c5 >>= (λ a5. (k6 c6 >>= (λ a6. (k7 c7 >>= (λ a7. (k8 c8 >>= (λ a8. (k9 c9 >>= (λ a9. (k10 c10 >>= (λ a10. (k11 c11 >>= (λ a11. Ok (to a1 a2 a3 a4 a5 a6 a7 a8 a9 a10 a11)))))))))))))))))) x (λ g. word ∷ t1 a1 ∷ t2 a2 ∷ g ∷ c4 ∷ c5 ∷ c6 ∷ c7 ∷ c8 ∷ c9 ∷ c10 ∷ c11 ∷ [] ≡ text x) is2 (λ a3 is3.
    taken k4 t4 s4 c4 (λ a4. (k5 c5 >>= (λ a5. (k6 c6 >>= (λ a6. (k7 c7 >>= (λ a7. (k8 c8 >>= (λ a8. (k9 c9 >>= (λ a9. (k10 c10 >>= (λ a10. (k11 c11 >>= (λ a11. Ok (to a1 a2 a3 a4 a5 a6 a7 a8 a9 a10 a11)))))))))))))))) x (λ g. word ∷ t1 a1 ∷ t2 a2 ∷ t3 a3 ∷ g ∷ c5 ∷ c6 ∷ c7 ∷ c8 ∷ c9 ∷ c10 ∷ c11 ∷ [] ≡ text x) is3 (λ a4 is4.
    taken k5 t5 s5 c5 (λ a5. (k6 c6 >>= (λ a6. (k7 c7 >>= (λ a7. (k8 c8 >>= (λ a8. (k9 c9 >>= (λ a9. (k10 c10 >>= (λ a10. (k11 c11 >>= (λ a11. Ok (to a1 a2 a3 a4 a5 a6 a7 a8 a9 a10 a11)))))))))))))) x (λ g. word ∷ t1 a1 ∷ t2 a2 ∷ t3 a3 ∷ t4 a4 ∷ g ∷ c6 ∷ c7 ∷ c8 ∷ c9 ∷ c10 ∷ c11 ∷ [] ≡ text x) is4 (λ a5 is5.
    taken k6 t6 s6 c6 (λ a6. (k7 c7 >>= (λ a7. (k8 c8 >>= (λ a8. (k9 c9 >>= (λ a9. (k10 c10 >>= (λ a10. (k11 c11 >>= (λ a11. Ok (to a1 a2 a3 a4 a5 a6 a7 a8 a9 a10 a11)))))))))))) x (λ g. word ∷ t1 a1 ∷ t2 a2 ∷ t3 a3 ∷ t4 a4 ∷ t5 a5 ∷ g ∷ c7 ∷ c8 ∷ c9 ∷ c10 ∷ c11 ∷ [] ≡ text x) is5 (λ a6 is6.
    taken k7 t7 s7 c7 (λ a7. (k8 c8 >>= (λ a8. (k9 c9 >>= (λ a9. (k10 c10 >>= (λ a10. (k11 c11 >>= (λ a11. Ok (to a1 a2 a3 a4 a5 a6 a7 a8 a9 a10 a11)))))))))) x (λ g. word ∷ t1 a1 ∷ t2 a2 ∷ t3 a3 ∷ t4 a4 ∷ t5 a5 ∷ t6 a6 ∷ g ∷ c8 ∷ c9 ∷ c10 ∷ c11 ∷ [] ≡ text x) is6 (λ a7 is7.
    taken k8 t8 s8 c8 (λ a8. (k9 c9 >>= (λ a9. (k10 c10 >>= (λ a10. (k11 c11 >>= (λ a11. Ok (to a1 a2 a3 a4 a5 a6 a7 a8 a9 a10 a11)))))))) x (λ g. word ∷ t1 a1 ∷ t2 a2 ∷ t3 a3 ∷ t4 a4 ∷ t5 a5 ∷ t6 a6 ∷ t7 a7 ∷ g ∷ c9 ∷ c10 ∷ c11 ∷ [] ≡ text x) is7 (λ a8 is8.
    taken k9 t9 s9 c9 (λ a9. (k10 c10 >>= (λ a10. (k11 c11 >>= (λ a11. Ok (to a1 a2 a3 a4 a5 a6 a7 a8 a9 a10 a11)))))) x (λ g. word ∷ t1 a1 ∷ t2 a2 ∷ t3 a3 ∷ t4 a4 ∷ t5 a5 ∷ t6 a6 ∷ t7 a7 ∷ t8 a8 ∷ g ∷ c10 ∷ c11 ∷ [] ≡ text x) is8 (λ a9 is9.
    taken k10 t10 s10 c10 (λ a10. (k11 c11 >>= (λ a11. Ok (to a1 a2 a3 a4 a5 a6 a7 a8 a9 a10 a11)))) x (λ g. word ∷ t1 a1 ∷ t2 a2 ∷ t3 a3 ∷ t4 a4 ∷ t5 a5 ∷ t6 a6 ∷ t7 a7 ∷ t8 a8 ∷ t9 a9 ∷ g ∷ c11 ∷ [] ≡ text x) is9 (λ a10 is10.
    taken k11 t11 s11 c11 (λ a11. Ok (to a1 a2 a3 a4 a5 a6 a7 a8 a9 a10 a11)) x (λ g. word ∷ t1 a1 ∷ t2 a2 ∷ t3 a3 ∷ t4 a4 ∷ t5 a5 ∷ t6 a6 ∷ t7 a7 ∷ t8 a8 ∷ t9 a9 ∷ t10 a10 ∷ g ∷ [] ≡ text x) is10 (λ a11 is11.
    sym (same a1 a2 a3 a4 a5 a6 a7 a8 a9 a10 a11) ∙ ap text (ok_is (to a1 a2 a3 a4 a5 a6 a7 a8 a9 a10 a11) x is11))))))))))))
row11-spelled e text word s1 s2 s3 s4 s5 s6 s7 s8 s9 s10 s11 same (c1 ∷ c2 ∷ c3 ∷ c4 ∷ c5 ∷ c6 ∷ c7 ∷ c8 ∷ c9 ∷ c10 ∷ c11 ∷ g ∷ more) x is = absurd cc
