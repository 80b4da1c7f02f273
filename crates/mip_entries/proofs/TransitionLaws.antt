-- How a transition goes on by a step, and a past by a transition. Only here a step is looked into.
use Rattle.std.proofs.Common.{◌≡◌, ℕ, List, [], ◌∷◌, ◌++◌, refl, sym, ap, ◌∙◌, subst}
use Rattle.std.specs.Prelude.{Bool, false, ◌||◌}
use Rattle.std.specs.List.{list_any}
use Rattle.std.proofs.lemmas.Bool.{or_parts}
use Rattle.std.proofs.lemmas.List.{append_assoc, append-nil, map_push}
use Rattle.std.proofs.lemmas.List.Folds.{list_any-append}
use Rattle.std.proofs.lemmas.List.Sums.{fold-append}
use Rattle.mip_entries.specs.Stamped.{Stamped, stamped}
use Rattle.mip_entries.specs.Transitions.{Transition, begun, noted_by, known_by, StandsBy, with_transition}

module _ {K S : Type 0} (after : K → Stamped S → K) where
  pub noted-now : (step : S) (t : Transition K S) → (noted_by after step t).now ≡ t.now
  unfolding noted_by
  noted-now step t = refl

  pub noted-known : (step : S) (t : Transition K S) → (noted_by after step t).known ≡ after t.known (record { at = t.now; step = step })
  unfolding noted_by
  noted-known step t = refl

  pub noted-steps : (step : S) (t : Transition K S) → (noted_by after step t).steps ≡ t.steps ++ step ∷ []
  unfolding noted_by
  noted-steps step t = refl

  -- steps taken one after another
  abbrev pub noted_all : List S → Transition K S → Transition K S
  noted_all [] t = t
  noted_all (step ∷ steps) t = noted_all steps (noted_by after step t)

  -- a transition that went on by steps is at its moment, knows what they leave known, and has them behind its own
  pub noted_all-is : (steps : List S) (t : Transition K S) → noted_all steps t ≡ record { now = t.now; known = known_by after t.known (stamped t.now steps); steps = t.steps ++ steps }
  unfolding noted_by
  noted_all-is [] t = ap (λ (l : List S). record { now = t.now; known = t.known; steps = l }) (sym (append-nil t.steps))
  noted_all-is (step ∷ steps) t =
      noted_all-is steps (noted_by after step t)
      ∙ ap (λ (l : List S). record { now = t.now; known = known_by after t.known (stamped t.now (step ∷ steps)); steps = l }) (append_assoc t.steps (step ∷ []) steps)

  -- no step so far is such a step, and one more is none
  pub none-noted : (test : S → Bool) (step : S) (t : Transition K S) → list_any test t.steps ≡ false → test step ≡ false → list_any test (noted_by after step t).steps ≡ false
  none-noted test step t before last =
      ap (list_any test) (noted-steps step t) ∙ list_any-append test t.steps (step ∷ [])
      ∙ ap (λ (b : Bool). b || (test step || false)) before ∙ ap (λ (b : Bool). b || false) last

  -- the other way round
  pub none-parts : (test : S → Bool) (step : S) (t : Transition K S) → list_any test (noted_by after step t).steps ≡ false → (list_any test t.steps ≡ false) × (test step ≡ false)
  none-parts test step t none =
      let both = or_parts (list_any test t.steps) (test step || false) (sym (list_any-append test t.steps (step ∷ [])) ∙ sym (ap (list_any test) (noted-steps step t)) ∙ none) in
      let last = or_parts (test step) false both.1 in
      (both.0, last.0)

  -- one step more
  pub known-push : (fresh : K) (past : List (Stamped S)) (s : Stamped S) → known_by after fresh (past ++ s ∷ []) ≡ after (known_by after fresh past) s
  known-push fresh past s = fold-append after fresh past (s ∷ [])

  -- a transition with one step more is the past with one step more
  pub with_transition-noted : (past : List (Stamped S)) (step : S) (t : Transition K S) → with_transition past (noted_by after step t) ≡ with_transition past t ++ record { at = t.now; step = step } ∷ []
  unfolding noted_by
  with_transition-noted past step t =
      ap (λ (l : List (Stamped S)). past ++ l) (map_push (λ (s : S). record { at = t.now; step = s }) t.steps step)
      ∙ sym (append_assoc past (stamped t.now t.steps) (record { at = t.now; step = step } ∷ []))

  -- whoever stands for a past with the transition so far stands for it with one step more
  pub stands-noted : (fresh : K) (past : List (Stamped S)) (step : S) (t : Transition K S) → StandsBy after fresh (with_transition past t) t.known → StandsBy after fresh (with_transition past (noted_by after step t)) (noted_by after step t).known
  unfolding StandsBy noted_by
  stands-noted fresh past step t stands =
      ap (λ (k : K). after k (record { at = t.now; step = step })) stands
      ∙ sym (known-push fresh (with_transition past t) (record { at = t.now; step = step }))
      ∙ ap (known_by after fresh) (sym (with_transition-noted past step t))

  pub stands-begun : (fresh : K) (past : List (Stamped S)) (now : ℕ) (k : K) → StandsBy after fresh past k → StandsBy after fresh (with_transition past (begun {K = K} {S = S} now k)) k
  stands-begun fresh past now k stands = subst (λ (l : List (Stamped S)). StandsBy after fresh l k) (sym (append-nil past)) stands

  pub stands-fresh : (fresh : K) → StandsBy after fresh [] fresh
  unfolding StandsBy
  stands-fresh fresh = refl
