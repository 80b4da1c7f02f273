-- What shows of a transition, step by step.
use Rattle.std.proofs.Common.{◌≡◌, ℕ, List, [], ◌∷◌, ◌++◌, refl, ap, ◌∙◌}
use Rattle.std.proofs.lemmas.Grind.{flat_map-append}
use Rattle.std.proofs.lemmas.List.{append-nil}
use Rattle.mip_entries.specs.declared.answer.Answer.{Answer}
use Rattle.mip_entries.specs.Stamped.{Stamped}
use Rattle.mip_entries.specs.Transitions.{Transition, begun, noted_by}
use Rattle.mip_entries.specs.Shows.{answers_by, ShowsBy}

module _ {K S : Type 0} (show : S → List Answer) where
  pub shows-begun : (now : ℕ) (k : K) → ShowsBy show now k [] (begun {K = K} {S = S} now k)
  unfolding ShowsBy
  shows-begun now k = (refl, refl, refl)

  pub shows-now : (now : ℕ) (k : K) (answers : List Answer) (t : Transition K S) → ShowsBy show now k answers t → t.now ≡ now
  unfolding ShowsBy
  shows-now now k answers t s = s.0

  pub shows-known : (now : ℕ) (k : K) (answers : List Answer) (t : Transition K S) → ShowsBy show now k answers t → t.known ≡ k
  unfolding ShowsBy
  shows-known now k answers t s = s.1

  pub shows-answers : (now : ℕ) (k : K) (answers : List Answer) (t : Transition K S) → ShowsBy show now k answers t → answers_by show t.steps ≡ answers
  unfolding ShowsBy
  shows-answers now k answers t s = s.2

  -- the same, where what is known is the same
  pub shows-same : (now : ℕ) (k l : K) (answers : List Answer) (t : Transition K S) → k ≡ l → ShowsBy show now k answers t → ShowsBy show now l answers t
  unfolding ShowsBy
  shows-same now k l answers t same s = (s.0, s.1 ∙ same, s.2)

  module _ (after : K → Stamped S → K) where
    pub answers-noted : (step : S) (t : Transition K S) → answers_by show (noted_by after step t).steps ≡ answers_by show t.steps ++ show step
    unfolding noted_by
    answers-noted step t =
        flat_map-append show t.steps (step ∷ []) ∙ ap (λ (l : List Answer). answers_by show t.steps ++ l) (append-nil (show step))

    pub shows-noted : (step : S) (now : ℕ) (k : K) (answers : List Answer) (t : Transition K S) → ShowsBy show now k answers t
        → ShowsBy show now (after k (record { at = now; step = step })) (answers ++ show step) (noted_by after step t)
    unfolding ShowsBy noted_by
    shows-noted step now k answers t s = (
      s.0,
      ap (λ (m : K). after m (record { at = t.now; step = step })) s.1 ∙ ap (λ (n : ℕ). after k (record { at = n; step = step })) s.0,
      answers-noted step t ∙ ap (λ (l : List Answer). l ++ show step) s.2,
    )
