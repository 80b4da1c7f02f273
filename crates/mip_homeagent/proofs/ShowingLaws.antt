-- How what a transition shows goes on with its steps.
use Rattle.std.proofs.Common.{◌≡◌, ℕ, List, [], ◌∷◌, ◌++◌, refl, sym, ap, ◌∙◌, subst}
use Rattle.std.specs.Prelude.{Bool, true, false, Option, None}
use Rattle.std.proofs.lemmas.List.{append_assoc}
use Rattle.std.proofs.lemmas.List.Sums.{fold-append}
use Rattle.mip_words.specs.declared.address.Address.{Address}
use Rattle.mip_words.specs.declared.shield.Shield.{Shield}
use Rattle.mip_words.specs.declared.why.Why.{Why}
use Rattle.mip_entries.specs.declared.answer.Answer.{Answer}
use Rattle.mip_entries.proofs.TransitionLaws.{noted-steps}
use Rattle.mip_entries.specs.Shows.{ShowsBy}
use Rattle.mip_entries.proofs.ShowLaws as laws
use Rattle.mip_rules_agent.specs.declared.home_binding.HomeBinding.{HomeBinding}
use Rattle.mip_rules_agent.specs.Rules.{claims_if}
use Rattle.mip_rules_agent.specs.Known.{Known}
use Rattle.mip_rules_agent.specs.Calls.{Call}
use Rattle.mip_rules_agent.specs.Steps.{Step, Called, Sends, Registers, Claims, Releases, Denies, Drops, answer_of, answers_of}
use Rattle.mip_rules_agent.specs.Questions.{bound_to, with_served, ends_with, after}
use Rattle.mip_rules_agent.specs.Claims.{claims_after, claims_by}
use Rattle.mip_rules_agent.specs.Transitions.{Transition, begun, noted}
use Rattle.mip_homeagent.specs.Changes.{Claiming, unclaimed, with_holding, claims_held, holding_of, answers_change}
use Rattle.mip_homeagent.specs.Showing.{Shows, Leads}

claims-noted : (step : Step) (t : Transition) (claims : ℕ → Bool) → claims_by (noted step t).steps claims ≡ claims_after step (claims_by t.steps claims)
claims-noted step t claims =
    ap (λ (steps : List Step). claims_by steps claims) (noted-steps after step t)
    ∙ fold-append (λ (claims : ℕ → Bool) (step : Step). claims_after step claims) claims t.steps (step ∷ [])

-- a step, where its answer was appended
pub shown : (step : Step) (now : ℕ) (known : Known) (claiming : Claiming) (answers more : List Answer) (t : Transition) → more ≡ answers ++ answer_of step → Shows now known claiming answers t
    → Shows now (after known (record { at = now; step = step })) (λ claims. claims_after step (claiming claims)) more (noted step t)
shown step now known claiming answers more t e s = (
  subst (λ (l : List Answer). ShowsBy answer_of now (after known (record { at = now; step = step })) l (noted step t)) (sym e) (laws.shows-noted answer_of after step now known answers t s.0),
  λ claims. claims-noted step t claims ∙ ap (claims_after step) (s.1 claims),
)

-- steps that change nothing but the answers
abbrev pub Continues : (Transition → Transition) → (old new : List Answer) → Type 0
Continues rule old new = (now : ℕ) (known : Known) (claiming : Claiming) (t : Transition) → Shows now known claiming old t → Shows now known claiming new (rule t)

-- where nothing was answered before, such a rule accepts no registration
pub leads_unchanged : (rule : Transition → Transition) (old new : List Answer) (now : ℕ) (k : Known) → old ≡ [] → Continues rule old new → Leads rule now k new None
leads_unchanged rule old new now k e goes = λ t s. goes now k unclaimed t (subst (λ (l : List Answer). Shows now k unclaimed l t) (sym e) s)

pub sent : (shield : Option Shield) (packet : List ℕ) (answers more : List Answer) → more ≡ answers ++ answer_of (Sends shield packet) → Continues (noted (Sends shield packet)) answers more
unfolding after
sent shield packet answers more e = λ now known claiming t s. shown (Sends shield packet) now known claiming answers more t e s

pub dropped : (number : ℕ) (why : Why) (answers more : List Answer) → more ≡ answers ++ answer_of (Drops number why) → Continues (noted (Drops number why)) answers more
unfolding after
dropped number why answers more e = λ now known claiming t s. shown (Drops number why) now known claiming answers more t e s

pub denied : (number status : ℕ) (answers more : List Answer) → more ≡ answers ++ answer_of (Denies number status) → Continues (noted (Denies number status)) answers more
unfolding after
denied number status answers more e = λ now known claiming t s. shown (Denies number status) now known claiming answers more t e s

-- a call begins that changes neither list nor plan
pub shows_begun : (c : Call) (now : ℕ) (k : Known) → Shows now (after k (record { at = now; step = Called c })) unclaimed [] (noted (Called c) (begun now k))
shows_begun c now k = shown (Called c) now k unclaimed [] [] (begun now k) refl (laws.shows-begun answer_of now k, λ claims. refl)

-- what is shown is what the transition has
pub shows-answers : (now : ℕ) (k : Known) (claiming : Claiming) (answers : List Answer) (t : Transition) → Shows now k claiming answers t → answers_of t.steps ≡ answers
shows-answers now k claiming answers t s = laws.shows-answers answer_of now k answers t s.0

pub shows-known : (now : ℕ) (k : Known) (claiming : Claiming) (answers : List Answer) (t : Transition) → Shows now k claiming answers t → t.known ≡ k
shows-known now k claiming answers t s = laws.shows-known answer_of now k answers t s.0

pub shows-now : (now : ℕ) (k : Known) (claiming : Claiming) (answers : List Answer) (t : Transition) → Shows now k claiming answers t → t.now ≡ now
shows-now now k claiming answers t s = laws.shows-now answer_of now k answers t s.0

-- an update is accepted: the registration, and what becomes of the claim of its home address
module _ (number : ℕ) (home : Address) (b : HomeBinding) (now : ℕ) (k : Known) (old more : List Answer) (t : Transition) where
  abbrev pub registered : Option Bool → Known
  registered holding = record {
    last = k.last;
    homes = with_holding holding home (with_served (bound_to b) home k.homes);
    ends = ends_with home b k.ends;
    agents = k.agents;
    plan = k.plan;
  }

  abbrev pub first : Transition
  first = noted (Registers number home b) t

  shows_first : Shows now k unclaimed old t → Shows now (registered None) unclaimed (old ++ answer_of (Registers number home b)) first
  unfolding after
  shows_first s = shown (Registers number home b) now k unclaimed old (old ++ answer_of (Registers number home b)) t refl s

  then_answer : (step : Step) → more ≡ old ++ (answer_of (Registers number home b) ++ answer_of step) → more ≡ (old ++ answer_of (Registers number home b)) ++ answer_of step
  then_answer step e = e ∙ sym (append_assoc old (answer_of (Registers number home b)) (answer_of step))

  pub registers : (held ends : Bool) → more ≡ old ++ answers_change home b (holding_of held ends) → Shows now k unclaimed old t
      → Shows now (registered (holding_of held ends)) (claims_held (holding_of held ends) home) more (claims_if held ends home first)
  unfolding after
  registers true true e s = shown (Releases home) now (registered None) unclaimed (old ++ answer_of (Registers number home b)) more first (then_answer (Releases home) e) (shows_first s)
  registers true false e s = subst (λ (l : List Answer). Shows now (registered None) unclaimed l first) (sym e) (shows_first s)
  registers false true e s = subst (λ (l : List Answer). Shows now (registered None) unclaimed l first) (sym e) (shows_first s)
  registers false false e s = shown (Claims home) now (registered None) unclaimed (old ++ answer_of (Registers number home b)) more first (then_answer (Claims home) e) (shows_first s)
