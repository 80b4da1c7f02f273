-- A packet that leads to no registration changes nothing that the agent knows but the moment.
use Rattle.std.proofs.Common.{◌≡◌, ℕ, List, [], ◌∷◌, Bool, true, false, inl, inr, refl, sym, ap, ◌∙◌}
use Rattle.std.specs.Prelude.{Option, ◌||◌}
use Rattle.std.specs.List.{list_any}
use Rattle.std.proofs.lemmas.List.Folds.{list_any-append}
use Rattle.mip_words.specs.declared.shield.Shield.{Shield}
use Rattle.mip_outside.specs.declared.claim.Claim.{Claim}
use Rattle.mip_discovery.specs.declared.plan.PrefixPlan.{PrefixPlan}
use Rattle.mip_discovery.specs.Listed.{AgentsSeen}
use Rattle.mip_entries.proofs.TransitionLaws.{noted-known}
use Rattle.mip_rules_agent.specs.declared.identity.Identity.{Identity}
use Rattle.mip_rules_agent.specs.Known.{Known}
use Rattle.mip_rules_agent.specs.Calls as calls
use Rattle.mip_rules_agent.specs.Calls.{Call}
use Rattle.mip_rules_agent.specs.Steps.{Step, Called, Sends, Registers, Claims, Releases, Denies, Drops, Rang, answer_of, answers_of, is_call}
use Rattle.mip_rules_agent.specs.StepsLaws.{is_registration}
use Rattle.mip_rules_agent.specs.Questions.{agents_called, agents_after, plan_called, plan_after, after}
use Rattle.mip_rules_agent.specs.Transitions.{Transition, begun, noted}
use Rattle.mip_rules_agent.specs.Doing.{does, transition_of}
use Rattle.mip_reception.specs.Refusing.{refuses}
use Rattle.mip_rules_agent.specs.Claims.{claims_by}
use Rattle.mip_rules_agent.specs.Refusing.{KeepsTables}
use Rattle.mip_rules_agent.specs.Refusing.{is_refusal, is_claim}
use Rattle.mip_rules_agent.specs.TakenLaws.{IsUpdateTaken}
use Rattle.mip_rules_agent.proofs.Taken.{taken_is}
use Rattle.mip_rules_agent.proofs.Walks.{every-handles}

agents-noted : (step : Step) (t : Transition) → (noted step t).known.agents ≡ agents_after t.known.agents t.now step
unfolding after
agents-noted step t = ap (λ (k : Known). k.agents) (noted-known after step t)

plan-noted : (step : Step) (t : Transition) → (noted step t).known.plan ≡ plan_after t.known.plan t.now step
unfolding after
plan-noted step t = ap (λ (k : Known). k.plan) (noted-known after step t)

agents-quiet : (step : Step) (agents : AgentsSeen) (at : ℕ) → is_call step ≡ false → agents_after agents at step ≡ agents
agents-quiet (Called call) agents at silent = absurd cc
agents-quiet _ agents at silent = refl

plan-quiet : (step : Step) (plan : PrefixPlan) (at : ℕ) → is_call step ≡ false → plan_after plan at step ≡ plan
plan-quiet (Called call) plan at silent = absurd cc
plan-quiet _ plan at silent = refl

-- the other agents and the plan are those that the call leaves
pub call-agents : (me : Identity) (k : Known) (now : ℕ) (c : Call) → (transition_of me k now c).known.agents ≡ agents_called k.agents now c
unfolding does
call-agents me k now c =
    every-handles me (λ (t : Transition). t.known.agents ≡ agents_called k.agents now c) c
    (λ step t silent own is. agents-noted step t ∙ agents-quiet step t.known.agents t.now silent ∙ is)
    (noted (Called c) (begun now k)) (agents-noted (Called c) (begun now k))

pub call-plan : (me : Identity) (k : Known) (now : ℕ) (c : Call) → (transition_of me k now c).known.plan ≡ plan_called k.plan now c
unfolding does
call-plan me k now c =
    every-handles me (λ (t : Transition). t.known.plan ≡ plan_called k.plan now c) c
    (λ step t silent own is. plan-noted step t ∙ plan-quiet step t.known.plan t.now silent ∙ is)
    (noted (Called c) (begun now k)) (plan-noted (Called c) (begun now k))

-- a refusal is told, and nothing else tells of one
step-refuses : (step : Step) → list_any refuses (answer_of step) ≡ is_refusal step
step-refuses (Called call) = refl
step-refuses _ = refl

pub steps-refuse : (steps : List Step) → list_any refuses (answers_of steps) ≡ list_any is_refusal steps
steps-refuse [] = refl
steps-refuse (step ∷ steps) =
    list_any-append refuses (answer_of step) (answers_of steps)
    ∙ ap (λ (c : Bool). c || list_any refuses (answers_of steps)) (step-refuses step)
    ∙ ap (λ (c : Bool). is_refusal step || c) (steps-refuse steps)

-- steps that claim and give up nothing leave the claims as they were
pub claims-left : (steps : List Step) (claims : ℕ → Bool) → list_any is_claim steps ≡ false → claims_by steps claims ≡ claims
claims-left [] claims none = refl
claims-left (Called call ∷ steps) claims none = claims-left steps claims none
claims-left (Sends shield packet ∷ steps) claims none = claims-left steps claims none
claims-left (Registers number home b ∷ steps) claims none = claims-left steps claims none
claims-left (Claims home ∷ steps) claims none = absurd cc
claims-left (Releases home ∷ steps) claims none = absurd cc
claims-left (Denies number status ∷ steps) claims none = claims-left steps claims none
claims-left (Drops number why ∷ steps) claims none = claims-left steps claims none
claims-left (Rang ∷ steps) claims none = claims-left steps claims none

module _ (me : Identity) (k : Known) (now number : ℕ) (shield : Option Shield) (bytes : List ℕ) (claim : Claim) where
  abbrev transition : Transition
  transition = transition_of me k now (calls.Take number shield bytes claim)

  some-taken : IsUpdateTaken me k now number shield bytes claim transition.steps → list_any is_registration transition.steps ≡ true
  some-taken is = ap (list_any is_registration) is.steps_are

  pub quiet-homes : list_any is_registration transition.steps ≡ false → (transition.known.homes ≡ k.homes) × (transition.known.ends ≡ k.ends)
  quiet-homes none =
      elim (taken_is me k now number shield bytes claim) as (λ _. (transition.known.homes ≡ k.homes) × (transition.known.ends ≡ k.ends)) [
        | inl quiet ↦ (quiet.1, quiet.2)
        | inr is ↦ absurd (let both : true ≡ false = sym (some-taken is) ∙ none in cc)
      ]

  pub some-update : list_any is_registration transition.steps ≡ true → IsUpdateTaken me k now number shield bytes claim transition.steps
  some-update some =
      elim (taken_is me k now number shield bytes claim) as (λ _. IsUpdateTaken me k now number shield bytes claim transition.steps) [
        | inl quiet ↦ absurd (let both : true ≡ false = sym some ∙ quiet.0 in cc)
        | inr is ↦ is
      ]

  pub quiet-claims : list_any is_registration transition.steps ≡ false → list_any is_claim transition.steps ≡ false
  quiet-claims none =
      elim (taken_is me k now number shield bytes claim) as (λ _. list_any is_claim transition.steps ≡ false) [
        | inl quiet ↦ quiet.3
        | inr is ↦ absurd (let both : true ≡ false = sym (some-taken is) ∙ none in cc)
      ]

  -- where something is registered nothing is refused
  taken-kept : IsUpdateTaken me k now number shield bytes claim transition.steps → list_any is_refusal transition.steps ≡ false
  taken-kept is = ap (list_any is_refusal) is.steps_are ∙ is.kept

  refused-none : list_any is_refusal transition.steps ≡ true → list_any is_registration transition.steps ≡ false
  refused-none some =
      elim (taken_is me k now number shield bytes claim) as (λ _. list_any is_registration transition.steps ≡ false) [
        | inl quiet ↦ quiet.0
        | inr is ↦ absurd (let both : true ≡ false = sym some ∙ taken-kept is in cc)
      ]

  pub refused-keeps : list_any is_refusal transition.steps ≡ true → (transition.known.homes ≡ k.homes) × (transition.known.ends ≡ k.ends) × (list_any is_claim transition.steps ≡ false)
  refused-keeps some =
      let none = refused-none some in
      let homes = quiet-homes none in
      (homes.0, homes.1, quiet-claims none)

  -- so a call whose answers tell of a refusal leaves all tables and all claims as they were
  pub refused-call : list_any refuses (answers_of transition.steps) ≡ true → KeepsTables k transition.known × ((claims : ℕ → Bool) → claims_by transition.steps claims ≡ claims)
  refused-call some =
      let keeps = refused-keeps (sym (steps-refuse transition.steps) ∙ some) in (
        record {
          homes = keeps.0;
          ends = keeps.1;
          plan = call-plan me k now (calls.Take number shield bytes claim);
          agents = call-agents me k now (calls.Take number shield bytes claim);
        },
        λ claims. claims-left transition.steps claims keeps.2,
      )
