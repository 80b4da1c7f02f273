-- How what is known goes along a past.
use Rattle.std.proofs.Common.{◌≡◌, ℕ, List, [], ◌∷◌, ◌++◌, refl, sym, ap, ◌∙◌, subst}
use Rattle.std.specs.Prelude.{Bool, true, false, ◌==◌, ◌||◌, Option, Some, None, is_some, unwrap_or, option_map, fold, if◌then◌else◌}
use Rattle.std.specs.Option.{option_map_or, option_and_then}
use Rattle.std.proofs.lemmas.List.{append_assoc, append-nil}
use Rattle.mip_words.specs.Asked.{asked}
use Rattle.mip_words.specs.Last.{or_else, last_where}
use Rattle.mip_words.specs.declared.address.Address.{Address}
use Rattle.mip_binding.specs.Rows.{find_by, put_by}
use Rattle.mip_binding.proofs.RowLaws.{find-put}
use Rattle.mip_discovery.specs.declared.plan.PrefixPlan.{PrefixPlan}
use Rattle.mip_discovery.specs.Heard.{Heard}
use Rattle.mip_discovery.specs.Listed.{AgentsSeen, StandsFor, listed}
use Rattle.mip_discovery.proofs.ViewLaws.{stands_on}
use Rattle.mip_entries.specs.Stamped.{Stamped}
use Rattle.mip_entries.specs.Transitions.{StandsBy}
use Rattle.mip_rules_agent.specs.declared.home_binding.HomeBinding.{HomeBinding}
use Rattle.mip_rules_agent.specs.declared.served.Served.{Served}
use Rattle.mip_rules_agent.specs.Known.{Known}
use Rattle.mip_rules_agent.specs.Calls as calls
use Rattle.mip_rules_agent.specs.Steps.{Step, Called, Registers, Claims, Releases, is_call}
use Rattle.mip_rules_agent.specs.Questions.{last_after, key_of, bound_to, holding, homes_after, agents_after, plan_after, after, new_home, fresh, known, served_at, is_served, binding_of, holds}
use Rattle.mip_rules_agent.specs.Transitions.{Stands}
use Rattle.mip_rules_agent.specs.Pasts.{is_one_of, is_registration_of, registered_by, last_binding, is_claim_of, is_claim, is_claimed, plan_in, last_plan, heard_in, all_heard}
use Rattle.mip_rules_agent.specs.Ends.{AreInOrder}
use Rattle.mip_rules_agent.proofs.Homes.{found_if, find-changed}
use Rattle.mip_rules_agent.proofs.EndLaws.{ends_order}

-- whoever stands for a past knows what it leaves known
pub stands-known : (serves : List Address) (past : List (Stamped Step)) (k : Known) → Stands serves past k → k ≡ known serves past
unfolding known StandsBy
stands-known serves past k stands = stands

abbrev moment_of : Option (Stamped Step) → ℕ → ℕ
moment_of o d = unwrap_or (option_map (λ s. s.at) o) d

last_from : (k : Known) (past : List (Stamped Step)) → (fold after k past).last ≡ moment_of (last_where (λ s. is_call s.step) past) k.last
unfolding after
last_from k [] = refl
last_from k (s ∷ past) =
    last_from (after k s) past ∙ by (last_where (λ (s : Stamped Step). is_call s.step) past) s.at s.step
  where
    by : (o : Option (Stamped Step)) (at : ℕ) (step : Step) → moment_of o (last_after k.last at step) ≡ moment_of (or_else o (if is_call step then Some (record { at = at; step = step }) else None)) k.last
    by (Some x) at step = refl
    by None at (Called call) = refl
    by None at _ = refl

-- the last moment known is that of the last call
pub known-last : (serves : List Address) (past : List (Stamped Step)) → (known serves past).last ≡ moment_of (last_where (λ s. is_call s.step) past) 0
unfolding known
known-last serves past = last_from (fresh serves) past

-- what a step makes of a home
module _ (home : Address) where
  -- what a step makes of what is kept of the home
  abbrev pub row_after : Step → Option Served → Option Served
  row_after (Registers number h b) o = found_if (bound_to b) (h.0 == home.0) o
  row_after (Claims h) o = found_if (holding true) (h.0 == home.0) o
  row_after (Releases h) o = found_if (holding false) (h.0 == home.0) o
  row_after _ o = o

  served-step : (homes : List Served) (step : Step) → find_by key_of home.0 (homes_after homes step) ≡ row_after step (find_by key_of home.0 homes)
  served-step homes (Registers number h b) = find-changed (bound_to b) (λ s. refl) h home.0 homes
  served-step homes (Claims h) = find-changed (holding true) (λ s. refl) h home.0 homes
  served-step homes (Releases h) = find-changed (holding false) (λ s. refl) h home.0 homes
  served-step homes _ = refl

  pub served-after : (k : Known) (at : ℕ) (step : Step) → served_at (after k (record { at = at; step = step })) home ≡ row_after step (served_at k home)
  unfolding after
  served-after k at step = served-step k.homes step

  found-there : (change : Served → Served) (same : Bool) (o : Option Served) → is_some (found_if change same o) ≡ is_some o
  found-there change true None = refl
  found-there change _ _ = refl

  there-after : (step : Step) (o : Option Served) → is_some (row_after step o) ≡ is_some o
  there-after (Registers number h b) o = found-there (bound_to b) (h.0 == home.0) o
  there-after (Claims h) o = found-there (holding true) (h.0 == home.0) o
  there-after (Releases h) o = found-there (holding false) (h.0 == home.0) o
  there-after _ o = refl

  -- no step changes which homes are served
  pub served-same : (k : Known) (at : ℕ) (step : Step) → is_served (after k (record { at = at; step = step })) home ≡ is_served k home
  served-same k at step = ap (λ (o : Option Served). is_some o) (served-after k at step) ∙ there-after step (served_at k home)

  pub served-from : (k : Known) (past : List (Stamped Step)) → is_served (fold after k past) home ≡ is_served k home
  served-from k [] = refl
  served-from k (s ∷ past) = served-from (after k s) past ∙ served-same k s.at s.step

  served-put : (serves : List Address) (homes : List Served)
      → is_some (find_by key_of home.0 (fold (λ homes home. put_by key_of (new_home home) homes) homes serves)) ≡ (is_some (find_by key_of home.0 homes) || is_one_of serves home)
  served-put [] homes = by (is_some (find_by key_of home.0 homes))
    where
      by : (b : Bool) → b ≡ (b || false)
      by true = refl
      by false = refl
  served-put (h ∷ serves) homes =
      served-put serves (put_by key_of (new_home h) homes)
      ∙ ap (λ (o : Option Served). is_some o || is_one_of serves home) (find-put key_of home.0 (new_home h) homes)
      ∙ by (h.0 == home.0) (find_by key_of home.0 homes) (is_one_of serves home)
    where
      by : (same : Bool) (o : Option Served) (more : Bool) → (is_some (if same then Some (new_home h) else o) || more) ≡ (is_some o || (same || more))
      by true None more = refl
      by _ _ more = refl

  -- a home is served from the beginning, or never
  pub known-served : (serves : List Address) (past : List (Stamped Step)) → is_served (known serves past) home ≡ is_one_of serves home
  unfolding known
  known-served serves past = served-from (fresh serves) past ∙ served-put serves []

  -- the last registration of a home
  abbrev pub binding_in : Option Served → Option HomeBinding
  binding_in o = option_and_then (λ s. s.binding) o

  abbrev pub or_binding : Option (Stamped Step) → Option HomeBinding → Option HomeBinding
  or_binding None b = b
  or_binding (Some s) b = registered_by s.step

  abbrev mark : (Step → Bool) → ℕ → Step → Option (Stamped Step)
  mark p at step = if p step then Some (record { at = at; step = step }) else None

  -- of a home that is served
  binding-row : (at : ℕ) (step : Step) (s : Served) → binding_in (row_after step (Some s)) ≡ or_binding (mark (is_registration_of home) at step) s.binding
  binding-row at (Registers number h b) s = by (h.0 == home.0)
    where
      by : (same : Bool) → binding_in (found_if (bound_to b) same (Some s)) ≡ or_binding (if same then Some (record { at = at; step = Registers number h b }) else None) s.binding
      by true = refl
      by false = refl
  binding-row at (Claims h) s = by (h.0 == home.0)
    where
      by : (same : Bool) → binding_in (found_if (holding true) same (Some s)) ≡ s.binding
      by true = refl
      by false = refl
  binding-row at (Releases h) s = by (h.0 == home.0)
    where
      by : (same : Bool) → binding_in (found_if (holding false) same (Some s)) ≡ s.binding
      by true = refl
      by false = refl
  binding-row at _ s = refl

  binding-some : (at : ℕ) (step : Step) (o : Option Served) → is_some o ≡ true → binding_in (row_after step o) ≡ or_binding (mark (is_registration_of home) at step) (binding_in o)
  binding-some at step None served = absurd cc
  binding-some at step (Some s) served = binding-row at step s

  pub binding-after : (k : Known) (at : ℕ) (step : Step) → is_served k home ≡ true
      → binding_of (after k (record { at = at; step = step })) home ≡ or_binding (mark (is_registration_of home) at step) (binding_of k home)
  binding-after k at step served = ap binding_in (served-after k at step) ∙ binding-some at step (served_at k home) served

  or_more : (o m : Option (Stamped Step)) (b : Option HomeBinding) → or_binding o (or_binding m b) ≡ or_binding (or_else o m) b
  or_more None m b = refl
  or_more (Some s) m b = refl

  binding-from : (k : Known) (past : List (Stamped Step)) → is_served k home ≡ true
      → binding_of (fold after k past) home ≡ or_binding (last_where (λ s. is_registration_of home s.step) past) (binding_of k home)
  binding-from k [] served = refl
  binding-from k (s ∷ past) served =
      binding-from (after k s) past (served-same k s.at s.step ∙ served)
      ∙ ap (or_binding (last_where (λ (s : Stamped Step). is_registration_of home s.step) past)) (binding-after k s.at s.step served)
      ∙ or_more (last_where (λ (s : Stamped Step). is_registration_of home s.step) past) (mark (is_registration_of home) s.at s.step) (binding_of k home)

  new-binding : (serves : List Address) (homes : List Served) → binding_in (find_by key_of home.0 homes) ≡ None
      → binding_in (find_by key_of home.0 (fold (λ homes home. put_by key_of (new_home home) homes) homes serves)) ≡ None
  new-binding [] homes none = none
  new-binding (h ∷ serves) homes none =
      new-binding serves (put_by key_of (new_home h) homes) (ap binding_in (find-put key_of home.0 (new_home h) homes) ∙ by (h.0 == home.0))
    where
      by : (same : Bool) → binding_in (if same then Some (new_home h) else find_by key_of home.0 homes) ≡ None
      by true = refl
      by false = none

  or_none : (o : Option (Stamped Step)) → or_binding o None ≡ option_and_then (λ s. registered_by s.step) o
  or_none None = refl
  or_none (Some s) = refl

  -- what is kept of a home that is served is the last registration or deregistration that was accepted for it
  pub known-binding : (serves : List Address) (past : List (Stamped Step)) → is_one_of serves home ≡ true → binding_of (known serves past) home ≡ last_binding home past
  unfolding known
  known-binding serves past served =
      binding-from (fresh serves) past (served-put serves [] ∙ served)
      ∙ ap (or_binding (last_where (λ (s : Stamped Step). is_registration_of home s.step) past)) (new-binding serves [] refl)
      ∙ or_none (last_where (λ (s : Stamped Step). is_registration_of home s.step) past)

  not-there : (o : Option Served) → is_some o ≡ false → binding_in o ≡ None
  not-there None none = refl
  not-there (Some s) none = absurd cc

  pub known-unserved : (serves : List Address) (past : List (Stamped Step)) → is_one_of serves home ≡ false → binding_of (known serves past) home ≡ None
  known-unserved serves past other = not-there (served_at (known serves past) home) (known-served serves past ∙ other)

  -- whether the address of a home is claimed
  abbrev held_in : Option Served → Bool
  held_in o = option_map_or (λ s. s.held) o false

  abbrev or_held : Option (Stamped Step) → Bool → Bool
  or_held None b = b
  or_held (Some s) b = is_claim s.step

  held-row : (at : ℕ) (step : Step) (s : Served) → held_in (row_after step (Some s)) ≡ or_held (mark (is_claim_of home) at step) s.held
  held-row at (Registers number h b) s = by (h.0 == home.0)
    where
      by : (same : Bool) → held_in (found_if (bound_to b) same (Some s)) ≡ s.held
      by true = refl
      by false = refl
  held-row at (Claims h) s = by (h.0 == home.0)
    where
      by : (same : Bool) → held_in (found_if (holding true) same (Some s)) ≡ or_held (if same then Some (record { at = at; step = Claims h }) else None) s.held
      by true = refl
      by false = refl
  held-row at (Releases h) s = by (h.0 == home.0)
    where
      by : (same : Bool) → held_in (found_if (holding false) same (Some s)) ≡ or_held (if same then Some (record { at = at; step = Releases h }) else None) s.held
      by true = refl
      by false = refl
  held-row at _ s = refl

  held-some : (at : ℕ) (step : Step) (o : Option Served) → is_some o ≡ true → held_in (row_after step o) ≡ or_held (mark (is_claim_of home) at step) (held_in o)
  held-some at step None served = absurd cc
  held-some at step (Some s) served = held-row at step s

  held-more : (o m : Option (Stamped Step)) (b : Bool) → or_held o (or_held m b) ≡ or_held (or_else o m) b
  held-more None m b = refl
  held-more (Some s) m b = refl

  held-from : (k : Known) (past : List (Stamped Step)) → is_served k home ≡ true
      → holds (fold after k past) home ≡ or_held (last_where (λ s. is_claim_of home s.step) past) (holds k home)
  held-from k [] served = refl
  held-from k (s ∷ past) served =
      held-from (after k s) past (served-same k s.at s.step ∙ served)
      ∙ ap (or_held (last_where (λ (s : Stamped Step). is_claim_of home s.step) past)) (ap held_in (served-after k s.at s.step) ∙ held-some s.at s.step (served_at k home) served)
      ∙ held-more (last_where (λ (s : Stamped Step). is_claim_of home s.step) past) (mark (is_claim_of home) s.at s.step) (holds k home)

  new-held : (serves : List Address) (homes : List Served) → held_in (find_by key_of home.0 homes) ≡ false
      → held_in (find_by key_of home.0 (fold (λ homes home. put_by key_of (new_home home) homes) homes serves)) ≡ false
  new-held [] homes none = none
  new-held (h ∷ serves) homes none =
      new-held serves (put_by key_of (new_home h) homes) (ap held_in (find-put key_of home.0 (new_home h) homes) ∙ by (h.0 == home.0))
    where
      by : (same : Bool) → held_in (if same then Some (new_home h) else find_by key_of home.0 homes) ≡ false
      by true = refl
      by false = none

  held-none : (o : Option (Stamped Step)) → or_held o false ≡ option_map_or (λ s. is_claim s.step) o false
  held-none None = refl
  held-none (Some s) = refl

  -- the agent has the address of a home that is served exactly where it claimed it and did not give it up since
  pub known-held : (serves : List Address) (past : List (Stamped Step)) → is_one_of serves home ≡ true → holds (known serves past) home ≡ is_claimed home past
  unfolding known
  known-held serves past served =
      held-from (fresh serves) past (served-put serves [] ∙ served)
      ∙ ap (or_held (last_where (λ (s : Stamped Step). is_claim_of home s.step) past)) (new-held serves [] refl)
      ∙ held-none (last_where (λ (s : Stamped Step). is_claim_of home s.step) past)

-- the plan
plan-step : (plan : PrefixPlan) (at : ℕ) (step : Step) → plan_after plan at step ≡ unwrap_or (plan_in at step) plan
plan-step plan at (Called (calls.Take number shield packet claim)) = refl
plan-step plan at _ = refl

plan-from : (k : Known) (past : List (Stamped Step)) → (fold after k past).plan ≡ asked (λ s. plan_in s.at s.step) k.plan past
unfolding after
plan-from k [] = refl
plan-from k (s ∷ past) = plan-from (after k s) past ∙ ap (λ (p : PrefixPlan). asked (λ (s : Stamped Step). plan_in s.at s.step) p past) (plan-step k.plan s.at s.step)

pub known-plan : (serves : List Address) (past : List (Stamped Step)) → (known serves past).plan ≡ last_plan past
unfolding known
known-plan serves past = plan-from (fresh serves) past

-- the other agents
nothing : (agents : AgentsSeen) (heard : List Heard) → StandsFor agents heard → StandsFor agents (heard ++ [])
nothing agents heard stands = subst (StandsFor agents) (sym (append-nil heard)) stands

agents-step : (agents : AgentsSeen) (heard : List Heard) (at : ℕ) (step : Step) → StandsFor agents heard → StandsFor (agents_after agents at step) (heard ++ heard_in at step)
agents-step agents heard at (Called (calls.Hear agent preference life)) stands = stands_on agents heard _ stands
agents-step agents heard at _ stands = nothing agents heard stands

agents-from : (k : Known) (heard : List Heard) (past : List (Stamped Step)) → StandsFor k.agents heard → StandsFor (fold after k past).agents (heard ++ all_heard past)
unfolding after
agents-from k heard [] stands = nothing k.agents heard stands
agents-from k heard (s ∷ past) stands =
    subst (StandsFor (fold after (after k s) past).agents) (append_assoc heard (heard_in s.at s.step) (all_heard past))
    (agents-from (after k s) (heard ++ heard_in s.at s.step) past (agents-step k.agents heard s.at s.step stands))

none-heard : (serves : List Address) → StandsFor (fresh serves).agents []
unfolding StandsFor listed
none-heard serves = refl

pub known-agents : (serves : List Address) (past : List (Stamped Step)) → StandsFor (known serves past).agents (all_heard past)
unfolding known
known-agents serves past = agents-from (fresh serves) [] past (none-heard serves)

-- the ends never fall
ends-from : (k : Known) (past : List (Stamped Step)) → AreInOrder k.ends → AreInOrder (fold after k past).ends
unfolding after
ends-from k [] order = order
ends-from k (s ∷ past) order = ends-from (after k s) past (ends_order k.ends s.at s.step order)

pub known-ends : (serves : List Address) (past : List (Stamped Step)) → AreInOrder (known serves past).ends
unfolding known
known-ends serves past = ends-from (fresh serves) past tt
