-- What a past says of a home, of the agent's prefix and of the other agents.
use Rattle.std.specs.Prelude.{ℕ, List, [], ◌∷◌, Bool, true, false, ◌==◌, Option, Some, None}
use Rattle.std.specs.List.{flat_map, list_any}
use Rattle.std.specs.Option.{option_map_or, option_and_then}
use Rattle.mip_words.specs.declared.address.Address.{Address}
use Rattle.mip_words.specs.Asked.{asked}
use Rattle.mip_words.specs.Last.{last_where}
use Rattle.mip_discovery.specs.declared.plan.PrefixPlan.{PrefixPlan}
use Rattle.mip_discovery.specs.Heard.{Heard}
use Rattle.mip_entries.specs.Stamped.{Stamped}
use Rattle.mip_rules_agent.specs.declared.home_binding.HomeBinding.{HomeBinding}
use Rattle.mip_rules_agent.specs.Calls as calls
use Rattle.mip_rules_agent.specs.Calls.{Call}
use Rattle.mip_rules_agent.specs.Steps.{Step, Called, Registers, Claims, Releases}
use Rattle.mip_rules_agent.specs.Questions.{endless}

-- it is one of the homes that are served
abbrev pub is_one_of : List Address → Address → Bool
is_one_of serves home = list_any (λ a. a.0 == home.0) serves

-- a registration or deregistration is accepted for this home
abbrev pub is_registration_of : Address → Step → Bool
is_registration_of home (Registers number h b) = h.0 == home.0
is_registration_of home _ = false

abbrev pub registered_by : Step → Option HomeBinding
registered_by (Registers number home b) = Some b
registered_by _ = None

-- the last one that was accepted for it
abbrev pub last_binding : Address → List (Stamped Step) → Option HomeBinding
last_binding home past = option_and_then (λ s. registered_by s.step) (last_where (λ s. is_registration_of home s.step) past)

-- the address of this home is claimed, or given up
abbrev pub is_claim_of : Address → Step → Bool
is_claim_of home (Claims h) = h.0 == home.0
is_claim_of home (Releases h) = h.0 == home.0
is_claim_of home _ = false

abbrev pub is_claim : Step → Bool
is_claim (Claims home) = true
is_claim _ = false

-- it was claimed and not given up since
abbrev pub is_claimed : Address → List (Stamped Step) → Bool
is_claimed home past = option_map_or (λ s. is_claim s.step) (last_where (λ s. is_claim_of home s.step) past) false

-- the plan that a step gives
abbrev pub planned_by : ℕ → Call → Option PrefixPlan
planned_by at (calls.Plan valid preferred) = Some (record { valid = valid; preferred = preferred; since = record { 0 = at } })
planned_by at _ = None

abbrev pub plan_in : ℕ → Step → Option PrefixPlan
plan_in at (Called call) = planned_by at call
plan_in at _ = None

-- the last plan; without end before the first
abbrev pub last_plan : List (Stamped Step) → PrefixPlan
last_plan past = asked (λ s. plan_in s.at s.step) endless past

-- the advertisements of other agents, oldest first
abbrev pub heard_by : ℕ → Call → List Heard
heard_by at (calls.Hear agent preference life) = record { at = at; agent = agent; preference = preference; life = life } ∷ []
heard_by at _ = []

abbrev pub heard_in : ℕ → Step → List Heard
heard_in at (Called call) = heard_by at call
heard_in at _ = []

abbrev pub all_heard : List (Stamped Step) → List Heard
all_heard past = flat_map (λ s. heard_in s.at s.step) past
