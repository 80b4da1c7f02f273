-- What the ends of registrations make of homes, claims and answers; and what a plan is told with.
use Rattle.std.specs.Prelude.{ℕ, List, [], ◌∷◌, Bool, false}
use Rattle.mip_words.specs.declared.address.Address.{Address}
use Rattle.mip_entries.specs.declared.answer.Answer.{Answer}
use Rattle.mip_entries.specs.declared.answer.Answer.TheVariants.{Send, Note}
use Rattle.mip_entries.specs.declared.entry.Entry.TheVariants as entries
use Rattle.mip_outside.specs.Places.{without_claim}
use Rattle.mip_rules_agent.specs.declared.ending.Ending.{Ending}
use Rattle.mip_rules_agent.specs.declared.home_row.HomeRow.{HomeRow}
use Rattle.mip_rules_agent.specs.declared.served.Served.{Served}
use Rattle.mip_discovery.specs.declared.plan.PrefixPlan.{PrefixPlan}
use Rattle.mip_rules_agent.specs.Known.{Known}
use Rattle.mip_rules_agent.specs.Calls.{Call}
use Rattle.mip_rules_agent.specs.Steps.{here}
use Rattle.mip_rules_agent.specs.Questions.{holding, with_served, later_ends, agents_called}
use Rattle.mip_rules_agent.specs.Messages.{shield_to, prefix_packet}

-- each home address is given up, in this order
abbrev pub homes_released : List Ending → List Served → List Served
homes_released [] homes = homes
homes_released (e ∷ es) homes = homes_released es (with_served (holding false) e.home homes)

abbrev pub claims_released : List Ending → (ℕ → Bool) → ℕ → Bool
claims_released [] claims = claims
claims_released (e ∷ es) claims = claims_released es (without_claim e.home.0 claims)

abbrev pub answers_released : List Ending → List Answer
answers_released [] = []
answers_released (e ∷ es) = Note (entries.Released 0 here e.home) ∷ answers_released es

-- each registered home is told of the prefix
abbrev pub answers_told : (own : Address) (valid preferred : ℕ) → List HomeRow → List Answer
answers_told own valid preferred [] = []
answers_told own valid preferred (r ∷ rows) =
    Send (shield_to own r.home) (prefix_packet own r.home r.careof 0 valid preferred) ∷ answers_told own valid preferred rows

-- what is known after an advertisement, after a plan, and after ends
abbrev pub heard_at : ℕ → Call → Known → Known
heard_at now call k = record { last = now; homes = k.homes; ends = k.ends; agents = agents_called k.agents now call; plan = k.plan }

abbrev pub planned_at : ℕ → PrefixPlan → Known → Known
planned_at now plan k = record { last = now; homes = k.homes; ends = k.ends; agents = k.agents; plan = plan }

abbrev pub given_up : ℕ → List Ending → Known → Known
given_up now due k = record { last = now; homes = homes_released due k.homes; ends = later_ends now k.ends; agents = k.agents; plan = k.plan }
