-- What a transition shows as it goes on: its answers so far, what is known, and what became of claims.
use Rattle.std.specs.Prelude.{◌≡◌, ℕ, List, [], Option, Bool, Result, OnOk}
use Rattle.mip_entries.specs.declared.answer.Answer.{Answer}
use Rattle.mip_entries.specs.Shows.{ShowsBy}
use Rattle.mip_rules_agent.specs.Known.{Known}
use Rattle.mip_rules_agent.specs.Claims.{claims_by}
use Rattle.mip_rules_agent.specs.Steps.{answer_of}
use Rattle.mip_rules_agent.specs.Transitions.{Transition}
use Rattle.mip_homeagent.specs.declared.change.Change.{Change}
use Rattle.mip_homeagent.specs.Changes.{Claiming, unclaimed, with_change, claims_with}

abbrev pub Shows : (now : ℕ) (known : Known) → Claiming → (answers : List Answer) → Transition → Type 0
Shows now known claiming answers t = ShowsBy answer_of now known answers t × ((claims : ℕ → Bool) → claims_by t.steps claims ≡ claiming claims)

-- a rule that changes nothing but the answers
abbrev pub Goes : {R E : Type 0} → Result R E → (Transition → Transition) → (old new : List Answer) → Type 0
Goes result rule old new =
    (now : ℕ) (known : Known) (claiming : Claiming) (t : Transition) → Shows now known claiming old t → OnOk result (Shows now known claiming new (rule t))

-- a rule that may accept a registration, where nothing was answered before
abbrev pub Leads : (Transition → Transition) → (now : ℕ) → Known → List Answer → Option Change → Type 0
Leads rule now known answers change =
    (t : Transition) → Shows now known unclaimed [] t → Shows now (with_change change known) (claims_with change) answers (rule t)

-- what is known once a call has begun that changes neither list nor plan
abbrev pub opened : ℕ → Known → Known
opened now k = record { last = now; homes = k.homes; ends = k.ends; agents = k.agents; plan = k.plan }
