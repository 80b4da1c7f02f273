-- The prefix plan that is asked of the events, beside the one that an agent keeps in a run.
use Rattle.std.specs.Prelude.{◌≡◌, ◌⊎◌, ℕ, ◌^◌, ◌<◌, List, take, Some, slice_get}
use Rattle.mip_words.specs.declared.address.Address.{Address}
use Rattle.mip_words.specs.declared.moment.Moment.{Moment}
use Rattle.mip_discovery.specs.declared.plan.PrefixPlan.{PrefixPlan}
use Rattle.mip_discovery.specs.Plan.{left_of}
use Rattle.mip_rules_agent.specs.Known.{Known}
use Rattle.mip_rules_agent.specs.Questions.{endless, valid_at, preferred_at}
use Rattle.mip_schedule.specs.declared.event.Event.{Event}
use Rattle.mip_history.specs.Setup.{Setup}
use Rattle.mip_history.specs.Setup.Kind.{Agent}
use Rattle.mip_history.specs.Knowing.{now_in, agent_known_in}
use Rattle.mip_past.specs.Planning.{endless_since, plan_told}
use Rattle.mip_past.specs.Places.{run_at}

-- the same plan; before the first one lifetimes never fall, and are asked since the start where they are kept since moment 0
abbrev pub IsSamePlan : (start : Moment) → (asked kept : PrefixPlan) → Type 0
IsSamePlan start asked kept = (asked ≡ kept) ⊎ ((asked ≡ endless_since start) × (kept ≡ endless))

-- the plan that is asked is what an agent keeps that knows this, and leaves the same seconds at each moment
pub record IsPlannedAsAsked (start : Moment) (plan : PrefixPlan) (known : Known) : Type 0 where
  pub same : IsSamePlan start plan known.plan
  pub valid : (now : ℕ) → left_of plan.valid plan.since.0 now ≡ valid_at known now
  pub preferred : (now : ℕ) → left_of plan.preferred plan.since.0 now ≡ preferred_at known now

-- so it is of each agent behind the first k events. Moments are below 2 ^ 64, as in every schedule that was read
abbrev pub ArePlansAsAsked : Setup → List Event → (k : ℕ) → Type 0
ArePlansAsAsked s events k = now_in s (run_at s events k) < 2 ^ 64
    → (n : ℕ) (own : Address) (preference life room : ℕ) (serves : List Address) → slice_get s.hosts n ≡ Some (record { address = own; kind = Agent preference life room serves })
    → IsPlannedAsAsked (record { 0 = s.start }) (plan_told (record { 0 = s.start }) n (take k events)).plan (agent_known_in (run_at s events k) n serves)
