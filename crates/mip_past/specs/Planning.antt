-- The prefix plan that an agent keeps. A plan leaves no entry, so it is asked of the events of the schedule that have begun. RFC 6275
-- section 10.6
use Rattle.std.specs.Prelude.{ℕ, ◌+◌, min, List, [], ◌∷◌, fold, ◌==◌, nat_le, if◌then◌else◌}
use Rattle.mip_words.specs.declared.moment.Moment.{Moment}
use Rattle.mip_discovery.specs.declared.plan.PrefixPlan.{PrefixPlan}
use Rattle.mip_schedule.specs.EventTimes.{wait_of}
use Rattle.mip_schedule.specs.declared.event.Event.{Event}
use Rattle.mip_schedule.specs.declared.event.Event.TheVariants as events
use Rattle.mip_past.specs.declared.planned.Planned.{Planned}
use Rattle.mip_past.specs.declared.past.Past.{Past}
use Rattle.mip_past.specs.Asking.{moment_at}

-- lifetimes that never fall
abbrev pub endless_since : Moment → PrefixPlan
endless_since since = record { valid = 4294967295; preferred = 4294967295; since = since }

-- agent g has the lifetimes of its last plan since it last restarted, from the moment of that plan on
abbrev pub plan_behind : (start : Moment) → (g : ℕ) → Planned → Event → PrefixPlan
plan_behind start g p (events.Plan node valid preferred) = if g == node.0 then record { valid = valid; preferred = preferred; since = p.at } else p.plan
plan_behind start g p (events.Restart node) = if g == node.0 then endless_since start else p.plan
plan_behind start g p _ = p.plan

-- the moment as so many milliseconds pass; there is none behind 2 ^ 64 - 1
abbrev pub moment_behind : Moment → (ms : ℕ) → Moment
moment_behind at ms = record { 0 = min (at.0 + ms) 18446744073709551615 }

abbrev pub planned : (start : Moment) → (g : ℕ) → Planned → Event → Planned
planned start g p e = record { at = moment_behind p.at (wait_of e); plan = plan_behind start g p e }

-- before the first event
abbrev pub unplanned : (start : Moment) → Planned
unplanned start = record { at = start; plan = endless_since start }

-- the moment and the plan behind these events
abbrev pub plan_told : (start : Moment) → (g : ℕ) → List Event → Planned
plan_told start g begun = fold (planned start g) (unplanned start) begun

-- the events up to the end of a moment: those before the wait that passes it
abbrev pub begun_from : (at : Moment) → (now : ℕ) → List Event → List Event
begun_from at now [] = []
begun_from at now (e ∷ es) =
    if nat_le (moment_behind at (wait_of e)).0 now then e ∷ begun_from (moment_behind at (wait_of e)) now es else []

abbrev pub begun_at : Past → List Event → List Event
begun_at p events = begun_from p.start (moment_at p) events
