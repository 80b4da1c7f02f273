use Rattle.std.proofs.Common.{◌≡◌, drop}
use Rattle.std.specs.Prelude.{fold}
use Rattle.mip_past.specs.Planning.{planned, plan_told}
use Rattle.mip_past.proofs.plans.plan_told.Given as goal

abbrev pub invariant-loop-event : goal.invariant-loop-event
invariant-loop-event l = fold (planned l.start l.agent.0) l.told (drop l.event-index l.begun) ≡ plan_told l.start l.agent.0 l.begun
