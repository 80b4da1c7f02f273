use Rattle.std.proofs.Common.{◌≡◌, ◌++◌, take, drop}
use Rattle.mip_past.specs.Planning.{begun_from}
use Rattle.mip_past.proofs.plans.begun_from.Given as goal

abbrev pub invariant-loop-event : goal.invariant-loop-event
invariant-loop-event l = record {
  count_is : l.count ≡ l.event-index;
  rest : take l.event-index l.events ++ begun_from l.at l.now.0 (drop l.event-index l.events) ≡ begun_from l.fn.at l.now.0 l.events;
}
