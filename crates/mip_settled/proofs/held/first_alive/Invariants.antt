use Rattle.std.proofs.Common.{◌≡◌, ◌≤◌, ◌-◌, length, drop}
use Rattle.std.specs.Prelude.{fold}
use Rattle.mip_settled.specs.Acceptances.{remembered_step, remembered, recalled}
use Rattle.mip_settled.proofs.held.first_alive.Given as goal

abbrev pub invariant-loop-entry : goal.invariant-loop-entry
invariant-loop-entry l = record {
  within : l.place ≤ length l.history;
  from : l.recall.from ≤ l.place;
  rest : fold (remembered_step l.node.0 l.home.0) (recalled l.history l.place l.recall) (drop l.place l.history) ≡ remembered l.fn.start.0 l.node.0 l.home.0 l.history;
}

abbrev pub decreases-loop-entry : goal.decreases-loop-entry
decreases-loop-entry l = length l.history - l.place
