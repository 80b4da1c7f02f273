use Rattle.std.proofs.Common.{◌≤◌, ◌-◌, length, take}
use Rattle.mip_past.specs.Recalling.{lived_by, Recalls}
use Rattle.mip_past.proofs.acceptances.recall.Given as goal

abbrev pub invariant-loop-entry : goal.invariant-loop-entry
invariant-loop-entry l = record {
  within : l.place ≤ length l.past.entries.now;
  recalls : Recalls l.home.0 l.number (lived_by l.past.start.0 l.node.0 (take l.place l.past.entries.now)) l.recall;
}

abbrev pub decreases-loop-entry : goal.decreases-loop-entry
decreases-loop-entry l = length l.past.entries.now - l.place
