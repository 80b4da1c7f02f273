use Rattle.std.proofs.Common.{◌≡◌, [], drop}
use Rattle.std.specs.Prelude.{fold}
use Rattle.mip_history.specs.Bound.{lived}
use Rattle.mip_afresh_bindings.specs.Accepted.{lived_seen}
use Rattle.mip_afresh_bindings.proofs.lived.accepted_by.Given as goal

abbrev pub invariant-loop-entry : goal.invariant-loop-entry
invariant-loop-entry l =
    fold (lived l.node.0) (lived_seen l.lived) (drop l.entry-index l.past) ≡ fold (lived l.node.0) (record { at = l.fn.start.0; accepted = [] }) l.past
