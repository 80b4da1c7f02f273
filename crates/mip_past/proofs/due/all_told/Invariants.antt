use Rattle.std.proofs.Common.{◌≡◌, [], drop}
use Rattle.std.specs.Prelude.{fold}
use Rattle.mip_past.specs.Due.{ends_told}
use Rattle.mip_past.proofs.due.all_told.Given as goal

abbrev pub invariant-loop-entry : goal.invariant-loop-entry
invariant-loop-entry l = fold (ends_told l.agent.0) l.ends.items (drop l.entry-index l.entries) ≡ fold (ends_told l.agent.0) [] l.entries
