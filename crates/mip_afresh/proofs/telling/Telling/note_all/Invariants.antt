use Rattle.std.proofs.Common.{◌≡◌}
use Rattle.mip_history.specs.Runs.{notes}
use Rattle.mip_afresh.specs.Tellings.{with_run}
use Rattle.mip_afresh.proofs.telling.Telling.note_all.Given as goal

abbrev pub invariant-loop-entry : goal.invariant-loop-entry
invariant-loop-entry l = l.self ≡ with_run (notes l.yielded l.fn.self.run) l.fn.self
