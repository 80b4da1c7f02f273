use Rattle.std.proofs.Common.{◌≡◌}
use Rattle.mip_history.specs.Nodes.{answered}
use Rattle.mip_afresh.specs.Tellings.{with_run}
use Rattle.mip_afresh.proofs.telling.Telling.answer.Given as goal

abbrev pub invariant-loop-answer : goal.invariant-loop-answer
invariant-loop-answer l = l.self ≡ with_run (answered l.fn.self.setup l.node.0 l.from.0 l.fn.self.run l.yielded) l.fn.self
