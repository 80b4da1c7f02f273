use Rattle.mip_history.specs.Advertising.{hears_of_first}
use Rattle.mip_engine.specs.Standing.{HasGone}
use Rattle.mip_replay.proofs.advertising.hear_first.Given as goal

abbrev pub invariant-loop-other : goal.invariant-loop-other
invariant-loop-other l = HasGone l.fn.engine l.engine (λ s run. hears_of_first s l.link.0 l.node.0 l.other run)
