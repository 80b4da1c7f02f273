use Rattle.mip_history.specs.Waiting.{ticked}
use Rattle.mip_engine.specs.Standing.{HasGone}
use Rattle.mip_replay.proofs.waiting.tick_first.Given as goal

abbrev pub invariant-loop-node : goal.invariant-loop-node
invariant-loop-node l = HasGone l.fn.engine l.engine (λ s run. ticked s l.node run)
