use Rattle.mip_history.specs.Delivery.{carried}
use Rattle.mip_engine.specs.Standing.{HasGone}
use Rattle.mip_replay.proofs.delivering.carry.Given as goal

abbrev pub invariant-loop-turn : goal.invariant-loop-turn
invariant-loop-turn l = HasGone l.fn.engine l.engine (λ s run. carried s run l._turn)
