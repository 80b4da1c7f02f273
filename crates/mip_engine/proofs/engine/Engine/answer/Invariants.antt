use Rattle.mip_history.specs.Nodes.{answered}
use Rattle.mip_engine.specs.Standing.{HasGone}
use Rattle.mip_engine.proofs.engine.Engine.answer.Given as goal

abbrev pub invariant-loop-answer : goal.invariant-loop-answer
invariant-loop-answer l = HasGone l.fn.self l.self (λ s run. answered s l.at.node.0 l.at.from.0 run l.yielded)
