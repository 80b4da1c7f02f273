use Rattle.mip_history.specs.Advertising.{agents_hear}
use Rattle.mip_engine.specs.Standing.{HasGone}
use Rattle.mip_replay.proofs.advertising.tell_agents.Given as goal

abbrev pub invariant-loop-node : goal.invariant-loop-node
invariant-loop-node l = HasGone l.fn.engine l.engine (λ s run. agents_hear s l.link.0 l.node run)
