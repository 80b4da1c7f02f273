use Rattle.std.proofs.Common.{take}
use Rattle.mip_rules_agent.specs.Transitions.{Transition}
use Rattle.mip_rules_agent.specs.Doing.{releases_all}
use Rattle.mip_afresh_agent.specs.Turns.{Shows}
use Rattle.mip_afresh_agent.proofs.calls.release_all.Given as goal

abbrev pub invariant-loop-end : goal.invariant-loop-end
invariant-loop-end l = (t : Transition) → Shows l.initial.turn t → Shows l.turn (releases_all (take l.end-index l.ends) t)
