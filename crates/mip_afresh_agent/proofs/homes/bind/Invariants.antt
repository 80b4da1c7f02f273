use Rattle.std.proofs.Common.{◌≡◌, take}
use Rattle.mip_rules_agent.specs.Questions.{bound_to, with_served}
use Rattle.mip_afresh_agent.proofs.homes.bind.Given as goal

abbrev pub invariant-loop-served : goal.invariant-loop-served
invariant-loop-served l = l.list.items ≡ with_served (bound_to l.binding) l.home (take l.served-index l.homes)
