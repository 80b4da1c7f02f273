use Rattle.mip_afresh.specs.Roles.{AreFresh}
use Rattle.mip_afresh.proofs.opening.roles_of.Given as goal

abbrev pub invariant-loop-who : goal.invariant-loop-who
invariant-loop-who l = AreFresh l.setting l.who l.roles.items
