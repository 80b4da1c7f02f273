use Rattle.mip_node.proofs.Steps.{acts_first, then_nothing}
use Rattle.mip_node.proofs.laws.turns_take_their_steps.Goals as goal

pub returns-clause-first : goal.returns-clause-first
returns-clause-first c = acts_first

pub returns-clause-quiet : goal.returns-clause-quiet
returns-clause-quiet c = then_nothing
