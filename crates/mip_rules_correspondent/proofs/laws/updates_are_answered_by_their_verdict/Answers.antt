use Rattle.mip_rules_correspondent.proofs.Answered.{take-answered, part-answered, call-answers}
use Rattle.mip_rules_correspondent.proofs.laws.updates_are_answered_by_their_verdict.Goals as goal

pub returns-clause-taken : goal.returns-clause-taken
returns-clause-taken c = λ me k now number shield bytes p s a h l key t o read passes. take-answered me k now number shield bytes p s a h l key t o read passes

pub returns-clause-parted : goal.returns-clause-parted
returns-clause-parted c = λ me k now number p s a h l key t o is. part-answered me k now number p s a h l key t o is

pub returns-clause-only : goal.returns-clause-only
returns-clause-only c = λ me k now call. call-answers me k now call
