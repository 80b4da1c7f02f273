use Rattle.mip_hub.proofs.PassingLaws.{passes, only}
use Rattle.mip_hub.proofs.laws.frames_pass_as_they_came.Goals as goal

pub returns-clause-passes : goal.returns-clause-passes
returns-clause-passes c = passes

pub returns-clause-only : goal.returns-clause-only
returns-clause-only c = only
