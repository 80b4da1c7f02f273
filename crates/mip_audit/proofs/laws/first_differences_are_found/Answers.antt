use Rattle.mip_audit.proofs.Judging.{judged, itself}
use Rattle.mip_audit.proofs.laws.first_differences_are_found.Goals as goal

pub returns-clause-judged : goal.returns-clause-judged
returns-clause-judged c = judged

pub returns-clause-itself : goal.returns-clause-itself
returns-clause-itself c = itself
