use Rattle.mip_replies.proofs.AuditLaws.{audited}
use Rattle.mip_replies.proofs.laws.each_audit_is_right.Goals as goal

pub returns : goal.returns
returns c = audited c.each_acceptance_is_marked.ensures c.first_differences_are_found.ensures.judged c.first_differences_are_found.ensures.itself
