use Rattle.mip_provenance.proofs.Means.{not_forged, forged_cause}
use Rattle.mip_provenance.proofs.laws.forged_marks_have_their_cause.Goals as goal

pub returns-clause-first : goal.returns-clause-first
returns-clause-first c = not_forged

pub returns-clause-cause : goal.returns-clause-cause
returns-clause-cause c = forged_cause
