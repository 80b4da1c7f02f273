use Rattle.mip_afresh_bindings.proofs.KeptLaws.{kept_known}
use Rattle.mip_afresh_bindings.proofs.laws.kept_is_as_known.Goals as goal

pub returns : goal.returns
returns c = kept_known
