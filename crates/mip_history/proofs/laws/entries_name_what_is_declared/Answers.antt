use Rattle.mip_history.proofs.Declarations.{permitted_declared}
use Rattle.mip_history.proofs.laws.entries_name_what_is_declared.Goals as goal

pub returns : goal.returns
returns c = λ content lawful few. permitted_declared content lawful few
