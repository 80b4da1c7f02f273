use Rattle.std.proofs.Common.{sym}
use Rattle.std.specs.Prelude.{None}
use Rattle.mip_history.specs.Questions.{claims}
use Rattle.mip_provenance.proofs.ListLaws.{fold_first}
use Rattle.mip_settled.proofs.claims.declared.Goals as goal

pub loop-entry-init : goal.loop-entry-init
loop-entry-init c = sym (fold_first (claims c.args.by) None c.args.history.now)
