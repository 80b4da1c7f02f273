use Rattle.std.proofs.Common.{sym}
use Rattle.std.specs.Prelude.{None}
use Rattle.mip_provenance.specs.Entries.{claims}
use Rattle.mip_provenance.proofs.ListLaws.{fold_first}
use Rattle.mip_provenance.proofs.whole_history.declared.Goals as goal

pub loop-entry-init : goal.loop-entry-init
loop-entry-init c = sym (fold_first (claims c.args.node.0) None c.args.history.now)
