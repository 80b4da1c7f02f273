use Rattle.std.proofs.Common.{sym, refl}
use Rattle.mip_provenance.proofs.Plain.{packet_first}
use Rattle.mip_provenance.proofs.posts.post.Goals as goal

pub loop-entry-init : goal.loop-entry-init
loop-entry-init c = (sym (packet_first c.args.number c.args.history.now), refl)
