use Rattle.std.proofs.Common.{sym}
use Rattle.mip_afresh.proofs.Landings.{lands_handed}
use Rattle.mip_afresh.proofs.telling.Telling.land_at.Goals as goal

pub returns : goal.returns
returns c = λ post is fate.
    lands_handed c.args.self.now c.come_to_node.new.self c.args.number post c.args.landing is c.args.node fate (c.in_ok-come_to_node.ensures post (sym is.guarded))
