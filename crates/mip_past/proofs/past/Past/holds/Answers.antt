use Rattle.std.proofs.Common.{◌∙◌}
use Rattle.mip_past.specs.Asking.{moment_at}
use Rattle.mip_past.proofs.Holding.{holds_told}
use Rattle.mip_past.proofs.past.Past.holds.Goals as goal

pub returns : goal.returns
returns c =
    let past = c.args.self.now in
    c.any_holds.ensures ∙ holds_told c.args.node.0 c.args.home.0 c.args.careof.0 (moment_at past) past.start.0 past.entries.now
