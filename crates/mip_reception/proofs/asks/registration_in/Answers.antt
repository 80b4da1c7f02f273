use Rattle.std.proofs.Common.{◌∙◌, sym}
use Rattle.mip_mobhdr.specs.Said.{said}
use Rattle.mip_reception.proofs.Updates.{update_asks}
use Rattle.mip_reception.proofs.asks.registration_in.Goals as goal

pub unreachable-requires : goal.unreachable-requires
unreachable-requires c =
    update_asks c.args.update.now.source c.args.update.now.home c.args.update.now.message.now (said c.in-Ok.message) c.in-Ok.ensures.exact (sym c.registration_of.ensures ∙ c.in-None.is)
