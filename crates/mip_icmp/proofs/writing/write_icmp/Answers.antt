use Rattle.mip_icmp.specs.Said.{said_plain}
use Rattle.mip_icmp.proofs.Canonical.{is_spelled, is_back}
use Rattle.mip_icmp.proofs.writing.write_icmp.Goals as goal

pub returns-clause-spelled : goal.returns-clause-spelled
returns-clause-spelled c = is_spelled c.args.source c.args.destination (said_plain c.args.message.now) c.summed.result c.requires c.summed.ensures.canonical c.summed.ensures.sum c.summed.ensures.fits

pub returns-clause-back : goal.returns-clause-back
returns-clause-back c = is_back c.args.source c.args.destination (said_plain c.args.message.now) c.summed.result (is_spelled c.args.source c.args.destination (said_plain c.args.message.now) c.summed.result c.requires c.summed.ensures.canonical c.summed.ensures.sum c.summed.ensures.fits)
