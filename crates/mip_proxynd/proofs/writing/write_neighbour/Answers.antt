use Rattle.mip_proxynd.proofs.Canonical.{is_spelled, is_back, is_small}
use Rattle.mip_proxynd.proofs.writing.write_neighbour.Goals as goal

pub returns-clause-spelled : goal.returns-clause-spelled
returns-clause-spelled c = is_spelled c.args.source c.args.destination c.args.message.now c.summed.result c.requires c.summed.ensures.canonical c.summed.ensures.sum c.summed.ensures.fits

pub returns-clause-back : goal.returns-clause-back
returns-clause-back c = is_back c.args.source c.args.destination c.args.message.now c.summed.result (is_spelled c.args.source c.args.destination c.args.message.now c.summed.result c.requires c.summed.ensures.canonical c.summed.ensures.sum c.summed.ensures.fits)

pub returns-clause-small : goal.returns-clause-small
returns-clause-small c = is_small c.args.source c.args.destination c.args.message.now c.summed.result c.summed.ensures.canonical c.summed.ensures.fits
