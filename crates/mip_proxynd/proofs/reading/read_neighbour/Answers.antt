use Rattle.mip_proxynd.proofs.Messages.{is_found, is_read}
use Rattle.mip_proxynd.proofs.reading.read_neighbour.Goals as goal

pub returns-clause-found : goal.returns-clause-found
returns-clause-found c = is_found c.args.source c.args.destination c.args.hop c.args.body.now c.tested.result c.tested.ensures

pub returns-clause-only : goal.returns-clause-only
returns-clause-only c = is_read c.args.source c.args.destination c.args.hop c.args.body.now c.tested.result c.tested.ensures
