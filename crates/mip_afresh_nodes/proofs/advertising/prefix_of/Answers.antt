use Rattle.mip_afresh_nodes.proofs.AdvertLaws.{none_there}
use Rattle.mip_afresh_nodes.proofs.advertising.prefix_of.Goals as goal

pub returns-in-None : goal.returns-in-None
returns-in-None c = none_there c.args.telling.now.setup.links c.args.link.0 c.in-None.ensures
