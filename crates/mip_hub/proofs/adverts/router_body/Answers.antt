use Rattle.mip_hub.proofs.AdvertLaws.{short_if}
use Rattle.mip_hub.proofs.adverts.router_body.Goals as goal

pub returns-clause-short : goal.returns-clause-short
returns-clause-short c = short_if c.args.prefix c.args.agent c.write_icmp.result (rw c.prefix_info.ensures at c.write_icmp.ensures.canonical)
