use Rattle.mip_rows.specs.Names.{names_of, outsider_name}
use Rattle.mip_rows.proofs.NameTableLaws.{named}
use Rattle.mip_rows.proofs.numbered.outsider_in.Goals as goal

pub returns-in-Some-default : goal.returns-in-Some-default
returns-in-Some-default c = named (outsider_name (names_of c.args.schedule)) c.args.outsider c.args.list.now c.in-Some-default.name.now c.requires c.in-Some-default.ensures.lookup.3.0 (c.in-Some-default.ensures.lookup.3.1 c.in-Some-default.name.now)
