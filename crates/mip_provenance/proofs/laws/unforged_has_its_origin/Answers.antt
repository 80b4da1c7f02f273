use Rattle.mip_provenance.proofs.Originating.{origin_stands}
use Rattle.mip_provenance.proofs.laws.unforged_has_its_origin.Goals as goal

pub returns : goal.returns
returns c = origin_stands
