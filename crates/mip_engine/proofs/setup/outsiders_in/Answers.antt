use Rattle.std.proofs.Common.{arith}
use Rattle.mip_engine.proofs.JoinLaws.{one_fits}
use Rattle.mip_engine.proofs.setup.outsiders_in.Goals as goal

pub with_outsider-count-requires : goal.with_outsider-count-requires
with_outsider-count-requires c = one_fits c.args.ds.now c.loop-d.d-index c.loop-d.count _ c.requires (omega arith) c.loop-d.invariant
