use Rattle.std.proofs.Common.{map, arith}
use Rattle.mip_afresh_bindings.specs.Accepted.{acceptance_seen}
use Rattle.mip_afresh_bindings.proofs.CountLaws.{counted_floors}
use Rattle.mip_afresh_bindings.proofs.room.count.Goals as goal

pub loop-one-init : goal.loop-one-init
loop-one-init c = record {
  within = omega arith;
  rest = let all = counted_floors (map acceptance_seen c.args.accepted.now) c.args.now.0 in omega (arith, all);
}
