use Rattle.std.proofs.Common.{arith}
use Rattle.mip_words.proofs.HexLaws.{filled_more}
use Rattle.mip_words.proofs.hex.fill.Goals as goal

pub loop-i-preserved : goal.loop-i-preserved
loop-i-preserved c = filled_more c.args.field.now c.loop-i.out c.loop-i.i c.pair_value.result (omega arith) (omega arith) c.pair_value.ensures c.loop-i.invariant
