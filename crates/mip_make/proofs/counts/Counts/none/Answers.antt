use Rattle.std.proofs.Common.{refl}
use Rattle.mip_make.specs.Counting.{counts_of}
use Rattle.mip_make.proofs.counts.Counts.none.Goals as goal

pub returns : goal.returns
unfolding counts_of
returns c = refl
