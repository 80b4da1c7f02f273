use Rattle.std.proofs.Common.{ℕ, List, length, ap, arith, length-append}
use Rattle.mip_mobhdr.specs.OptionWriting.{padding}
use Rattle.mip_mobhdr.proofs.PaddingLaws.{length_padding}
use Rattle.mip_mobhdr.proofs.padding.align.Goals as goal

pub returns-clause-grows : goal.returns-clause-grows
returns-clause-grows c =
    let count = c.gap_at-count.result in
    let long = ap (λ (l : List ℕ). length l) c.pad.ensures in
    omega (arith, long, length-append c.args.area.now.items (padding count), length_padding count, c.gap_at-count.ensures.small)
