use Rattle.std.proofs.Common.{arith}
use Rattle.mip_words.specs.Numbers.{IsBytes}
use Rattle.mip_ipv6.proofs.Sums.{four_words}
use Rattle.mip_ipv6.proofs.sum.sum_of_eight.Goals as goal

pub returns-clause-value : goal.returns-clause-value
returns-clause-value c =
    let are : IsBytes c.args.bytes.now = λ i. omega (arith, c.type_inv.bytes i) in
    let four = four_words c.args.bytes.now are c.requires in
    omega (arith, four, c.u64_at-number.ensures)
