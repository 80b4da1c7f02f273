use Rattle.std.proofs.Common.{arith}
use Rattle.mip_entries.proofs.widths.slice_is_of_bytes.Goals as goal

pub returns : goal.returns
returns c = λ i. omega (arith, c.type_inv.bytes i)
