use Rattle.std.proofs.Common.{arith}
use Rattle.mip_lines.proofs.Numbers.{value_stops, value_ends}
use Rattle.mip_lines.proofs.decimals.value_of.Goals as goal

pub returns-in_err-number : goal.returns-in_err-number
returns-in_err-number c =
    rw c.from_residual.ensures (λ is. c.in_err-number.ensures (value_stops c.args.field.now c.loop-c.number c.loop-c.c-index c.loop-c-test.true c.loop-c.invariant.value is.0 is.1))

pub returns : goal.returns
returns c = value_ends c.args.field.now c.loop-c.number c.loop-c.c-index (omega (arith, c.loop-c-test.false)) c.loop-c.invariant.value c.loop-c.invariant.digits c.loop-c.invariant.fits
