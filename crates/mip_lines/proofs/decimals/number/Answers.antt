use Rattle.std.proofs.Common.{sym, arith}
use Rattle.mip_lines.proofs.Numbers.{number_none, number_low, number_high, number_is}
use Rattle.mip_lines.proofs.decimals.number.Goals as goal

pub returns-in_default-clause-value : goal.returns-in_default-clause-value
returns-in_default-clause-value c = sym (number_none c.args.low c.args.high c.args.field.now (omega arith) c.in_default.ensures)

pub returns-then-number-low-clause-value : goal.returns-then-number-low-clause-value
returns-then-number-low-clause-value c = sym (number_low c.args.low c.args.high c.args.field.now c.in-Some.number (omega arith) c.in-Some.ensures c.if-number-low.true)

pub returns-then-high-number-clause-value : goal.returns-then-high-number-clause-value
returns-then-high-number-clause-value c = sym (number_high c.args.low c.args.high c.args.field.now c.in-Some.number (omega arith) c.in-Some.ensures c.if-high-number.true)

pub returns-else-high-number-clause-value : goal.returns-else-high-number-clause-value
returns-else-high-number-clause-value c = sym (number_is c.args.low c.args.high c.args.field.now c.in-Some.number (omega arith) c.in-Some.ensures c.if-number-low.false c.if-high-number.false)
