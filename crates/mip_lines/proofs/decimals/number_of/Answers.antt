use Rattle.std.proofs.Common.{sym, ◌∙◌, length}
use Rattle.std.proofs.lemmas.Bool.{eqb-true}
use Rattle.mip_lines.proofs.Numbers.{number_not_empty, number_not_led, number_written, some_digit, no_lead}
use Rattle.mip_lines.proofs.decimals.number_of.Goals as goal

pub returns-then-is_empty : goal.returns-then-is_empty
returns-then-is_empty c = number_not_empty c.args.field.now (eqb-true (length c.args.field.now) 0 (sym c.is_empty.ensures ∙ c.if-is_empty.true))

pub returns-then-field-gt1 : goal.returns-then-field-gt1
returns-then-field-gt1 c = number_not_led c.args.field.now c.if-field-eq48.true c.if-field-gt1.true

pub returns : goal.returns
returns c = number_written c.args.field.now c.value_of.result (some_digit c.args.field.now c.if-is_empty.ensures) (no_lead c.args.field.now c.else-field-eq48.either) c.value_of.ensures
