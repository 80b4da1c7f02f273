use Rattle.std.proofs.Common.{refl, ◌∙◌, ap}
use Rattle.mip_lines.specs.Cutting.{fields_of, texts}
use Rattle.mip_schedule.proofs.LongLaws.{long_head}
use Rattle.mip_schedule.proofs.Walking.{head_end, head_found, head_bad}
use Rattle.mip_schedule.proofs.head.head_field.Goals as goal

pub returns-in_default-clause-exact : goal.returns-in_default-clause-exact
returns-in_default-clause-exact c = head_end c.args.word.now c.args.line c.args.text.now c.in_default.ensures.parts

pub returns-in_default-few_fields-clause-exact : goal.returns-in_default-few_fields-clause-exact
returns-in_default-few_fields-clause-exact c =
    head_bad c.args.word.now c.args.line c.args.text.now c.in-Some.row.now c.in-Some.rest.now (fields_of c.in-Some.row.now) _
    c.in-Some.ensures.parts refl (long_head c.args.word.now (fields_of c.in-Some.row.now) c.in_default-few_fields.ensures)

pub returns-in-Ok-clause-exact : goal.returns-in-Ok-clause-exact
returns-in-Ok-clause-exact c =
    head_found c.args.word.now c.args.line c.args.text.now c.in-Some.row.now c.in-Some.rest.now (texts c.as_slice.result.now) c.in-Ok.field.now
    c.in-Some.ensures.parts (ap texts c.as_slice.ensures.value ∙ c.in-Some-few_fields.ensures) c.in-Ok.ensures

pub returns-in-Err-clause-exact : goal.returns-in-Err-clause-exact
returns-in-Err-clause-exact c =
    head_bad c.args.word.now c.args.line c.args.text.now c.in-Some.row.now c.in-Some.rest.now (texts c.as_slice.result.now) c.in-Err.why
    c.in-Some.ensures.parts (ap texts c.as_slice.ensures.value ∙ c.in-Some-few_fields.ensures) c.in-Err.ensures
