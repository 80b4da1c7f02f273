use Rattle.std.proofs.Common.{ap}
use Rattle.mip_schedule.specs.Reading.{reading}
use Rattle.mip_schedule.specs.Schedules.{parts_content}
use Rattle.mip_schedule.specs.Spelling.{spelling}
use Rattle.mip_schedule.proofs.AcceptedLaws.{read_is, held_is}
use Rattle.mip_schedule.proofs.SizeLaws.{lines_few}
use Rattle.mip_schedule.proofs.TextLaws.{schedule-spelled, spelling-again}
use Rattle.mip_schedule.proofs.schedule_reading.read_schedule.Goals as goal

pub invariant_of-result : goal.invariant_of-result
invariant_of-result c =
    let e = spelling-again c.args.text.now (parts_content c.in-Ok.parts) c.in-Ok.ensures in
    let same = held_is (reading (spelling (parts_content c.in-Ok.parts))) (parts_content c.in-Ok.parts) e in
    record {
      accepted = read_is (reading (spelling (parts_content c.in-Ok.parts))) (parts_content c.in-Ok.parts) e;
      same_version = ap (λ x. x.version) same;
      same_seed = ap (λ x. x.seed) same;
      same_start = ap (λ x. x.start) same;
      same_declarations = ap (λ x. x.declarations) same;
      same_events = ap (λ x. x.events) same;
      few_lines = lines_few c.args.text.now (parts_content c.in-Ok.parts) (schedule-spelled c.args.text.now (parts_content c.in-Ok.parts) c.in-Ok.ensures) c.requires;
    }

pub returns-in-Ok-clause-found : goal.returns-in-Ok-clause-found
returns-in-Ok-clause-found c = schedule-spelled c.args.text.now (parts_content c.in-Ok.parts) c.in-Ok.ensures
