use Rattle.std.proofs.Common.{◌∙◌, ap}
use Rattle.mip_schedule.specs.Reading.{reading}
use Rattle.mip_schedule.specs.Schedules.{content}
use Rattle.mip_schedule.proofs.AcceptedLaws.{accepted}
use Rattle.mip_schedule.proofs.WritingLaws.{parts_text}
use Rattle.mip_schedule.proofs.writing.write_schedule.Goals as goal

pub returns-clause-text : goal.returns-clause-text
returns-clause-text c =
    rw (c.in_ok-put_events.ensures, c.is_numbered.ensures, c.in_ok-put_line.ensures, c.in_ok-put_declarations.ensures, c.in_ok-put_head.ensures, c.new-out.ensures, c.as_slice-declarations.ensures, c.as_slice.ensures)
    (parts_text (content c.args.schedule.now))

pub returns-clause-back : goal.returns-clause-back
returns-clause-back c = ap reading (returns-clause-text c) ∙ accepted c.args.schedule.now
