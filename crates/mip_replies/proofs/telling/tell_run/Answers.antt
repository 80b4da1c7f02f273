use Rattle.std.proofs.Common.{length, refl, arith}
use Rattle.std.proofs.lemmas.List.{take_all}
use Rattle.mip_schedule.specs.Schedules.{content}
use Rattle.mip_replies.specs.Answers.{text_told}
use Rattle.mip_replies.proofs.telling.tell_run.Goals as goal

pub returns-in-Ok-clause-told : goal.returns-in-Ok-clause-told
returns-in-Ok-clause-told g c =
    let text = text_told c.args.told (content c.args.schedule) in
    record {
      conclusive = λ _. (refl, c.in-Ok.ensures.ok);
      part = λ fault. absurd (c.requires.no_write_fault fault);
      front = (length text, rw (take_all (length text) text (omega arith)) c.in-Ok.ensures.ok);
    }
