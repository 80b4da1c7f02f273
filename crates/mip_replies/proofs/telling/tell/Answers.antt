use Rattle.std.proofs.Common.{length, refl, arith}
use Rattle.std.proofs.lemmas.List.{take_all}
use Rattle.mip_replies.proofs.telling.tell.Goals as goal

pub returns-in-Ok-clause-told : goal.returns-in-Ok-clause-told
returns-in-Ok-clause-told g c =
    let text = c.args.text.now in
    record {
      conclusive = λ _. (refl, c.in-Ok.ensures.ok);
      part = λ fault. absurd (c.requires.no_write_fault fault);
      front = (length text, rw (take_all (length text) text (omega arith)) c.in-Ok.ensures.ok);
    }
