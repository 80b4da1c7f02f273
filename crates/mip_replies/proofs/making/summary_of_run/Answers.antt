use Rattle.std.proofs.Common.{◌≡◌, ◌++◌, List, IfOk, length, refl, sym, ap, subst, ◌∙◌}
use Rattle.mip_entries.specs.declared.entry.Entry.{Entry}
use Rattle.mip_schedule.specs.Schedules.{content}
use Rattle.mip_make.specs.Summaries.{summary_text}
use Rattle.mip_replay.specs.Permitted.{permitted}
use Rattle.mip_replay.proofs.PieceLaws.{told_more, told_last, less_left}
use Rattle.mip_replies.proofs.making.summary_of_run.Goals as goal

pub next-requires : goal.next-requires
next-requires c = (content c.args.schedule, c.loop-run.invariant.stands)

pub loop-run-smaller : goal.loop-run-smaller
loop-run-smaller c =
    less_left c.next.new.self (content c.args.schedule) c.loop-run.run.told c.in-Some.piece (c.in_ok-piece.ensures.stands (content c.args.schedule) c.loop-run.invariant.stands)
    (told_more c.next.new.self.told c.loop-run.run.told c.in-Some.piece c.in-Some.piece c.in_ok-piece.field-0 c.in_ok-piece.ensures.piece c.in-Some.is refl)
    (rw c.in-Some.is at c.in_ok-piece.ensures.more)

pub loop-run-preserved : goal.loop-run-preserved
loop-run-preserved c = record {
  stands = c.in_ok-piece.ensures.stands (content c.args.schedule) c.loop-run.invariant.stands;
  counted = c.take.ensures ∙ ap (λ (l : List Entry). l ++ c.in-Some.piece) c.loop-run.invariant.counted
      ∙ sym (told_more c.next.new.self.told c.loop-run.run.told c.in-Some.piece c.in-Some.piece c.in_ok-piece.field-0 c.in_ok-piece.ensures.piece c.in-Some.is refl);
}

pub returns : goal.returns
returns c =
    let s = content c.args.schedule in
    let all : c.loop-run.tally ≡ permitted s =
    c.loop-run.invariant.counted
    ∙ told_last c.next.new.self.told c.loop-run.run.told (permitted s) c.in_ok-piece.field-0 c.in_ok-piece.ensures.piece c.in_default.is (c.in_ok-piece.ensures.end s c.loop-run.invariant.stands) in
    subst (λ (l : List Entry). IfOk c.text.result (λ text. text ≡ summary_text (length c.args.schedule.events) l)) all (rw c.len-events.ensures at c.text.ensures)
