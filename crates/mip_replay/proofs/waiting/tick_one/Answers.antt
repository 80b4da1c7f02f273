use Rattle.std.proofs.Common.{true, false, sym, ◌∙◌}
use Rattle.mip_engine.proofs.GoesLaws.{goes_as, goes_nowhere}
use Rattle.mip_replay.proofs.WaitLaws.{is_due_is, ticks_by}
use Rattle.mip_replay.proofs.waiting.tick_one.Goals as goal

pub returns-then-is_due : goal.returns-then-is_due
returns-then-is_due c =
    let n = c.args.node.0 in
    goes_as c.act.ensures
    (λ s run at. ticks_by s n run true (sym (is_due_is c.args.engine.now s run at n c.due.result c.moment.result c.due.ensures c.moment.ensures.is) ∙ sym c.is_due.ensures ∙ c.if-is_due.true))

pub returns : goal.returns
returns c =
    let n = c.args.node.0 in
    goes_nowhere
    (λ s run at. ticks_by s n run false (sym (is_due_is c.args.engine.now s run at n c.due.result c.moment.result c.due.ensures c.moment.ensures.is) ∙ sym c.is_due.ensures ∙ c.if-is_due.false))
