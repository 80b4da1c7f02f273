use Rattle.std.proofs.lemmas.Result.{IfOk-weaker}
use Rattle.mip_schedule.specs.Schedules.{content}
use Rattle.mip_schedule.specs.Spelling.{spelling}
use Rattle.mip_replay.proofs.BindingLaws.{bound_of, repeats_of}
use Rattle.mip_replay.proofs.PlainLaws.{marked_of}
use Rattle.mip_replay.proofs.RegisteredLaws.{homes_of}
use Rattle.mip_replay.proofs.run.replay.Goals as goal

pub returns-clause-bound : goal.returns-clause-bound
returns-clause-bound c =
    IfOk-weaker c.run_whole.result _ _ (λ h is. bound_of (record { held = c.held_was_accepted.ensures.held; under = c.held_was_accepted.ensures.under }) c.accepted_was_handed.ensures (content c.args.schedule.now) h is) c.run_whole.ensures

pub returns-clause-repeats : goal.returns-clause-repeats
returns-clause-repeats c =
    IfOk-weaker c.run_whole.result _ _
    (λ h is. repeats_of c.repeats_come_after_rounds.ensures c.waits_are_short.ensures (content c.args.schedule.now) h c.spelling_read.ensures is) c.run_whole.ensures

pub returns-clause-homes : goal.returns-clause-homes
returns-clause-homes c =
    IfOk-weaker c.run_whole.result _ _
    (λ h is. homes_of c.registered_was_sent.ensures c.homes_change_by_updates_or_time.ensures (content c.args.schedule.now) h is) c.run_whole.ensures

pub returns-clause-marked : goal.returns-clause-marked
returns-clause-marked c =
    IfOk-weaker c.run_whole.result _ _
    (λ h is. marked_of c.acceptances_are_marked.ensures c.waits_are_short.ensures (content c.args.schedule.now) h c.spelling_read.ensures is) c.run_whole.ensures

pub returns-clause-delivered : goal.returns-clause-delivered
returns-clause-delivered c =
    let s = content c.args.schedule.now in
    c.each_delivery_arrives.ensures (spelling s) s c.spelling_read.ensures
