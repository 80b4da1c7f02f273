use Rattle.std.proofs.Common.{◌<◌, ◌≤◌, ◌-◌, sym, ◌∙◌, subst, arith}
use Rattle.mip_rules_mobile.specs.Transitions.{Transition}
use Rattle.mip_rules_mobile.specs.TimerQuestions.{moment}
use Rattle.mip_bulist.specs.Timers.{due_work}
use Rattle.mip_rules_mobile.specs.RingingRules.{rings}
use Rattle.mip_afresh_mobile_state.specs.Turns.{Shows}
use Rattle.mip_afresh_mobile_rules.proofs.Rounds.{ticks-step, ticks-idle, ticks-done}
use Rattle.mip_afresh_mobile_rules.proofs.Asking.{read}
use Rattle.mip_afresh_mobile_rules.proofs.ringing.ring_times.Goals as goal

pub loop-round-preserved : goal.loop-round-preserved
loop-round-preserved c = λ t shows.
    let held = c.loop-round.invariant t shows in
    let work = c.in-Some.work in
    let below : c.loop-round.round < c.args.times = omega arith in
    let due = sym c.in-Some.is ∙ read c.loop-round.turn (λ k n. due_work (moment n) k.list.timers) c.due_work.result c.due_work.ensures held.0 held.1 in
    (rings work held.0, c.in_ok-ring-in-Some.ensures held.0 held.1, sym (ticks-step c.args.times c.loop-round.round work held.0 below due) ∙ held.2)

pub returns-in-None : goal.returns-in-None
returns-in-None c = λ t shows.
    let held = c.loop-round.invariant t shows in
    let due = sym c.in-None.is ∙ read c.loop-round.turn (λ k n. due_work (moment n) k.list.timers) c.due_work.result c.due_work.ensures held.0 held.1 in
    subst (λ (u : Transition). Shows c.loop-round.turn u) (sym (ticks-idle (c.args.times - c.loop-round.round) held.0 due) ∙ held.2) held.1

pub returns : goal.returns
returns c = λ t shows.
    let held = c.loop-round.invariant t shows in
    let done : c.args.times ≤ c.loop-round.round = omega arith in
    subst (λ (u : Transition). Shows c.loop-round.turn u) (sym (ticks-done c.args.times c.loop-round.round held.0 done) ∙ held.2) held.1
