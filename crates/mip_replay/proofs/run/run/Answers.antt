use Rattle.std.proofs.Common.{◌≡◌, ◌<◌, List, length, take, sym, ap, ◌∙◌, subst, arith}
use Rattle.std.specs.Prelude.{get_or}
use Rattle.mip_schedule.specs.Schedules.{content}
use Rattle.mip_schedule.specs.declared.event.Event.{Event}
use Rattle.mip_history.specs.Setup.{setup_of}
use Rattle.mip_replay.specs.Ready.{IsReady}
use Rattle.mip_replay.proofs.RunLaws.{run_more}
use Rattle.mip_replay.proofs.ReadyLaws.{finds_ready}
use Rattle.mip_replay.proofs.run.run.Goals as goal

pub happen-requires : goal.happen-requires
happen-requires c =
    let e = c.loop-event.engine in
    let s = content c.args.schedule.now in
    let i = c.loop-event.event-index in
    let event = c.event-item.result in
    let are : c.as_slice-event-items.result.now ≡ s.events = c.as_slice-event-items.ensures in
    let inside : i < length s.events = omega (arith, ap (λ (l : List Event). length l) are) in
    let is : event ≡ get_or s.events i event = c.event-item.is ∙ ap (λ (l : List Event). get_or l i event) are in
    subst (λ (x : Event). IsReady e x) (sym is)
    (finds_ready c.moments_rise.ensures.waited c.lives_are_restarts.ensures s c.lawful.ensures c.few.ensures i event inside e c.loop-event.invariant.stands)

pub loop-event-preserved : goal.loop-event-preserved
loop-event-preserved c =
    let s = content c.args.schedule.now in
    let i = c.loop-event.event-index in
    let event = c.event-item.result in
    let are : c.as_slice-event-items.result.now ≡ s.events = c.as_slice-event-items.ensures in
    let inside : i < length s.events = omega (arith, ap (λ (l : List Event). length l) are) in
    let is : event ≡ get_or s.events i event = c.event-item.is ∙ ap (λ (l : List Event). get_or l i event) are in
    record {
      stands = run_more c.happen.new.engine (setup_of s) s.events i event inside is (c.in_ok-happen.ensures.stands (setup_of s) (take i s.events) c.loop-event.invariant.stands);
      kept = c.in_ok-happen.ensures.kept ∙ c.loop-event.invariant.kept;
    }
