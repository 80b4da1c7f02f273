use Rattle.std.proofs.Common.{ℕ, List, ◌∙◌, ap, map}
use Rattle.std.specs.Prelude.{insert}
use Rattle.mip_bulist.specs.Timers.{place_of, put_timer}
use Rattle.mip_afresh_mobile_state.specs.declared.timer.Timer.{Timer}
use Rattle.mip_afresh_mobile_state.specs.Trials.{timer_seen}
use Rattle.mip_afresh_mobile_state.proofs.TimerLaws.{insert-seen}
use Rattle.mip_afresh_mobile_state.proofs.timers.with_timer.Goals as goal

pub returns : goal.returns
returns c =
    let t : Timer = record { due = c.args.due; work = c.args.work } in
    let left : List Timer = c.in_ok-left.left.items in
    ap (map timer_seen) c.in_ok-insert.ensures.items
    ∙ insert-seen t c.place_of-place.result left
    ∙ ap (λ (n : ℕ). insert (map timer_seen left) n (timer_seen t)) (c.place_of-place.ensures.exact ∙ ap (λ (l : List Timer). place_of c.args.due (map timer_seen l)) c.deref.ensures.value)
    ∙ ap (put_timer (timer_seen t)) c.in_ok-left.ensures
