use Rattle.std.proofs.Common.{◌≡◌, ℕ, length, ap, ◌∙◌}
use Rattle.std.specs.Prelude.{max}
use Rattle.mip_history.specs.Knowing.{now_in}
use Rattle.mip_history.specs.Waiting.{ticked}
use Rattle.mip_engine.proofs.GoesLaws.{gone, goes_after}
use Rattle.mip_replay.proofs.WaitLaws.{run_come}
use Rattle.mip_replay.proofs.waiting.work.Goals as goal

pub returns : goal.returns
returns c =
    let due = c.args.due.moment.0 in
    let told = c.args.told in
    goes_after (gone c.in_ok-come_to.ensures) c.tick_first.ensures (λ s run at.
    let m = max (now_in s run) due in
    let is : c.later-moment.result.0 ≡ m = c.later-moment.ensures ∙ ap (λ (now : ℕ). max now due) (c.moment.ensures.is ∙ at.now) in
    ap (λ (n : ℕ). ticked s n (run_come s c.later-moment.result.0 run told)) (c.count-count.ensures.is ∙ (c.in_ok-come_to.ensures.stands s run at).count)
    ∙ ap (λ (x : ℕ). ticked s (length s.hosts) (run_come s x run told)) is)
