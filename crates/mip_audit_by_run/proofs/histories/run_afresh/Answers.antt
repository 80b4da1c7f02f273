use Rattle.std.proofs.Common.{◌≡◌, ◌∙◌}
use Rattle.mip_schedule.specs.Schedules.{content}
use Rattle.std.specs.Prelude.{if◌then◌else◌}
use Rattle.std.proofs.Common.{◌+◌, Bool, ap}
use Rattle.mip_afresh_run.proofs.RunLaws.{told_whole}
use Rattle.mip_audit_by_run.proofs.histories.run_afresh.Goals as goal

pub returns : goal.returns
returns c =
    let next = c.loop-run.run.next in
    let stays : c.step.new.self.next ≡ next = c.in_ok-step.ensures.more ∙ ap (λ (b : Bool). if b then next + 1 else next) c.if-branch.false in
    told_whole c.step.new.self (content c.args.schedule.now) c.in_ok-step.ensures.stands (stays ∙ c.in_ok-step.ensures.end c.if-branch.false)
