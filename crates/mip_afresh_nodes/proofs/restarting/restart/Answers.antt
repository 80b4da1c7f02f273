use Rattle.std.proofs.Common.{◌≡◌, sym, subst, ◌∙◌}
use Rattle.std.specs.Prelude.{OnOk}
use Rattle.mip_history.specs.Runs.{Run}
use Rattle.mip_afresh.specs.Tellings.{with_run}
use Rattle.mip_afresh_nodes.proofs.RestartLaws.{mobile_reborn}
use Rattle.mip_afresh_nodes.proofs.restarting.restart.Goals as goal

pub returns-then-is_mobile : goal.returns-then-is_mobile
returns-then-is_mobile c =
    let t = c.args.telling.now in
    subst (λ (run : Run). OnOk c.restart_roaming.result (c.restart_roaming.new.telling ≡ with_run run t))
    (mobile_reborn t.setup t.run c.args.node.0 (sym c.is_mobile.ensures ∙ c.if-is_mobile.true)) c.restart_roaming.ensures
