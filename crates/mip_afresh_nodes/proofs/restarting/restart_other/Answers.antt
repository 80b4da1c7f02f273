use Rattle.std.proofs.Common.{◌≡◌, sym, ap, subst, ◌∙◌}
use Rattle.std.specs.Prelude.{OnOk}
use Rattle.mip_history.specs.Runs.{Run}
use Rattle.mip_history.specs.Restarting.{restarted}
use Rattle.mip_afresh.specs.Tellings.{TellingSeen, with_run}
use Rattle.mip_afresh_nodes.proofs.RestartLaws.{agent_reborn}
use Rattle.mip_afresh_nodes.proofs.restarting.restart_other.Goals as goal

pub returns-in-Agent : goal.returns-in-Agent
returns-in-Agent c =
    let t = c.take_role.new.self in
    let out = c.in-Agent.ensures.0 in
    subst (λ (x : TellingSeen). OnOk c.restart_agent.result (c.restart_agent.new.telling ≡ x))
    (ap (λ (run : Run). with_run run t) (agent_reborn t.setup t.run c.args.node.0 c.in-Agent.agent out.is out.inside)
    ∙ sym (ap (λ (x : TellingSeen). with_run (restarted x.setup x.run c.args.node.0) x) c.in-Agent.ensures.1))
    c.restart_agent.ensures
