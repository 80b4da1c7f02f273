use Rattle.std.proofs.Common.{◌≡◌, refl, sym, ap, ◌∙◌, subst}
use Rattle.std.specs.Prelude.{OnOk, None}
use Rattle.mip_words.specs.declared.address.Address.{Address}
use Rattle.mip_history.specs.Runs.{Run, with_agent_past}
use Rattle.mip_history.specs.Knowing.{link_or_first, now_in, around_in}
use Rattle.mip_history.specs.Nodes.{answered}
use Rattle.mip_afresh.specs.Tellings.{with_run}
use Rattle.mip_afresh_nodes.specs.AgentCalls.{asked_of_agent, call_of_agent}
use Rattle.mip_afresh_nodes.proofs.CallLaws.{agent_asked, agent_done}
use Rattle.mip_afresh_nodes.proofs.agents.ask_agent.Goals as goal

pub returns : goal.returns
returns c =
    let t = c.args.telling.now in
    let n = c.args.node.0 in
    let call = c.args.call.now in
    let around = around_in t.run n None in
    subst (λ (run : Run). OnOk c.answer_agent.result (c.answer_agent.new.telling ≡ with_run run t))
    (ap (λ (o : Address). answered t.setup n (link_or_first t.setup o.0) (with_agent_past n c.agent_answers.new.agent.past t.run) c.in_ok-answers.answers) c.own-own.ensures
    ∙ agent_done t.setup t.run n c.args.agent c.requires.is c.requires.inside (asked_of_agent call) (call_of_agent around call) (now_in t.setup t.run) c.agent_answers.new.agent c.in_ok-answers.answers
    (agent_asked around call) refl c.in_ok-answers.ensures.goes_on c.in_ok-answers.ensures.answers)
    c.answer_agent.ensures
