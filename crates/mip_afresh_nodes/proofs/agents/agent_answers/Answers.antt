use Rattle.std.proofs.Common.{◌≡◌, ℕ, List, sym, ap, ◌∙◌, subst}
use Rattle.std.specs.Prelude.{IfOk, OnOk, None}
use Rattle.mip_outside.specs.declared.claim.Claim.{Claim}
use Rattle.mip_entries.specs.declared.answer.Answer.{Answer}
use Rattle.mip_rules_agent.specs.Calls as agents
use Rattle.mip_rules_agent.specs.Steps.{answers_of}
use Rattle.mip_history.specs.Knowing.{now_in, around_in}
use Rattle.mip_afresh_agent.specs.Agents.{AgentSeen, transition_at, after_call}
use Rattle.mip_afresh_nodes.specs.AgentCalls.{call_of_agent}
use Rattle.mip_afresh_nodes.proofs.agents.agent_answers.Goals as goal

pub returns-in-Take-clause-answers : goal.returns-in-Take-clause-answers
returns-in-Take-clause-answers c =
    let t = c.args.telling.now in
    let a = c.args.agent.now in
    let around = around_in t.run c.args.node.0 None in
    let late : c.now-now.result.0 ≡ now_in t.setup t.run = c.now-now.ensures in
    subst (λ (ys : List Answer). IfOk c.take.result (λ xs. xs ≡ ys))
    (ap (λ (x : agents.Call). answers_of (transition_at a c.now-now.result.0 x).steps)
    (ap (λ (x : Claim). agents.Take c.in-Take.number c.in-Take.shield c.in-Take.packet.now x) c.claim_by_agent-claim.ensures ∙ ap (call_of_agent around) (sym c.in-Take.is))
    ∙ ap (λ (k : ℕ). answers_of (transition_at a k (call_of_agent around c.args.call.now)).steps) late)
    c.take.ensures.answers

pub returns-in-Take-clause-goes_on : goal.returns-in-Take-clause-goes_on
returns-in-Take-clause-goes_on c =
    let t = c.args.telling.now in
    let a = c.args.agent.now in
    let around = around_in t.run c.args.node.0 None in
    let late : c.now-now.result.0 ≡ now_in t.setup t.run = c.now-now.ensures in
    subst (λ (x : AgentSeen). OnOk c.take.result (c.take.new.self ≡ x))
    (ap (λ (x : agents.Call). after_call a c.now-now.result.0 x)
    (ap (λ (x : Claim). agents.Take c.in-Take.number c.in-Take.shield c.in-Take.packet.now x) c.claim_by_agent-claim.ensures ∙ ap (call_of_agent around) (sym c.in-Take.is))
    ∙ ap (λ (k : ℕ). after_call a k (call_of_agent around c.args.call.now)) late)
    c.take.ensures.goes_on
