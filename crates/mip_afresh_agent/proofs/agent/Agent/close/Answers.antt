use Rattle.std.proofs.Common.{List, sym, ap, subst, ◌∙◌}
use Rattle.mip_rules_agent.specs.Questions.{known}
use Rattle.mip_afresh_agent.specs.declared.asked.Asked.{Asked}
use Rattle.mip_afresh_agent.specs.Agents.{AgentSeen, transition_at, call_of, past_of}
use Rattle.mip_afresh_agent.specs.Turns.{Shows}
use Rattle.mip_afresh_agent.proofs.ShowingLaws.{shown_answers}
use Rattle.mip_afresh_agent.proofs.Pasts.{known_more}
use Rattle.mip_afresh_agent.proofs.agent.Agent.close.Goals as goal

pub invariant_of-self : goal.invariant_of-self
invariant_of-self c =
    let i = c.self.inside in
    let asked = c.args.asked.now in
    known_more i.me i.serves.items i.asked.items asked c.args.turn
    (subst (λ (a : AgentSeen). Shows c.args.turn (transition_at a asked.at.0 (call_of asked.question))) (sym c.self.view_is) c.requires)
    ∙ ap (λ (log : List Asked). known i.serves.items (past_of i.me i.serves.items log)) (sym c.with-self-inside.ensures)

pub returns-clause-answers : goal.returns-clause-answers
returns-clause-answers c =
    let asked = c.args.asked.now in
    sym (shown_answers c.args.turn (transition_at c.args.self.now asked.at.0 (call_of asked.question)) c.requires)
