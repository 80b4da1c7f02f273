use Rattle.std.proofs.Common.{sym, subst, ◌∙◌}
use Rattle.mip_afresh_mobile_state.specs.Turns.{Shows}
use Rattle.mip_afresh_mobile_rules.proofs.Asking.{shown-known}
use Rattle.std.specs.Prelude.{Bool, if◌then◌else◌, true}
use Rattle.mip_rules_mobile.specs.HomeQuestions.{agent_of}
use Rattle.mip_rules_mobile.specs.HomeRules.{deregisters_at}
use Rattle.mip_afresh_mobile_rules.proofs.Asking.{asked}
use Rattle.mip_afresh_mobile_rules.proofs.moving.settle_home.Goals as goal

pub returns-then-owes : goal.returns-then-owes
returns-then-owes c =
    let turn = c.args.turn.now in
    asked c.deregister_at.result turn c.deregister_at.new.turn (λ k n. k.owes) true (λ owes t. if owes then deregisters_at (agent_of t.known t.now) t else t)
    (λ k same. sym c.if-owes.true ∙ c.owes.ensures k same)
    (asked c.deregister_at.result turn c.deregister_at.new.turn agent_of c.agent-agent.result (λ agent. deregisters_at agent) c.agent-agent.ensures c.deregister_at.ensures)

pub returns-else-owes : goal.returns-else-owes
returns-else-owes c = λ t shows.
    let turn = c.args.turn.now in
    subst (λ (owes : Bool). Shows turn (if owes then deregisters_at (agent_of t.known t.now) t else t)) (sym c.if-owes.false ∙ c.owes.ensures t.known (shown-known turn t shows)) shows
