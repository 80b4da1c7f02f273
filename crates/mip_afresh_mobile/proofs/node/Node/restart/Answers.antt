use Rattle.std.proofs.Common.{subst}
use Rattle.mip_nonce.specs.Secrets.{Life}
use Rattle.mip_rules_mobile.specs.MovingRules.{restarts}
use Rattle.mip_afresh_mobile_state.specs.Turns.{Shows}
use Rattle.mip_rules_mobile.specs.Calls as calls
use Rattle.mip_afresh_mobile.proofs.NodeLaws.{ended, secrets-are}
use Rattle.mip_afresh_mobile.proofs.node.Node.restart.Goals as goal

pub invariant_of-self-2 : goal.invariant_of-self-2
invariant_of-self-2 c =
    (ended c.self.inside.past c.args.self.now c.add.new.self c.self.inside.mobile c.take.result c.args.now.0 (calls.Restart c.args.secrets) c.in_ok-turn.turn c.begin_anew.new.turn
    c.self.view_is c.take.ensures.value c.in_ok-turn.ensures.known c.self.invariant c.in_ok-turn.ensures.begins
    (λ t same part at shows. subst (λ (secrets : Life). Shows c.begin_anew.new.turn (restarts secrets t)) (secrets-are c.args.secrets c.in-Restart.secrets c.in-Restart.is) (c.in_ok-begin_anew-in-Restart.ensures t shows))
    c.add.ensures).invariant

pub returns-clause-answers : goal.returns-clause-answers
returns-clause-answers c =
    (ended c.self.inside.past c.args.self.now c.add.new.self c.self.inside.mobile c.take.result c.args.now.0 (calls.Restart c.args.secrets) c.in_ok-turn.turn c.begin_anew.new.turn
    c.self.view_is c.take.ensures.value c.in_ok-turn.ensures.known c.self.invariant c.in_ok-turn.ensures.begins
    (λ t same part at shows. subst (λ (secrets : Life). Shows c.begin_anew.new.turn (restarts secrets t)) (secrets-are c.args.secrets c.in-Restart.secrets c.in-Restart.is) (c.in_ok-begin_anew-in-Restart.ensures t shows))
    c.add.ensures).answers

pub returns-clause-goes_on : goal.returns-clause-goes_on
returns-clause-goes_on c =
    (ended c.self.inside.past c.args.self.now c.add.new.self c.self.inside.mobile c.take.result c.args.now.0 (calls.Restart c.args.secrets) c.in_ok-turn.turn c.begin_anew.new.turn
    c.self.view_is c.take.ensures.value c.in_ok-turn.ensures.known c.self.invariant c.in_ok-turn.ensures.begins
    (λ t same part at shows. subst (λ (secrets : Life). Shows c.begin_anew.new.turn (restarts secrets t)) (secrets-are c.args.secrets c.in-Restart.secrets c.in-Restart.is) (c.in_ok-begin_anew-in-Restart.ensures t shows))
    c.add.ensures).goes_on
