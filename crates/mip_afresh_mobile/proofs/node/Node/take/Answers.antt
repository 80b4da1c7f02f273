use Rattle.std.proofs.Common.{List, ℕ, ap, ◌∙◌}
use Rattle.mip_afresh_mobile.specs.Nodes.{NodeSeen, known_to, after_call}
use Rattle.mip_rules_mobile.specs.Calls as calls
use Rattle.mip_afresh_mobile.proofs.NodeLaws.{ended, accepted-here}
use Rattle.mip_afresh_mobile.proofs.node.Node.take.Goals as goal

pub invariant_of-self-2 : goal.invariant_of-self-2
invariant_of-self-2 c =
    (ended c.self.inside.past c.args.self.now c.add.new.self c.self.inside.mobile c.take.result c.args.now.0 (calls.Take c.args.number c.args.shield c.args.packet.now) c.in_ok-turn.turn c.take-2.new.turn
    c.self.view_is c.take.ensures.value c.in_ok-turn.ensures.known c.self.invariant c.in_ok-turn.ensures.begins
    (λ t same part at shows. c.in_ok-take.ensures t (accepted-here c.args.self.now.numbers c.numbers.result c.args.now.0 c.in_ok-turn.turn.now.0 c.args.accepted.now (known_to c.args.self.now).part t.known.part (c.numbers.ensures ∙ ap (λ (m : NodeSeen). m.numbers) same) at part c.requires.accepted) shows)
    (c.add.ensures ∙ ap (λ (bytes : List ℕ). after_call c.self.inside.past c.args.now.0 (calls.Take c.args.number c.args.shield bytes)) c.in_ok-copy.ensures)).invariant

pub returns-clause-answers : goal.returns-clause-answers
returns-clause-answers c =
    (ended c.self.inside.past c.args.self.now c.add.new.self c.self.inside.mobile c.take.result c.args.now.0 (calls.Take c.args.number c.args.shield c.args.packet.now) c.in_ok-turn.turn c.take-2.new.turn
    c.self.view_is c.take.ensures.value c.in_ok-turn.ensures.known c.self.invariant c.in_ok-turn.ensures.begins
    (λ t same part at shows. c.in_ok-take.ensures t (accepted-here c.args.self.now.numbers c.numbers.result c.args.now.0 c.in_ok-turn.turn.now.0 c.args.accepted.now (known_to c.args.self.now).part t.known.part (c.numbers.ensures ∙ ap (λ (m : NodeSeen). m.numbers) same) at part c.requires.accepted) shows)
    (c.add.ensures ∙ ap (λ (bytes : List ℕ). after_call c.self.inside.past c.args.now.0 (calls.Take c.args.number c.args.shield bytes)) c.in_ok-copy.ensures)).answers

pub returns-clause-goes_on : goal.returns-clause-goes_on
returns-clause-goes_on c =
    (ended c.self.inside.past c.args.self.now c.add.new.self c.self.inside.mobile c.take.result c.args.now.0 (calls.Take c.args.number c.args.shield c.args.packet.now) c.in_ok-turn.turn c.take-2.new.turn
    c.self.view_is c.take.ensures.value c.in_ok-turn.ensures.known c.self.invariant c.in_ok-turn.ensures.begins
    (λ t same part at shows. c.in_ok-take.ensures t (accepted-here c.args.self.now.numbers c.numbers.result c.args.now.0 c.in_ok-turn.turn.now.0 c.args.accepted.now (known_to c.args.self.now).part t.known.part (c.numbers.ensures ∙ ap (λ (m : NodeSeen). m.numbers) same) at part c.requires.accepted) shows)
    (c.add.ensures ∙ ap (λ (bytes : List ℕ). after_call c.self.inside.past c.args.now.0 (calls.Take c.args.number c.args.shield bytes)) c.in_ok-copy.ensures)).goes_on
