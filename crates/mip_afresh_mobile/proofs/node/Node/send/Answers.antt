use Rattle.std.proofs.Common.{List, ℕ, ap, ◌∙◌}
use Rattle.mip_afresh_mobile.specs.Nodes.{known_to, after_call}
use Rattle.mip_rules_mobile.specs.Calls as calls
use Rattle.mip_afresh_mobile.proofs.NodeLaws.{ended, held-here}
use Rattle.mip_afresh_mobile.proofs.node.Node.send.Goals as goal

pub invariant_of-self-2 : goal.invariant_of-self-2
invariant_of-self-2 c =
    (ended c.self.inside.past c.args.self.now c.add.new.self c.self.inside.mobile c.take.result c.args.now.0 (calls.Send c.args.to.address c.args.payload.now.proto c.args.payload.now.bytes.now) c.in_ok-turn.turn c.transmit.new.turn
    c.self.view_is c.take.ensures.value c.in_ok-turn.ensures.known c.self.invariant c.in_ok-turn.ensures.begins
    (λ t same part at shows. c.in_ok-transmit.ensures t (held-here (known_to c.args.self.now).part t.known.part c.args.now.0 c.in_ok-turn.turn.now.0 c.args.to.address c.args.held part at c.requires.held) shows)
    (c.add.ensures ∙ ap (λ (bytes : List ℕ). after_call c.self.inside.past c.args.now.0 (calls.Send c.args.to.address c.args.payload.now.proto bytes)) c.in_ok-copy.ensures)).invariant

pub returns-clause-answers : goal.returns-clause-answers
returns-clause-answers c =
    (ended c.self.inside.past c.args.self.now c.add.new.self c.self.inside.mobile c.take.result c.args.now.0 (calls.Send c.args.to.address c.args.payload.now.proto c.args.payload.now.bytes.now) c.in_ok-turn.turn c.transmit.new.turn
    c.self.view_is c.take.ensures.value c.in_ok-turn.ensures.known c.self.invariant c.in_ok-turn.ensures.begins
    (λ t same part at shows. c.in_ok-transmit.ensures t (held-here (known_to c.args.self.now).part t.known.part c.args.now.0 c.in_ok-turn.turn.now.0 c.args.to.address c.args.held part at c.requires.held) shows)
    (c.add.ensures ∙ ap (λ (bytes : List ℕ). after_call c.self.inside.past c.args.now.0 (calls.Send c.args.to.address c.args.payload.now.proto bytes)) c.in_ok-copy.ensures)).answers

pub returns-clause-goes_on : goal.returns-clause-goes_on
returns-clause-goes_on c =
    (ended c.self.inside.past c.args.self.now c.add.new.self c.self.inside.mobile c.take.result c.args.now.0 (calls.Send c.args.to.address c.args.payload.now.proto c.args.payload.now.bytes.now) c.in_ok-turn.turn c.transmit.new.turn
    c.self.view_is c.take.ensures.value c.in_ok-turn.ensures.known c.self.invariant c.in_ok-turn.ensures.begins
    (λ t same part at shows. c.in_ok-transmit.ensures t (held-here (known_to c.args.self.now).part t.known.part c.args.now.0 c.in_ok-turn.turn.now.0 c.args.to.address c.args.held part at c.requires.held) shows)
    (c.add.ensures ∙ ap (λ (bytes : List ℕ). after_call c.self.inside.past c.args.now.0 (calls.Send c.args.to.address c.args.payload.now.proto bytes)) c.in_ok-copy.ensures)).goes_on
