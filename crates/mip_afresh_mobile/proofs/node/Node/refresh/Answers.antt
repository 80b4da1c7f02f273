use Rattle.mip_afresh_mobile.specs.Nodes.{known_to}
use Rattle.mip_rules_mobile.specs.Calls as calls
use Rattle.mip_afresh_mobile.proofs.NodeLaws.{ended, held-here}
use Rattle.mip_afresh_mobile.proofs.node.Node.refresh.Goals as goal

pub invariant_of-self-2 : goal.invariant_of-self-2
invariant_of-self-2 c =
    (ended c.self.inside.past c.args.self.now c.add.new.self c.self.inside.mobile c.take.result c.args.now.0 (calls.Refresh c.args.home.address) c.in_ok-turn.turn c.ask_refresh.new.turn
    c.self.view_is c.take.ensures.value c.in_ok-turn.ensures.known c.self.invariant c.in_ok-turn.ensures.begins
    (λ t same part at shows. c.in_ok-ask_refresh.ensures t (held-here (known_to c.args.self.now).part t.known.part c.args.now.0 c.in_ok-turn.turn.now.0 c.args.home.address c.args.held part at c.requires.held) shows)
    c.add.ensures).invariant

pub returns-clause-answers : goal.returns-clause-answers
returns-clause-answers c =
    (ended c.self.inside.past c.args.self.now c.add.new.self c.self.inside.mobile c.take.result c.args.now.0 (calls.Refresh c.args.home.address) c.in_ok-turn.turn c.ask_refresh.new.turn
    c.self.view_is c.take.ensures.value c.in_ok-turn.ensures.known c.self.invariant c.in_ok-turn.ensures.begins
    (λ t same part at shows. c.in_ok-ask_refresh.ensures t (held-here (known_to c.args.self.now).part t.known.part c.args.now.0 c.in_ok-turn.turn.now.0 c.args.home.address c.args.held part at c.requires.held) shows)
    c.add.ensures).answers

pub returns-clause-goes_on : goal.returns-clause-goes_on
returns-clause-goes_on c =
    (ended c.self.inside.past c.args.self.now c.add.new.self c.self.inside.mobile c.take.result c.args.now.0 (calls.Refresh c.args.home.address) c.in_ok-turn.turn c.ask_refresh.new.turn
    c.self.view_is c.take.ensures.value c.in_ok-turn.ensures.known c.self.invariant c.in_ok-turn.ensures.begins
    (λ t same part at shows. c.in_ok-ask_refresh.ensures t (held-here (known_to c.args.self.now).part t.known.part c.args.now.0 c.in_ok-turn.turn.now.0 c.args.home.address c.args.held part at c.requires.held) shows)
    c.add.ensures).goes_on
