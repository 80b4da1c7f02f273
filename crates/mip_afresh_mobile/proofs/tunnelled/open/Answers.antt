use Rattle.mip_ipv6.specs.Packet.{packet as tree}
use Rattle.mip_rules_mobile.specs.HomeQuestions.{agent_of}
use Rattle.mip_rules_mobile.specs.ReceivingRules.{opens_from, opens}
use Rattle.mip_afresh_mobile.proofs.Turned.{found, asked}
use Rattle.mip_afresh_mobile.proofs.tunnelled.open.Goals as goal

pub returns : goal.returns
unfolding opens
returns c = λ t are shows.
    let arrival = c.args.arrival.now in
    asked c.open_from.result c.open_from.new.turn (λ agent. opens_from agent arrival.number arrival.shield (tree c.args.passed.now.packet) t) c.agent-agent.result (agent_of t.known t.now)
    (found c.args.turn.now t (λ k now. agent_of k now) c.agent-agent.result c.agent-agent.ensures shows)
    (c.open_from.ensures t are shows)
