use Rattle.std.proofs.Common.{ap, ◌∙◌}
use Rattle.std.specs.Prelude.{Option}
use Rattle.mip_words.specs.declared.address.Address.{Address}
use Rattle.mip_rules_mobile.specs.HomeQuestions.{agent_of}
use Rattle.mip_rules_mobile.specs.IcmpRules.{is_from_agent, learns, takes_prefix_reply}
use Rattle.mip_afresh_mobile.proofs.Turned.{found, asked}
use Rattle.mip_afresh_mobile.proofs.icmp.take_prefix_reply.Goals as goal

pub returns : goal.returns
unfolding takes_prefix_reply
returns c = λ t shows.
    let from = λ (agent : Option Address). is_from_agent c.args.shield agent in
    asked c.learn.result c.learn.new.turn (λ right. learns c.args.number right c.args.options.now.prefix t) c.is_from_agent.result (from (agent_of t.known t.now))
    (c.is_from_agent.ensures ∙ ap from (found c.args.turn.now t (λ k now. agent_of k now) c.agent-agent.result c.agent-agent.ensures shows))
    (c.learn.ensures t shows)
