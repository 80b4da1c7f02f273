use Rattle.mip_rules_mobile.specs.HomeQuestions.{registered_agent}
use Rattle.mip_rules_mobile.specs.Doing.{solicits_from, solicits}
use Rattle.mip_afresh_mobile.proofs.Turned.{shows-seen, found, asked}
use Rattle.mip_afresh_mobile.proofs.sending.solicit.Goals as goal

pub returns : goal.returns
unfolding solicits
returns c = λ t shows.
    let turn = c.args.turn.now in
    let agent = registered_agent t.known t.now in
    let result = c.solicit_from.result in
    let new = c.solicit_from.new.turn in
    asked result new (λ standing. solicits_from standing agent t) c.standing-standing.result t.known.standing (c.standing-standing.ensures t.known (shows-seen turn t shows))
    (asked result new (λ o. solicits_from c.standing-standing.result o t) c.registered_agent-agent.result agent
    (found turn t (λ k now. registered_agent k now) c.registered_agent-agent.result c.registered_agent-agent.ensures shows)
    (c.solicit_from.ensures t shows))
