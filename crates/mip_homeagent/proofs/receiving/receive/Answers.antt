use Rattle.std.proofs.Common.{sym, subst}
use Rattle.std.specs.Prelude.{Result}
use Rattle.mip_words.specs.declared.why.Why.{Why}
use Rattle.mip_ipv6.specs.declared.not_packet.NotPacket.{NotPacket}
use Rattle.mip_ipv6.specs.Packet.{Packet}
use Rattle.mip_rules_agent.specs.Calls.{claim_for}
use Rattle.mip_rules_agent.specs.Steps.{Drops}
use Rattle.mip_rules_agent.specs.Transitions.{noted}
use Rattle.mip_rules_agent.specs.Rules.{receives}
use Rattle.mip_homeagent.specs.Contexts.{handing_at, Follows}
use Rattle.mip_homeagent.proofs.receiving.receive.Goals as goal

pub returns-in-Err-clause-shows : goal.returns-in-Err-clause-shows
returns-in-Err-clause-shows g c =
    let d = c.args.context.now in
    let h = handing_at d (claim_for (g.P.Place.around c.args.place.now) d.bytes.now) in
    subst (λ (r : Result Packet NotPacket). Follows d c.dropped.result (receives h r)) (sym c.in-Err.ensures.exact)
    (subst (λ (w : Why). Follows d c.dropped.result (noted (Drops d.number w))) c.packet_why.ensures c.dropped.ensures.shows)
