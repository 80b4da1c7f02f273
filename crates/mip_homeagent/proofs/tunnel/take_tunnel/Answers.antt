use Rattle.std.proofs.Common.{sym, subst}
use Rattle.std.specs.Prelude.{Result, OnOk}
use Rattle.mip_ipv6.specs.declared.not_packet.NotPacket.{NotPacket}
use Rattle.mip_ipv6.specs.Packet.{Packet, packet as tree}
use Rattle.mip_rules_agent.specs.Rules.{opens, takes_tunnel}
use Rattle.mip_homeagent.specs.Showing.{Shows}
use Rattle.mip_homeagent.specs.Contexts.{handing_at}
use Rattle.mip_homeagent.proofs.tunnel.take_tunnel.Goals as goal

pub returns-in-Ok : goal.returns-in-Ok
unfolding takes_tunnel
returns-in-Ok c = λ claim now known claiming t shows.
    subst (λ (r : Result Packet NotPacket). OnOk c.send_on.result (Shows now known claiming c.send_on.new.answers (opens (handing_at c.args.context.now claim) (tree c.args.outer.now) r t)))
    (sym c.in-Ok.ensures.exact) (c.send_on.ensures claim now known claiming t shows)
