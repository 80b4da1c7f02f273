use Rattle.mip_ipv6.proofs.Tunnels.{opens_is}
use Rattle.mip_ipv6.proofs.tunnel_entry.encapsulate.Goals as goal

pub returns-clause-opens : goal.returns-clause-opens
returns-clause-opens c = λ p outer read found.
    opens_is c.args.entry c.args.exit c.args.packet.now c.in_ok-wrapped.field-0 p outer c.in_ok-wrapped.ensures.back read found
