use Rattle.std.proofs.Common.{◌≡◌, ℕ, set, ap, ◌∙◌, arith}
use Rattle.mip_ipv6.specs.Reading.{packet_of}
use Rattle.mip_ipv6.specs.Tunnel.{encapsulated}
use Rattle.mip_ipv6.proofs.Tunnels.{lowered_behind, packet_of_encapsulated}
use Rattle.mip_ipv6.proofs.tunnel_entry.wrapped.Goals as goal

pub returns-clause-back : goal.returns-clause-back
returns-clause-back c =
    let packet = c.args.packet.now in
    let is : c.set.new.self ≡ encapsulated c.args.entry c.args.exit packet =
    c.set.ensures
    ∙ ap (λ (n : ℕ). set c.in_ok-bytes.bytes 47 n) c.saturating_sub.ensures
    ∙ lowered_behind c.args.entry c.args.exit packet c.in_ok-bytes.bytes c.in_ok-bytes.ensures.bytes in
    ap packet_of is ∙ packet_of_encapsulated c.args.entry c.args.exit packet c.around.ensures.range.0 c.around.ensures.range.1 (omega (arith, c.requires.fits))
