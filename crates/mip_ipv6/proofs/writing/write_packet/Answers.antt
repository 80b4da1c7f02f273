use Rattle.std.proofs.Common.{arith}
use Rattle.mip_ipv6.specs.Packet.{Packet}
use Rattle.mip_ipv6.proofs.Canonical.{written_spells}
use Rattle.mip_ipv6.proofs.writing.write_packet.Goals as goal

pub returns-clause-spelled : goal.returns-clause-spelled
returns-clause-spelled c =
    let p : Packet = record { head = c.args.head.now; body = c.args.body.now } in
    let e = c.in_ok-written.ensures in
    written_spells p c.in_ok-written.field-0 e.canonical c.requires e.range (omega arith)
