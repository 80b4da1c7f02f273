use Rattle.std.proofs.Common.{arith}
use Rattle.mip_ipv6.specs.Packet.{Packet}
use Rattle.mip_ipv6.proofs.Packets.{Stands, read_stands}
use Rattle.mip_ipv6.proofs.reading.located.Goals as goal

pub overflow_sub-result : goal.overflow_sub-result
overflow_sub-result c =
    let p : Packet = record { head = c.in_ok-head.head; body = c.in_ok-head.body.now } in
    let s : Stands p.body c.args.bytes.now = read_stands p c.args.bytes.now c.in_ok-head.ensures.exact in
    omega (arith, s.long)

pub returns-clause-place : goal.returns-clause-place
returns-clause-place c =
    let p : Packet = record { head = c.in_ok-head.head; body = c.in_ok-head.body.now } in
    let s : Stands p.body c.args.bytes.now = read_stands p c.args.bytes.now c.in_ok-head.ensures.exact in
    (omega (arith, s.long), omega arith, s.there)
