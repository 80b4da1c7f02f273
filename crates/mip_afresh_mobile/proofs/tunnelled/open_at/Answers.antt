use Rattle.std.proofs.Common.{◌≡◌, ◌-◌, ◌<◌, ◌≤◌, ◌^◌, ℕ, List, length, ap, arith}
use Rattle.std.specs.Prelude.{drop}
use Rattle.std.proofs.lemmas.List.{length-drop}
use Rattle.mip_ipv6.specs.Packet.{packet as tree}
use Rattle.mip_ipv6.proofs.Placed.{place_is}
use Rattle.mip_afresh_mobile.proofs.Received.{inner_reads, inner_plain}
use Rattle.mip_afresh_mobile.proofs.tunnelled.open_at.Goals as goal

-- what comes out of a tunnel was read from the body of the tunnel packet
pub invariant_of-take_inner : goal.invariant_of-take_inner
invariant_of-take_inner c =
    let outer = c.args.passed.now.packet in
    let bytes = outer.body.now in
    let p = c.in-Ok.packet in
    let at = c.in-Ok.ensures.place in
    let opens = c.in-Ok.ensures.exact in
    let small : length bytes ≤ 65535 = c.args.passed.now.short in
    let size : length p.body.now ≡ length (drop p.place bytes) = ap (λ (l : List ℕ). length l) at.2 in
    let rest : length (drop p.place bytes) ≡ length bytes - p.place = length-drop p.place bytes in
    let before : p.place < 2 ^ 32 - 1 = omega (arith, at.1, small) in
    let inside : length p.body.now ≤ 65535 = omega (arith, size, rest, small) in
    record {
      read = inner_reads c.args.agent (tree outer) (tree p) opens;
      placed = place_is p.place bytes p.body.now at.1 at.2;
      near = before;
      plain = inner_plain c.args.agent (tree outer) (tree p) opens;
      short = inside;
    }
