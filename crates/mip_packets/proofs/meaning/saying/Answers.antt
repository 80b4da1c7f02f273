use Rattle.std.proofs.Common.{◌≡◌, false, sym, rules}
use Rattle.std.specs.Prelude.{slice_index}
use Rattle.mip_ipv6.specs.Packet.{packet as tree}
use Rattle.mip_packets.specs.Says.{is_telling}
use Rattle.mip_packets.proofs.Silences.{silent}
use Rattle.mip_packets.proofs.meaning.saying.Goals as goal

pub returns-then-not-is_telling : goal.returns-then-not-is_telling
returns-then-not-is_telling c =
    let other : is_telling (slice_index c.args.packet.now.body.now 2) ≡ false = search rules in
    sym (silent (tree c.args.packet.now) other)
