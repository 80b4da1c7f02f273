use Rattle.std.proofs.Common.{arith}
use Rattle.mip_bulist.proofs.RowLaws.{peers_with}
use Rattle.mip_bulist.proofs.rows.Rows.give.Goals as goal

pub invariant_of-self : goal.invariant_of-self
invariant_of-self c =
    let sound = c.self.invariant in
    record {
      few = c.find_or_make.ensures.few;
      peers = rw c.find_or_make.ensures.rows (peers_with c.self.inside.list.items c.args.peer sound.peers);
      room = omega (arith, c.find_or_make.ensures.room, sound.room);
    }
