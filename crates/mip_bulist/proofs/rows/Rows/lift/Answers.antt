use Rattle.std.proofs.lemmas.Grind.{common_steps}
use Rattle.std.proofs.Common.{arith, ◌≡◌, ◌≤◌, None, sym, subst, take, drop, ◌++◌, length}
use Rattle.mip_bulist.specs.Rows.{AreOfDifferentPeers, with_trial}
use Rattle.mip_bulist.proofs.RowLaws.{peers_kept}
use Rattle.mip_bulist.proofs.rows.Rows.lift.Goals as goal

pub invariant_of-self : goal.invariant_of-self
invariant_of-self c =
    let sound = c.self.invariant in
    let few = sound.few in
    let whole : take c.self.inside.list.len (c.take_out.new.rows ++ drop (length c.take_out.new.rows) c.self.inside.list.items) ≡ with_trial c.args.row None c.self.inside.list.items = grind (arith, common_steps) in
    let still : length (take c.self.inside.list.len (c.take_out.new.rows ++ drop (length c.take_out.new.rows) c.self.inside.list.items)) ≤ 16 = grind (arith, common_steps, few) in
    record { few = still; peers = subst AreOfDifferentPeers (sym whole) (peers_kept c.self.inside.list.items c.args.row None sound.peers); room = sound.room }
