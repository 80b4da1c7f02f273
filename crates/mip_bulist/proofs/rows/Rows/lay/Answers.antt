use Rattle.std.proofs.lemmas.Grind.{common_steps}
use Rattle.std.proofs.Common.{arith, ◌≡◌, ◌≤◌, sym, subst, take, drop, ◌++◌, length}
use Rattle.mip_bulist.specs.Rows.{AreOfDifferentPeers, rows_laid}
use Rattle.mip_bulist.proofs.RowLaws.{peers_laid}
use Rattle.mip_bulist.proofs.rows.Rows.lay.Goals as goal

pub invariant_of-self : goal.invariant_of-self
invariant_of-self c =
    let sound = c.self.invariant in
    let few = sound.few in
    let whole : take c.self.inside.list.len (c.put_in.new.rows ++ drop (length c.put_in.new.rows) c.self.inside.list.items) ≡ rows_laid c.args.row c.args.trial c.self.inside.list.items = grind (arith, common_steps) in
    let still : length (take c.self.inside.list.len (c.put_in.new.rows ++ drop (length c.put_in.new.rows) c.self.inside.list.items)) ≤ 16 = grind (arith, common_steps, few) in
    record { few = still; peers = subst AreOfDifferentPeers (sym whole) (peers_laid c.self.inside.list.items c.args.row c.args.trial sound.peers); room = sound.room }
