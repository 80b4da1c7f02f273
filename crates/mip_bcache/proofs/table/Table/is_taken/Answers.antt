use Rattle.std.proofs.Common.{arith}
use Rattle.mip_bcache.specs.Table.{seen}
use Rattle.mip_bcache.proofs.Closing.{taken_few, taken_none, taken_first}
use Rattle.mip_bcache.proofs.table.Table.is_taken.Goals as goal

pub returns-then-len-self : goal.returns-then-len-self
returns-then-len-self c =
    let t = seen c.args.self.now in
    let counted = c.len.ensures in
    taken_few c.args.now.0 t.room t.chain.items t.homes c.requires.loose c.requires.sound.room (omega arith)

pub returns-in-Some : goal.returns-in-Some
returns-in-Some c =
    let t = seen c.args.self.now in
    let counted = c.len.ensures in
    taken_first c.args.now.0 t.room c.in-Some.due.0 t.chain.items t.homes c.requires.loose c.requires.sound.room (omega arith) c.in-Some.ensures.first

pub returns-in-None : goal.returns-in-None
returns-in-None c =
    let t = seen c.args.self.now in
    let counted = c.len.ensures in
    taken_none c.args.now.0 t.room t.chain.items t.homes c.requires.loose c.requires.sound.room (omega arith) c.in-None.ensures.first
