use Rattle.std.proofs.Common.{arith}
use Rattle.mip_bcache.proofs.table.shelve.Goals as goal

pub returns-clause-shelved : goal.returns-clause-shelved
returns-clause-shelved c =
    let same = c.clear.ensures.capacity in
    record { rows = c.clear.new.self; whole = c.in-Ok.ensures.items; empty = c.clear.ensures.items; room = omega arith }
