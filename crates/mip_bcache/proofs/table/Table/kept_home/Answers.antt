use Rattle.std.proofs.Common.{arith}
use Rattle.std.proofs.lemmas.Bool.Decides.{nat_tests}
use Rattle.mip_binding.proofs.RowLaws.{find-kept}
use Rattle.mip_bcache.specs.Table.{key_of, due_of, seen, homes_in}
use Rattle.mip_bcache.proofs.table.Table.kept_home.Goals as goal

pub returns-in_err-found : goal.returns-in_err-found
returns-in_err-found c = let e = find-kept key_of due_of c.args.now.0 c.args.home.0 (homes_in (seen c.args.self.now)) c.requires.sound.rises in grind (arith, nat_tests, e)

pub returns-then-now-found : goal.returns-then-now-found
returns-then-now-found c = let e = find-kept key_of due_of c.args.now.0 c.args.home.0 (homes_in (seen c.args.self.now)) c.requires.sound.rises in grind (arith, nat_tests, e)

pub returns-else-now-found : goal.returns-else-now-found
returns-else-now-found c = let e = find-kept key_of due_of c.args.now.0 c.args.home.0 (homes_in (seen c.args.self.now)) c.requires.sound.rises in grind (arith, nat_tests, e)
