use Rattle.std.proofs.Common.{arith}
use Rattle.std.proofs.lemmas.Bool.Decides.{nat_tests}
use Rattle.mip_links.proofs.NetLaws.{first_from-clear}
use Rattle.mip_links.proofs.net.Net.lowest.Goals as goal

pub returns-then-self-len : goal.returns-then-self-len
returns-then-self-len c = let first = first_from-clear c.self.inside.flying.items 0 c.self.inside.low c.self.invariant.lowest in grind (arith, nat_tests, first)

pub returns-else-self-len : goal.returns-else-self-len
returns-else-self-len c = let first = first_from-clear c.self.inside.flying.items 0 c.self.inside.low c.self.invariant.lowest in grind (arith, nat_tests, first)
