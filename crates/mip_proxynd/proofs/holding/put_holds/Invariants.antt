use Rattle.std.proofs.Common.{◌≡◌, ◌++◌}
use Rattle.mip_proxynd.specs.Text.{holds_upto}
use Rattle.mip_proxynd.proofs.holding.put_holds.Given as goal

abbrev pub invariant-loop-link : goal.invariant-loop-link
invariant-loop-link l = l.out ≡ l.fn.out ++ holds_upto l.ds l.claims l.link
