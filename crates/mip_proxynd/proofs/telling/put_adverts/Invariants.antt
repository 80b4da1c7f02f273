use Rattle.std.proofs.Common.{◌≡◌, ◌++◌, take}
use Rattle.mip_proxynd.specs.Text.{adverts}
use Rattle.mip_proxynd.proofs.telling.put_adverts.Given as goal

abbrev pub invariant-loop-entry : goal.invariant-loop-entry
invariant-loop-entry l = l.out ≡ l.fn.out ++ adverts l.ds (take l.entry-index l.entries)
