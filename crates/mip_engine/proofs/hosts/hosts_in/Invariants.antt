use Rattle.std.proofs.Common.{◌≡◌, take}
use Rattle.mip_history.specs.Setup.{hosts_from}
use Rattle.mip_engine.proofs.hosts.hosts_in.Given as goal

abbrev pub invariant-loop-d : goal.invariant-loop-d
invariant-loop-d l = l.hosts.items ≡ hosts_from l.ds 0 (take l.d-index l.ds)
