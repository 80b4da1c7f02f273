use Rattle.std.proofs.Common.{◌≡◌, map, take}
use Rattle.mip_history.specs.Setup.{hosts_from}
use Rattle.mip_afresh.specs.Tellings.{host_seen}
use Rattle.mip_afresh_run.proofs.hosts.hosts_in.Given as goal

abbrev pub invariant-loop-d : goal.invariant-loop-d
invariant-loop-d l = map host_seen l.hosts.items ≡ hosts_from l.ds 0 (take l.d-index l.ds)
