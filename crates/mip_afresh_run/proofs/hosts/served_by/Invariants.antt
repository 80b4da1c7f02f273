use Rattle.std.proofs.Common.{◌≡◌, take}
use Rattle.mip_history.specs.Setup.{served_by}
use Rattle.mip_afresh_run.proofs.hosts.served_by.Given as goal

abbrev pub invariant-loop-d : goal.invariant-loop-d
invariant-loop-d l = l.serves.items ≡ served_by l.addresses l.n (take l.d-index l.ds)
