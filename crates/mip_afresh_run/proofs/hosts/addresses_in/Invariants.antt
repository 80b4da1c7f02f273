use Rattle.std.proofs.Common.{◌≡◌, take}
use Rattle.mip_history.specs.Setup.{addresses_in}
use Rattle.mip_afresh_run.proofs.hosts.addresses_in.Given as goal

abbrev pub invariant-loop-d : goal.invariant-loop-d
invariant-loop-d l = l.addresses.items ≡ addresses_in (take l.d-index l.ds)
