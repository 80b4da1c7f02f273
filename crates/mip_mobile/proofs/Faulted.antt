-- What stands after a fault of a mobile's machine stands after a fault of the mobile.
use Rattle.std.proofs.Common.{◌≡◌, subst}
use Rattle.std.specs.Prelude.{IfSome}
use Rattle.mip_mobile.specs.declared.machine.Machine.{Machine}
use Rattle.mip_mobile.specs.declared.mobile.Mobile.{Mobile}
use Rattle.mip_mobile.specs.Stations.{machine_of}

pub still-faulted : {C W : Type 0} (K : Type 0) (self : Mobile C W) (before : Machine C W) → before ≡ machine_of self → IfSome before.fault (λ fault. K) → IfSome (machine_of self).fault (λ fault. K)
still-faulted {C} {W} K self before was f = subst (λ (m : Machine C W). IfSome m.fault (λ fault. K)) was f
