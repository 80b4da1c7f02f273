use Rattle.std.proofs.Common.{◌≡◌, drop}
use Rattle.mip_past.specs.Hearing.{router_of}
use Rattle.mip_past.proofs.hearing.router_of.Given as goal

abbrev pub invariant-loop-declaration : goal.invariant-loop-declaration
invariant-loop-declaration l = router_of (drop l.declaration-index l.declarations) l.address ≡ router_of l.declarations l.address
