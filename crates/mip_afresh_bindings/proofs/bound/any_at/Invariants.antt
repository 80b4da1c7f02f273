use Rattle.std.proofs.Common.{◌≡◌, drop, map}
use Rattle.std.specs.List.{list_any}
use Rattle.mip_binding.specs.Held.{stands_at}
use Rattle.mip_afresh_bindings.specs.Accepted.{binding_seen}
use Rattle.mip_afresh_bindings.proofs.bound.any_at.Given as goal

abbrev pub invariant-loop-binding : goal.invariant-loop-binding
invariant-loop-binding l =
    list_any (stands_at l.home.0 l.now.0 l.careof.0) (map binding_seen (drop l.binding-index l.live))
    ≡ list_any (stands_at l.home.0 l.now.0 l.careof.0) (map binding_seen l.live)
