use Rattle.std.proofs.Common.{◌≡◌, drop, map}
use Rattle.mip_binding.specs.Rows.{find_by}
use Rattle.mip_binding.specs.Homes.{number_key}
use Rattle.mip_afresh_bindings.specs.Accepted.{binding_seen}
use Rattle.mip_afresh_bindings.proofs.shown.under.Given as goal

abbrev pub invariant-loop-binding : goal.invariant-loop-binding
invariant-loop-binding l =
    find_by number_key l.number (map binding_seen (drop l.binding-index l.live)) ≡ find_by number_key l.number (map binding_seen l.live)
