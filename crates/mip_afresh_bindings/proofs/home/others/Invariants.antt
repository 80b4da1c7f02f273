use Rattle.std.proofs.Common.{◌≡◌, ◌++◌, drop, map}
use Rattle.mip_binding.specs.Homes.{number_key}
use Rattle.mip_binding.specs.Rows.{others_by}
use Rattle.mip_afresh_bindings.specs.Accepted.{binding_seen}
use Rattle.mip_afresh_bindings.proofs.home.others.Given as goal

abbrev pub invariant-loop-one : goal.invariant-loop-one
invariant-loop-one l =
    map binding_seen l.others.items ++ others_by number_key l.number (map binding_seen (drop l.one-index l.live))
    ≡ others_by number_key l.number (map binding_seen l.live)
