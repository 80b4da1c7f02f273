use Rattle.std.proofs.Common.{◌≡◌, drop, map}
use Rattle.std.specs.Prelude.{fold, option_map}
use Rattle.mip_binding.specs.Homes.{home_step, home_after}
use Rattle.mip_afresh_bindings.specs.Accepted.{acceptance_seen}
use Rattle.mip_afresh_bindings.specs.Homes.{home_seen}
use Rattle.mip_afresh_bindings.proofs.home.home_after.Given as goal

abbrev pub invariant-loop-one : goal.invariant-loop-one
invariant-loop-one l =
    fold (home_step l.home.0) (option_map home_seen l.kept) (map acceptance_seen (drop l.one-index l.accepted)) ≡ home_after l.home.0 (map acceptance_seen l.accepted)
