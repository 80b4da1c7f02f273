use Rattle.std.proofs.Common.{◌≡◌, ◌++◌, drop, map}
use Rattle.std.specs.List.{flat_map}
use Rattle.mip_binding.specs.Homes.{home_after, shown_rows}
use Rattle.mip_afresh_bindings.specs.Accepted.{acceptance_seen}
use Rattle.mip_afresh_bindings.specs.Showing.{row_seen, rows_of}
use Rattle.mip_afresh_bindings.proofs.shown.shown_rows.Given as goal

abbrev pub invariant-loop-home : goal.invariant-loop-home
invariant-loop-home l =
    map row_seen l.rows.items ++ flat_map (λ h. rows_of l.now.0 (home_after h (map acceptance_seen l.accepted))) (map (λ h. h.0) (drop l.home-index l.home-items))
    ≡ shown_rows (map acceptance_seen l.accepted) l.now.0
