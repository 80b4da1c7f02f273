use Rattle.std.proofs.Common.{◌≡◌, ◌++◌, map}
use Rattle.mip_binding.specs.Homes.{shown_home}
use Rattle.mip_afresh_bindings.specs.Homes.{home_seen}
use Rattle.mip_afresh_bindings.specs.Showing.{row_seen}
use Rattle.mip_afresh_bindings.proofs.ShownLaws.{rows_from}
use Rattle.mip_afresh_bindings.proofs.shown.show_home.Given as goal

abbrev pub invariant-loop-number : goal.invariant-loop-number
invariant-loop-number l =
    map row_seen l.rows.items ++ rows_from (home_seen l.kept) l.number ≡ map row_seen l.fn.rows.items ++ shown_home (home_seen l.kept)
