use Rattle.std.proofs.Common.{◌≡◌, ◌++◌, ◌∷◌, [], drop}
use Rattle.mip_binding.specs.Rows.{find_by}
use Rattle.mip_bcache.specs.Seen.{number_of}
use Rattle.mip_bcache.specs.Table.{live_in}
use Rattle.mip_bcache.proofs.home.Home.under.Given as goal

abbrev pub invariant-loop-row : goal.invariant-loop-row
invariant-loop-row l =
    find_by number_of l.number (drop l.row-index l.self.others.items ++ l.self.last ∷ []) ≡ find_by number_of l.number (live_in l.self)
