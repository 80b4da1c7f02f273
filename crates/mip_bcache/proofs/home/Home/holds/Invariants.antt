use Rattle.std.proofs.Common.{◌≡◌, ◌++◌, ◌∷◌, [], drop}
use Rattle.std.specs.List.{list_any}
use Rattle.mip_bcache.specs.Seen.{stands_at}
use Rattle.mip_bcache.specs.Table.{live_in}
use Rattle.mip_bcache.proofs.home.Home.holds.Given as goal

abbrev pub invariant-loop-row : goal.invariant-loop-row
invariant-loop-row l =
    list_any (stands_at l.home.0 l.now.0 l.careof.0) (drop l.row-index l.self.others.items ++ l.self.last ∷ []) ≡ list_any (stands_at l.home.0 l.now.0 l.careof.0) (live_in l.self)
