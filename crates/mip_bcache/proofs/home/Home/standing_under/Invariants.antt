use Rattle.std.proofs.Common.{◌≡◌, drop, option_copied}
use Rattle.mip_words.specs.Last.{or_else, last_where}
use Rattle.mip_bcache.specs.Seen.{stands_under}
use Rattle.mip_bcache.proofs.home.Home.standing_under.Given as goal

abbrev pub invariant-loop-row : goal.invariant-loop-row
invariant-loop-row l =
    or_else (last_where (stands_under l.home.0 l.number l.now.0) (drop l.row-index l.self.others.items)) (option_copied l.found) ≡ last_where (stands_under l.home.0 l.number l.now.0) l.self.others.items
