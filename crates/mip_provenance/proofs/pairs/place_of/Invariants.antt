use Rattle.std.proofs.Common.{◌≡◌, ◌++◌, drop}
use Rattle.std.specs.Prelude.{map}
use Rattle.mip_provenance.specs.Lists.{until}
use Rattle.mip_provenance.specs.Sights.{sight}
use Rattle.mip_provenance.specs.Firsts.{is_post}
use Rattle.mip_provenance.specs.Seen.{front_at}
use Rattle.mip_provenance.proofs.pairs.place_of.Given as goal

abbrev pub invariant-loop-place : goal.invariant-loop-place
invariant-loop-place l =
    front_at l.history l.place ++ until (is_post l.k) (map (sight l.history) (drop l.place l.history)) ≡ until (is_post l.k) (map (sight l.history) l.history)
