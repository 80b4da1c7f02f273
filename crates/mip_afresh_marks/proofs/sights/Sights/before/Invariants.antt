use Rattle.std.proofs.Common.{◌≡◌, ◌++◌, drop}
use Rattle.std.specs.Prelude.{map}
use Rattle.mip_provenance.specs.Lists.{until}
use Rattle.mip_provenance.specs.Firsts.{is_post}
use Rattle.mip_afresh_marks.specs.Sighting.{sight_seen, token_numbered, sights_in}
use Rattle.mip_afresh_marks.specs.Searches.{front_in}
use Rattle.mip_afresh_marks.proofs.sights.Sights.before.Given as goal

abbrev pub invariant-loop-place : goal.invariant-loop-place
invariant-loop-place l =
    front_in l.self l.place ++ until (is_post l.k) (map (sight_seen (token_numbered l.self.posts.items)) (drop l.place l.self.seen.items)) ≡ until (is_post l.k) (sights_in l.self)
