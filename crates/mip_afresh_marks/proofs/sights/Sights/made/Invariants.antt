use Rattle.std.proofs.Common.{◌≡◌, drop}
use Rattle.std.specs.Prelude.{map}
use Rattle.mip_provenance.specs.Lists.{first_some}
use Rattle.mip_provenance.specs.Pairs.{made_with}
use Rattle.mip_afresh_marks.specs.Sighting.{sight_seen, token_numbered, sights_in}
use Rattle.mip_afresh_marks.proofs.sights.Sights.made.Given as goal

abbrev pub invariant-loop-sight : goal.invariant-loop-sight
invariant-loop-sight l =
    first_some (made_with l.by.0 l.k) (map (sight_seen (token_numbered l.self.posts.items)) (drop l.sight-index l.self.seen.items)) ≡ first_some (made_with l.by.0 l.k) (sights_in l.self)
