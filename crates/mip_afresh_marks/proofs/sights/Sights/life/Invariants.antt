use Rattle.std.proofs.Common.{◌≡◌, ◌≤◌, drop}
use Rattle.std.specs.Prelude.{fold, map}
use Rattle.mip_provenance.specs.Names.{lives, life_at}
use Rattle.mip_afresh_marks.specs.Sighting.{sight_seen, token_numbered, sights_in}
use Rattle.mip_afresh_marks.proofs.sights.Sights.life.Given as goal

abbrev pub invariant-loop-sight : goal.invariant-loop-sight
invariant-loop-sight l =
    (fold (lives l.node.0) l.life (map (sight_seen (token_numbered l.self.posts.items)) (drop l.sight-index l.self.seen.items)) ≡ life_at l.node.0 (sights_in l.self))
    × (l.life ≤ l.sight-index)
