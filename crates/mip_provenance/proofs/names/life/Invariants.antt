use Rattle.std.proofs.Common.{◌≡◌, ◌≤◌, drop, take}
use Rattle.std.specs.Prelude.{map, fold}
use Rattle.mip_provenance.specs.Sights.{sight}
use Rattle.mip_provenance.specs.Names.{lives, life_at}
use Rattle.mip_provenance.specs.Seen.{front_of}
use Rattle.mip_provenance.proofs.names.life.Given as goal

abbrev pub invariant-loop-entry : goal.invariant-loop-entry
invariant-loop-entry l =
    (fold (lives l.node.0) l.count (map (sight l.front.history.now) (drop l.entry-index (take l.front.place l.front.history.now))) ≡ life_at l.node.0 (front_of l.front))
    × (l.count ≤ l.entry-index)
