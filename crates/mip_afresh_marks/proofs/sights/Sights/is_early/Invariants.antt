use Rattle.std.proofs.Common.{◌≡◌, drop}
use Rattle.std.specs.Prelude.{map}
use Rattle.std.specs.List.{list_any}
use Rattle.std.specs.Str.{bytes_eq}
use Rattle.mip_provenance.specs.Lists.{along}
use Rattle.mip_provenance.specs.Causes.{early, is_early}
use Rattle.mip_afresh_marks.specs.Sighting.{sight_seen, token_numbered, sights_in}
use Rattle.mip_afresh_marks.specs.Searches.{HaveHeard, front_in}
use Rattle.mip_afresh_marks.proofs.sights.Sights.is_early.Given as goal

abbrev pub invariant-loop-sight : goal.invariant-loop-sight
invariant-loop-sight l = record {
  heard : HaveHeard l.hearers.heard l.token.0 (front_in l.self l.sight-index);
  rest : list_any (bytes_eq l.token.0) (along early (front_in l.self l.sight-index) (map (sight_seen (token_numbered l.self.posts.items)) (drop l.sight-index l.self.seen.items)))
      ≡ is_early (sights_in l.self) l.token.0;
}
