use Rattle.std.proofs.Common.{drop}
use Rattle.std.specs.Prelude.{map}
use Rattle.mip_provenance.specs.Lists.{along}
use Rattle.mip_provenance.specs.Names.{naming}
use Rattle.mip_provenance.specs.Seen.{claim_of}
use Rattle.mip_afresh_marks.specs.Sighting.{sight_seen, token_numbered, sights_in}
use Rattle.mip_afresh_marks.specs.Searches.{AreKnown, front_in, named_in}
use Rattle.mip_afresh_marks.proofs.Walks.{IsNamed}
use Rattle.mip_afresh_marks.proofs.sights.Sights.named.Given as goal

abbrev pub invariant-loop-sight : goal.invariant-loop-sight
invariant-loop-sight l = record {
  known : AreKnown l.lives (front_in l.self l.sight-index);
  named : IsNamed (claim_of l.claim) l.named (along naming (front_in l.self l.sight-index) (map (sight_seen (token_numbered l.self.posts.items)) (drop l.sight-index l.self.seen.items)))
      (named_in (sights_in l.self) (claim_of l.claim));
}
