use Rattle.std.proofs.Common.{◌≡◌, drop}
use Rattle.std.specs.Prelude.{fold, map}
use Rattle.std.specs.List.{filter_map}
use Rattle.mip_packets.specs.Says.{key_of}
use Rattle.mip_provenance.specs.Lists.{lesser}
use Rattle.mip_provenance.specs.Firsts.{number_of, carries_key, first_update}
use Rattle.mip_afresh_marks.specs.Sighting.{sight_seen, token_numbered, sights_in}
use Rattle.mip_afresh_marks.proofs.numbered.Numbered.first_update.Given as goal

abbrev pub invariant-loop-sight : goal.invariant-loop-sight
invariant-loop-sight l =
    fold (lesser (carries_key (sights_in l.self.sights.now) (key_of l.key))) l.best (filter_map number_of (map (sight_seen (token_numbered l.self.sights.now.posts.items)) (drop l.sight-index l.self.sights.now.seen.items)))
    ≡ first_update (sights_in l.self.sights.now) (key_of l.key)
