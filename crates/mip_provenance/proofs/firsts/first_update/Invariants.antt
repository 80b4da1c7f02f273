use Rattle.std.proofs.Common.{◌≡◌, drop}
use Rattle.std.specs.Prelude.{map, fold}
use Rattle.std.specs.List.{filter_map}
use Rattle.mip_packets.specs.Says.{key_of}
use Rattle.mip_provenance.specs.Lists.{lesser}
use Rattle.mip_provenance.specs.Sights.{sight, sights}
use Rattle.mip_provenance.specs.Firsts.{number_of, carries_key, first_update}
use Rattle.mip_provenance.proofs.firsts.first_update.Given as goal

abbrev pub invariant-loop-entry : goal.invariant-loop-entry
invariant-loop-entry l =
    fold (lesser (carries_key (sights l.history) (key_of l.key))) l.best (filter_map number_of (map (sight l.history) (drop l.entry-index l.history)))
    ≡ first_update (sights l.history) (key_of l.key)
