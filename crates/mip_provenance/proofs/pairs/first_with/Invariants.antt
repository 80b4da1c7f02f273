use Rattle.std.proofs.Common.{◌≡◌, drop, take}
use Rattle.std.specs.Prelude.{map}
use Rattle.mip_provenance.specs.Sights.{sight}
use Rattle.mip_provenance.specs.Reached.{values}
use Rattle.mip_provenance.specs.Pairs.{first_with}
use Rattle.mip_provenance.specs.Seen.{front_of, gives_it}
use Rattle.mip_provenance.proofs.pairs.first_with.Given as goal

abbrev pub invariant-loop-entry : goal.invariant-loop-entry
invariant-loop-entry l =
    first_with (gives_it l.signed) (values l.by (map (sight l.front.history.now) (drop l.entry-index (take l.front.place l.front.history.now)))) l.home.0 ≡ first_with (gives_it l.signed) (values l.by (front_of l.front)) l.home.0
