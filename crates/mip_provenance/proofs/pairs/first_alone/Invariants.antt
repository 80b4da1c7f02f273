use Rattle.std.proofs.Common.{◌≡◌, drop, take}
use Rattle.std.specs.Prelude.{map}
use Rattle.mip_provenance.specs.Sights.{sight}
use Rattle.mip_provenance.specs.Reached.{values}
use Rattle.mip_provenance.specs.Pairs.{first_alone}
use Rattle.mip_provenance.specs.Seen.{front_of, gives_it}
use Rattle.mip_provenance.proofs.pairs.first_alone.Given as goal

abbrev pub invariant-loop-entry : goal.invariant-loop-entry
invariant-loop-entry l =
    first_alone (gives_it l.signed) (values l.by (map (sight l.front.history.now) (drop l.entry-index (take l.front.place l.front.history.now)))) ≡ first_alone (gives_it l.signed) (values l.by (front_of l.front))
