use Rattle.std.proofs.Common.{◌≡◌, drop}
use Rattle.mip_provenance.specs.Lists.{first_some}
use Rattle.mip_provenance.specs.Reached.{values}
use Rattle.mip_provenance.specs.Pairs.{first_with}
use Rattle.mip_provenance.specs.Seen.{gives_it}
use Rattle.mip_afresh_marks.specs.Sighting.{seen_of}
use Rattle.mip_afresh_marks.proofs.sights.Sights.first_both.Given as goal

abbrev pub invariant-loop-sight : goal.invariant-loop-sight
invariant-loop-sight l =
    first_some (first_with (gives_it l.signed) (values l.by (seen_of l.self l.front))) (values l.by (seen_of l.self (drop l.sight-index l.front)))
    ≡ first_some (first_with (gives_it l.signed) (values l.by (seen_of l.self l.front))) (values l.by (seen_of l.self l.front))
