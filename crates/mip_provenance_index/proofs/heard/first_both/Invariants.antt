use Rattle.std.proofs.Common.{◌≡◌, drop}
use Rattle.mip_provenance.specs.Lists.{first_some}
use Rattle.mip_provenance.specs.Pairs.{first_with}
use Rattle.mip_provenance.specs.Seen.{gives_it}
use Rattle.mip_provenance_index.specs.Heard.{heard_by}
use Rattle.mip_provenance_index.proofs.heard.first_both.Given as goal

abbrev pub invariant-loop-arrival : goal.invariant-loop-arrival
invariant-loop-arrival l =
    first_some (first_with (gives_it l.signed) (heard_by l.by l.arrivals)) (heard_by l.by (drop l.arrival-index l.arrivals))
    ≡ first_some (first_with (gives_it l.signed) (heard_by l.by l.arrivals)) (heard_by l.by l.arrivals)
