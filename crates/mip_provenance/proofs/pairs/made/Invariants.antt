use Rattle.std.proofs.Common.{◌≡◌, drop}
use Rattle.std.specs.Prelude.{map}
use Rattle.mip_provenance.specs.Lists.{first_some}
use Rattle.mip_provenance.specs.Sights.{sight}
use Rattle.mip_provenance.specs.Pairs.{made_with}
use Rattle.mip_provenance.proofs.pairs.made.Given as goal

abbrev pub invariant-loop-entry : goal.invariant-loop-entry
invariant-loop-entry l =
    first_some (made_with l.by.0 l.k) (map (sight l.history) (drop l.entry-index l.history)) ≡ first_some (made_with l.by.0 l.k) (map (sight l.history) l.history)
