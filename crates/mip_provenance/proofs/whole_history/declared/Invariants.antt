use Rattle.std.proofs.Common.{◌≡◌, drop}
use Rattle.mip_provenance.specs.Lists.{first_some}
use Rattle.mip_provenance.specs.Entries.{claims, declared_in}
use Rattle.mip_provenance.proofs.whole_history.declared.Given as goal

abbrev pub invariant-loop-entry : goal.invariant-loop-entry
invariant-loop-entry l = first_some (claims l.node.0) (drop l.entry-index l.history) ≡ declared_in l.history l.node.0
