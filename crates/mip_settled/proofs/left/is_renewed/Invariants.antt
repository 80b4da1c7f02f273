use Rattle.std.proofs.Common.{◌≡◌, drop}
use Rattle.mip_settled.specs.Acceptances.{is_renewed}
use Rattle.mip_settled.proofs.left.is_renewed.Given as goal

abbrev pub invariant-loop-entry : goal.invariant-loop-entry
invariant-loop-entry l = is_renewed l.node.0 l.home.0 l.number (drop l.entry-index l.entries) ≡ is_renewed l.node.0 l.home.0 l.number l.entries
