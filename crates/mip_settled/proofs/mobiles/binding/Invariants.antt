use Rattle.std.proofs.Common.{◌≡◌, drop}
use Rattle.std.specs.Prelude.{None}
use Rattle.mip_words.specs.Asked.{asked}
use Rattle.mip_history.specs.Told.{binding_told}
use Rattle.mip_settled.proofs.mobiles.binding.Given as goal

abbrev pub invariant-loop-entry : goal.invariant-loop-entry
invariant-loop-entry l = asked (binding_told l.node.0 l.peer) l.binding (drop l.entry-index l.history) ≡ asked (binding_told l.node.0 l.peer) None l.history
