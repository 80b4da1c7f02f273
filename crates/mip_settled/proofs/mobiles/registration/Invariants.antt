use Rattle.std.proofs.Common.{◌≡◌, drop}
use Rattle.std.specs.Prelude.{None}
use Rattle.mip_words.specs.Asked.{asked}
use Rattle.mip_history.specs.Told.{registration_told}
use Rattle.mip_settled.proofs.mobiles.registration.Given as goal

abbrev pub invariant-loop-entry : goal.invariant-loop-entry
invariant-loop-entry l = asked (registration_told l.node.0) l.registration (drop l.entry-index l.history) ≡ asked (registration_told l.node.0) None l.history
