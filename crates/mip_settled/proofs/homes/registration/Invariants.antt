use Rattle.std.proofs.Common.{◌≡◌, drop}
use Rattle.mip_words.specs.Asked.{asked}
use Rattle.mip_history.specs.Registered.{registration_says, last_registration}
use Rattle.mip_settled.proofs.homes.registration.Given as goal

abbrev pub invariant-loop-entry : goal.invariant-loop-entry
invariant-loop-entry l = asked (registration_says l.agent l.home) l.registration (drop l.entry-index l.history) ≡ last_registration l.history l.agent l.home
