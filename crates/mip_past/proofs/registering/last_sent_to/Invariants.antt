use Rattle.std.proofs.Common.{◌≡◌, drop}
use Rattle.mip_words.specs.Asked.{asked}
use Rattle.mip_past.specs.Registering.{sent_to, last_sent_to}
use Rattle.mip_past.proofs.registering.last_sent_to.Given as goal

abbrev pub invariant-loop-entry : goal.invariant-loop-entry
invariant-loop-entry l = asked (sent_to l.mobile.0) l.agent (drop l.entry-index l.entries) ≡ last_sent_to l.entries l.mobile.0
