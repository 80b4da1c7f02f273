use Rattle.std.proofs.Common.{◌≡◌, drop}
use Rattle.mip_words.specs.Asked.{asked}
use Rattle.mip_history.specs.Questions.{listen_says, hears_in}
use Rattle.mip_afresh.proofs.questions.hears.Given as goal

abbrev pub invariant-loop-entry : goal.invariant-loop-entry
invariant-loop-entry l = asked (listen_says l.outsider l.link.0) l.hears (drop l.entry-index l.past) ≡ hears_in l.past l.outsider l.link.0
