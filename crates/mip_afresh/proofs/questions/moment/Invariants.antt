use Rattle.std.proofs.Common.{◌≡◌, drop}
use Rattle.mip_words.specs.Asked.{asked}
use Rattle.mip_history.specs.Questions.{moment_says, moment_in}
use Rattle.mip_afresh.proofs.questions.moment.Given as goal

abbrev pub invariant-loop-entry : goal.invariant-loop-entry
invariant-loop-entry l = asked moment_says l.moment.0 (drop l.entry-index l.past) ≡ moment_in l.fn.start.0 l.past
