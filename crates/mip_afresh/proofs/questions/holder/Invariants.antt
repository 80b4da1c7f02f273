use Rattle.std.proofs.Common.{◌≡◌, drop}
use Rattle.mip_words.specs.Asked.{asked}
use Rattle.mip_history.specs.Questions.{holder_says, holder_in}
use Rattle.mip_afresh.proofs.questions.holder.Given as goal

abbrev pub invariant-loop-entry : goal.invariant-loop-entry
invariant-loop-entry l = asked (holder_says l.address.0) l.holder (drop l.entry-index l.past) ≡ holder_in l.past l.address.0
