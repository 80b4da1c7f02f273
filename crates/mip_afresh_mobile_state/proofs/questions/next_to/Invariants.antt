use Rattle.std.proofs.Common.{◌≡◌, drop}
use Rattle.mip_rules_mobile.specs.HomeQuestions.{next_to}
use Rattle.mip_afresh_mobile_state.proofs.questions.next_to.Given as goal

abbrev pub invariant-loop-numbering : goal.invariant-loop-numbering
invariant-loop-numbering l = next_to l.agent (drop l.numbering-index l.numberings) ≡ next_to l.agent l.numberings
