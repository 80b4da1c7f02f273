use Rattle.std.proofs.Common.{◌≡◌, drop}
use Rattle.mip_rules_mobile.specs.HomeQuestions.{next_to}
use Rattle.mip_mobile_state.proofs.numberings.next_of.Given as goal

abbrev pub invariant-loop-numbering : goal.invariant-loop-numbering
invariant-loop-numbering l = next_to l.agent (drop l.numbering-index l.list) ≡ next_to l.agent l.fn.list
