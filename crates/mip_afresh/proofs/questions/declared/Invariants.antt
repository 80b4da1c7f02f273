use Rattle.std.proofs.Common.{◌≡◌, drop}
use Rattle.std.specs.Prelude.{fold}
use Rattle.mip_words.specs.Last.{or_else}
use Rattle.mip_history.specs.Questions.{claims, declared_in}
use Rattle.mip_afresh.proofs.questions.declared.Given as goal

abbrev pub invariant-loop-entry : goal.invariant-loop-entry
invariant-loop-entry l = fold (λ o e. or_else o (claims l.who e)) l.first (drop l.entry-index l.past) ≡ declared_in l.past l.who
