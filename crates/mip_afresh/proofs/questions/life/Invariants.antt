use Rattle.std.proofs.Common.{◌≡◌, ◌≤◌, drop}
use Rattle.std.specs.Prelude.{fold}
use Rattle.mip_history.specs.Questions.{restarts, life_in}
use Rattle.mip_afresh.proofs.questions.life.Given as goal

abbrev pub invariant-loop-entry : goal.invariant-loop-entry
invariant-loop-entry l =
    (fold (restarts l.node.0) l.life (drop l.entry-index l.past) ≡ life_in l.past l.node.0)
    × (l.life ≤ l.entry-index)
