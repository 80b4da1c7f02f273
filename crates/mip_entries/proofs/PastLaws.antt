-- Moments of a past whose moments do not fall.
use Rattle.std.proofs.Common.{ℕ, ◌≤◌, List, [], ◌∷◌, ◌++◌, arith}
use Rattle.std.specs.List.{AllByRecursion}
use Rattle.mip_entries.specs.Stamped.{Stamped, stamped}
use Rattle.mip_entries.specs.Pasts.{RisesFrom, last_at}

module _ {S : Type 0} where
  pub last_early : (now from : ℕ) (past : List (Stamped S)) → from ≤ now → AllByRecursion (λ s. s.at ≤ now) past → last_at from past ≤ now
  last_early now from [] early all = early
  last_early now from (s ∷ past) early all = last_early now s.at past all.0 all.1

  -- steps of one moment do not fall
  pub stamped-rises : (from at : ℕ) (steps : List S) → from ≤ at → RisesFrom from (stamped at steps)
  stamped-rises from at [] early = tt
  stamped-rises from at (step ∷ steps) early = (early, stamped-rises at at steps (omega arith))

  -- a past goes on from its last moment
  pub rises-append : (from : ℕ) (past more : List (Stamped S)) → RisesFrom from past → RisesFrom (last_at from past) more → RisesFrom from (past ++ more)
  rises-append from [] more first second = second
  rises-append from (s ∷ past) more first second = (first.0, rises-append s.at past more first.1 second)

  pub rises-front : (from : ℕ) (past more : List (Stamped S)) → RisesFrom from (past ++ more) → RisesFrom from past
  rises-front from [] more rises = tt
  rises-front from (s ∷ past) more rises = (rises.0, rises-front s.at past more rises.1)

  -- a transition at a moment that no step of the past is behind
  pub rises_transition : (from at : ℕ) (past : List (Stamped S)) (steps : List S) → from ≤ at → AllByRecursion (λ s. s.at ≤ at) past → RisesFrom from past → RisesFrom from (past ++ stamped at steps)
  rises_transition from at past steps early all rises =
      rises-append from past (stamped at steps) rises (stamped-rises (last_at from past) at steps (last_early at from past early all))
