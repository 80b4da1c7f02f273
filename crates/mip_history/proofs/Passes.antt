-- What a stretch of a schedule keeps.
use Rattle.std.proofs.Common.{◌≡◌, ℕ, ◌+◌, ◌∙◌}
use Rattle.mip_history.specs.Setup.{Setup}
use Rattle.mip_history.specs.Runs.{Run}
use Rattle.mip_history.specs.Questions.{moment_in, life_in}
use Rattle.mip_history.proofs.Runs.{IsRun, Goes}

-- time goes on by what it waits, and lives by what it restarts
pub record Passes (s : Setup) (before after : Run) (waits : ℕ) (again : ℕ → ℕ) : Type 0 where
  pub run : IsRun s after
  pub moment : moment_in s.start after.past ≡ moment_in s.start before.past + waits
  pub life : (n : ℕ) → life_in after.past n ≡ life_in before.past n + again n

-- no time passes afterwards, and nobody restarts
pub passes_before : (s : Setup) (a b c : Run) (waits : ℕ) (again : ℕ → ℕ) → Passes s a b waits again → Goes s b c → Passes s a c waits again
passes_before s a b c waits again p q = record {
  run = q.run;
  moment = q.moment ∙ p.moment;
  life = λ n. q.life n ∙ p.life n;
}
