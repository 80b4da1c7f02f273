-- A source or a sink in memory that fails at chosen calls.
use Rattle.std.specs.Prelude.{ℕ, List}

-- what it stands for
pub record Failing : Type 0 where
  -- what a source has left, or what a sink holds
  pub bytes : List ℕ
  pub faults : ℕ
  -- how many calls were made
  pub calls : ℕ
  -- the numbers, from 1, of the calls that are to fail
  pub fails : List ℕ
