-- A sink that keeps bytes back.
use Rattle.std.specs.Prelude.{ℕ, List}
use Rattle.std.specs.declared.option.Option.{Option}
use Rattle.std.specs.Io.KnownBytes.{append_known}

-- what it put on, where that is told, what waits to be put on, and how many calls failed
pub record Buffer : Type 0 where
  pub put_on : Option (List ℕ)
  pub waiting : List ℕ
  pub faults : ℕ

-- it holds what it put on, and behind that what waits
abbrev pub held_by : Buffer → Option (List ℕ)
held_by b = append_known b.put_on b.waiting
