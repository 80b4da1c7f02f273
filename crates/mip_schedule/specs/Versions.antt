-- The versions of a schedule's text, and what depends on them.
use Rattle.std.specs.Prelude.{ℕ, Bool, true, false, ◌==◌}

-- from version 2 on an update names the binding number that it asks for
abbrev pub is_numbered : ℕ → Bool
is_numbered version = version == 2

-- how many binding numbers there are, from 0 on, where updates name theirs and where they do not
abbrev pub numbers_in : Bool → ℕ
numbers_in true = 8
numbers_in false = 1

-- how many binding numbers a home has in a schedule of this version
abbrev pub numbers_of_version : ℕ → ℕ
numbers_of_version version = numbers_in (is_numbered version)
