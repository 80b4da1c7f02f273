-- Laws and invariants of Claims: only proofs stand on them.
use Rattle.std.specs.Prelude.{ℕ, Bool, true, ◌==◌, Option, Some, None}

-- nobody else holds it
abbrev pub is_free_for : Option ℕ → ℕ → Bool
is_free_for None who = true
is_free_for (Some other) who = other == who
