-- Laws and invariants of Constants: only proofs stand on them.
use Rattle.std.specs.Prelude.{ℕ}

-- so many updates go to one peer within a second at most: for definitions outside this repository
abbrev pub max_update_rate : ℕ
max_update_rate = 3
