-- Laws and invariants of Text: only proofs stand on them.
use Rattle.std.specs.Prelude.{◌≡◌, ℕ, List, ◌++◌}

-- a line stands in a text
pub record StandsIn (line text : List ℕ) : Type 0 where
  pub front : List ℕ
  pub rest : List ℕ
  pub whole : text ≡ front ++ (line ++ rest)
