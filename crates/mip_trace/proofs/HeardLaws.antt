-- The line of what was heard, put field by field.
use Rattle.std.proofs.Common.{◌≡◌, ℕ, List, [], ◌∷◌, ◌++◌, append_assoc, codes}
use Rattle.mip_lines.specs.Lines.{line_text}

pub heard_line : (o number name : List ℕ) → ((((o ++ codes "heard ") ++ number) ++ 32 ∷ []) ++ name) ++ 10 ∷ [] ≡ o ++ line_text (codes "heard" ∷ number ∷ name ∷ [])
unfolding line_text
heard_line o number name = simp append_assoc
