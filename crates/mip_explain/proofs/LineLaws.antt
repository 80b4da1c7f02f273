-- Lines that were appended piece by piece.
use Rattle.std.proofs.Common.{◌≡◌, ℕ, List, [], ◌∷◌, ◌++◌, sym, ap, ◌∙◌, append_assoc}
use Rattle.std.proofs.lemmas.List.{append-nil}
use Rattle.mip_lines.specs.Lines.{spaced, line_text}
use Rattle.mip_lines.proofs.LineLaws.{appended_line}

-- a line of a word and a field
pub pair_is : (out word field : List ℕ) → (((out ++ word) ++ 32 ∷ []) ++ field) ++ 10 ∷ [] ≡ out ++ line_text (word ∷ field ∷ [])
unfolding line_text
pair_is out word field = simp append_assoc

-- a line of a word and two fields
pub triple_is : (out word first second : List ℕ) → (((((out ++ word) ++ 32 ∷ []) ++ first) ++ 32 ∷ []) ++ second) ++ 10 ∷ [] ≡ out ++ line_text (word ∷ first ∷ second ∷ [])
triple_is out word first second =
    let front : ((out ++ word) ++ 32 ∷ []) ++ first ≡ (out ++ word) ++ spaced (first ∷ []) = append_assoc (out ++ word) (32 ∷ []) first ∙ ap (λ (t : List ℕ). (out ++ word) ++ t) (sym (append-nil (32 ∷ first))) in
    ap (λ (t : List ℕ). ((t ++ 32 ∷ []) ++ second) ++ 10 ∷ []) front ∙ appended_line out word (first ∷ []) second
