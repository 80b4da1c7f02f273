-- The line of a row, written piece by piece.
use Rattle.std.proofs.Common.{◌≡◌, ℕ, List, [], ◌∷◌, ◌++◌, append_assoc}
use Rattle.std.proofs.lemmas.Grind.{flat_map-append}
use Rattle.mip_lines.specs.Lines.{spaced, line_text}

pub row_line : (o w : List ℕ) (fs gs : List (List ℕ)) → (((o ++ w) ++ spaced fs) ++ spaced gs) ++ 10 ∷ [] ≡ o ++ line_text (w ∷ (fs ++ gs))
unfolding line_text
row_line o w fs gs =
    let s : spaced (fs ++ gs) ≡ spaced fs ++ spaced gs = flat_map-append (λ f. 32 ∷ f) fs gs in
    rw s (simp append_assoc)
