-- Where the reading of a text stands.
use Rattle.std.specs.Prelude.{◌≡◌, ℕ, ◌+◌, ◌<◌, List, ◌∷◌, length}
use Rattle.mip_lines.specs.Cutting.{rows_of}
use Rattle.mip_drafts.specs.declared.cursor.Cursor.{Cursor}

-- the reading goes on behind a line of these fields
pub record IsNext (at : Cursor) (row : List (List ℕ)) (next : Cursor) : Type 0 where
  pub rows : rows_of at.rest.now ≡ row ∷ rows_of next.rest.now
  pub line : next.line ≡ at.line + 1
  pub shorter : length next.rest.now < length at.rest.now
