-- A history of which a front was given away.
use Rattle.std.specs.Prelude.{List, [], ◌∷◌, ◌++◌}
use Rattle.mip_entries.specs.declared.entry.Entry.{Entry}

pub record ChronicleSeen : Type 0 where
  -- the entries that were given away
  pub told : List Entry
  -- those behind them
  pub fresh : List Entry

abbrev pub past_of : ChronicleSeen → List Entry
past_of c = c.told ++ c.fresh

abbrev pub with_entry : Entry → ChronicleSeen → ChronicleSeen
with_entry entry c = record c { fresh = c.fresh ++ entry ∷ [] }

abbrev pub all_told : ChronicleSeen → ChronicleSeen
all_told c = record { told = past_of c; fresh = [] }

-- pieces of a history, one behind the other
abbrev pub joined : List (List Entry) → List Entry
joined [] = []
joined (piece ∷ pieces) = piece ++ joined pieces
