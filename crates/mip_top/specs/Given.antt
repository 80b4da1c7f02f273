-- How much of the output may wait, by the first word that the program was started with.
use Rattle.std.specs.Prelude.{ℕ, List, Bool, ◌||◌, Some, None, codes, if◌then◌else◌}
use Rattle.std.specs.Str.{bytes_eq}
use Rattle.std.specs.declared.option.Option.{Option}

-- a node or a hub is run, as the first word says
abbrev pub is_live : List ℕ → Bool
is_live word = bytes_eq word (codes "node") || bytes_eq word (codes "hub")

-- how many bytes of the output may wait: none where one of these is run, so that each line shows at once
abbrev pub room_by : Option (List ℕ) → ℕ
room_by None = 65536
room_by (Some word) = if is_live word then 0 else 65536
