-- The bounds on lines, which are counted before a text is read.
use Rattle.std.specs.Prelude.{ℕ, ◌-◌, List, [], ◌∷◌, length, if◌then◌else◌, codes}
use Rattle.std.specs.Str.{bytes_eq}
use Rattle.mip_lines.specs.Cutting.{parts}

-- the line ends behind the first line `run`, of the parts that lie between line ends. The last part has none
unfoldable pub ends_behind_run : List (List ℕ) → ℕ
ends_behind_run [] = 0
ends_behind_run (line ∷ []) = 0
ends_behind_run (line ∷ next ∷ lines) = if bytes_eq line (codes "run") then length lines else ends_behind_run (next ∷ lines)

-- the line ends of a text
abbrev pub line_ends : List ℕ → ℕ
line_ends text = length (parts 10 text) - 1

abbrev pub event_lines : List ℕ → ℕ
event_lines text = ends_behind_run (parts 10 text)
