-- What an audit is given: a schedule, a line `trace`, and the trace that is to be judged.
use Rattle.std.specs.Prelude.{◌≡◌, ℕ, List, [], ◌∷◌, ◌++◌, false, None, Some, option_map, codes, if◌then◌else◌}
use Rattle.std.specs.List.{list_any}
use Rattle.std.specs.Str.{bytes_eq}
use Rattle.std.specs.declared.option.Option.{Option}
use Rattle.mip_audit.specs.Lines.{lines_of, joined}

-- the line `trace`, with its end
abbrev pub trace_line : List ℕ
trace_line = codes "trace" ++ 10 ∷ []

-- a schedule that has this line first
abbrev pub behind : List ℕ → List ℕ × List ℕ → List ℕ × List ℕ
behind line p = (line ++ p.0, p.1)

-- what stands before the first line `trace`, and what stands behind it; none where there is no such line
unfoldable pub cut_lines : List (List ℕ) → Option (List ℕ × List ℕ)
cut_lines [] = None
cut_lines (line ∷ lines) = if bytes_eq line trace_line then Some ([], joined lines) else option_map (behind line) (cut_lines lines)

-- the schedule and the trace of a text
abbrev pub cut_text : List ℕ → Option (List ℕ × List ℕ)
cut_text text = cut_lines (lines_of text)

-- no line of the text is `trace`
abbrev pub HasNoTraceLine : List ℕ → Type 0
HasNoTraceLine text = list_any (λ line. bytes_eq line trace_line) (lines_of text) ≡ false
