-- What a text is read as: the configuration of a hub, or its first bad line and why.
use Rattle.std.specs.Prelude.{ℕ, List, [], ◌∷◌, ◌++◌, length, Bool, false, ◌==◌, nat_le, if◌then◌else◌, Result, Ok, Err}
use Rattle.std.specs.List.{list_any}
use Rattle.mip_words.specs.Steps.{◌>>=◌}
use Rattle.mip_lines.specs.Cutting.{rows_of}
use Rattle.mip_symbols.specs.declared.reason.Reason.{Reason}
use Rattle.mip_symbols.specs.declared.reason.Reason.TheVariants as reasons
use Rattle.mip_schedule.specs.Faults.{Wrong}
use Rattle.mip_schedule.specs.Reading.{version_line}
use Rattle.mip_drafts.specs.Walk.{walk}
use Rattle.mip_config.specs.Reading.{port_line}
use Rattle.mip_hub.specs.Rows.{line_fields}
use Rattle.mip_hub.specs.declared.hub_line.HubLine.{HubLine}
use Rattle.mip_hub.specs.declared.hub_line.HubLine.TheVariants.{Copies}

-- how often the datagram of this turn is sent on
abbrev pub is_copies : (turn : ℕ) → HubLine → Bool
is_copies turn (Copies when count) = when == turn
is_copies turn _ = false

-- the copies of this line's turn are told before
abbrev pub is_told : List HubLine → HubLine → Bool
is_told lines (Copies turn count) = list_any (is_copies turn) lines
is_told lines _ = false

-- a line after these
unfoldable pub judged : List HubLine → HubLine → Result (List HubLine) Reason
judged lines line =
    if nat_le 1000 (length lines) then Err reasons.Limit
    else if is_told lines line then Err reasons.Clash
    else Ok (lines ++ line ∷ [])

unfoldable pub line_onto : List HubLine → List (List ℕ) → Result (List HubLine) Reason
line_onto lines row = line_fields row >>= judged lines

pub record Content : Type 0 where
  pub port : ℕ
  pub lines : List HubLine

-- what a text is read as
unfoldable pub reading : List ℕ → Result Content Wrong
reading text = do
  version ← version_line 1 (rows_of text)
  port ← port_line 2 version.1
  walked ← walk line_onto [] 3 port.1
  Ok (record { port = port.0; lines = walked.draft })
