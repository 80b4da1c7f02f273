-- A text has a byte or more a line, so a short text has few declarations and events.
use Rattle.std.proofs.Common.{◌≡◌, ℕ, ◌+◌, ◌<◌, ◌≤◌, ◌^◌, List, [], ◌∷◌, ◌++◌, length, refl, ap, arith, length-append}
use Rattle.std.specs.Prelude.{Bool, map}
use Rattle.mip_lines.specs.Lines.{spaced, line_text, lines_text}
use Rattle.mip_schedule.specs.Contents.{Content}
use Rattle.mip_schedule.specs.Spelling.{declaration_rows, event_text, run_row, schedule_rows, spelling}
use Rattle.mip_schedule.specs.Versions.{is_numbered}
use Rattle.mip_symbols.specs.declared.declaration.Declaration.{Declaration}
use Rattle.mip_schedule.specs.declared.event.Event.{Event}

line_long : (row : List (List ℕ)) → 0 < length (line_text row)
unfolding line_text
line_long [] = omega arith
line_long (field ∷ fields) = omega (arith, length-append field (spaced fields ++ 10 ∷ []), length-append (spaced fields) (10 ∷ []))

lines_long : (rows : List (List (List ℕ))) → length rows ≤ length (lines_text rows)
lines_long [] = omega arith
lines_long (row ∷ rows) = omega (arith, line_long row, lines_long rows, length-append (line_text row) (lines_text rows))

declarations_count : (before ds : List Declaration) → length (declaration_rows before ds) ≡ length ds
declarations_count before [] = refl
declarations_count before (d ∷ ds) = omega (arith, declarations_count (before ++ d ∷ []) ds)

events_count : (numbered : Bool) (ds : List Declaration) (es : List Event) → length (map (event_text numbered ds) es) ≡ length es
events_count numbered ds [] = refl
events_count numbered ds (e ∷ es) = omega (arith, events_count numbered ds es)

-- three lines of head, one a declaration, `run`, and one an event
rows_count : (s : Content) → length (schedule_rows s) ≡ length s.declarations + length s.events + 4
rows_count s =
    let events : List (List (List ℕ)) = map (event_text (is_numbered s.version) s.declarations) s.events in
    omega (arith, length-append (declaration_rows [] s.declarations) (run_row ∷ events), declarations_count [] s.declarations, events_count (is_numbered s.version) s.declarations s.events)

pub lines_few : (text : List ℕ) (s : Content) → text ≡ spelling s → length text + 1 < 2 ^ 32 → length s.declarations + length s.events + 5 < 2 ^ 32
unfolding spelling
lines_few text s e short = omega (arith, ap length e, lines_long (schedule_rows s), rows_count s)
