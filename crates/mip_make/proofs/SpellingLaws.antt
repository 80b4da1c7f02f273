-- The text of a generated schedule, event by event.
use Rattle.std.proofs.Common.{◌≡◌, ℕ, ◌+◌, List, [], ◌∷◌, ◌++◌, map, sym, ap, ◌∙◌, append_assoc, arith, false}
use Rattle.std.proofs.lemmas.Grind.{flat_map-append}
use Rattle.std.proofs.lemmas.List.{flat_map_more, map-append}
use Rattle.std.proofs.lemmas.List.FromFn.{map-range_with_len_more}
use Rattle.mip_lines.specs.Lines.{line_text, lines_text}
use Rattle.mip_schedule.specs.Spelling.{declaration_rows, event_text, head_rows, run_row, spelling}
use Rattle.mip_make.specs.Made.{event_at, event_line, events_from, made}
use Rattle.mip_make.specs.MadeLaws.{events_text}
use Rattle.mip_make.specs.Network.{network}

-- a line of a word and a number, appended piece by piece
pub numbered_line : (out word digits : List ℕ) → ((out ++ word) ++ 32 ∷ []) ++ (digits ++ 10 ∷ []) ≡ out ++ line_text (word ∷ digits ∷ [])
unfolding line_text
numbered_line out word digits = simp append_assoc

abbrev Row : Type 0
Row = List (List ℕ)

-- one more event
pub line_more : (out seed : List ℕ) (n : ℕ) → (out ++ events_text seed n) ++ event_line (event_at seed n) ≡ out ++ events_text seed (n + 1)
line_more out seed n =
    flat_map_more line_text out (map (event_text false network) (events_from seed 0 n)) (event_text false network (event_at seed n))
    ∙ ap (λ (rows : List Row). out ++ lines_text rows)
    (sym (map-append (event_text false network) (events_from seed 0 n) (event_at seed n ∷ []))
    ∙ ap (map (event_text false network)) (sym (map-range_with_len_more (event_at seed) 0 n n (omega arith))))

-- the lines of the events stand behind the text of the schedule with none
pub whole_text : (seed : List ℕ) (count : ℕ) → spelling (made seed 0) ++ events_text seed count ≡ spelling (made seed count)
unfolding spelling
whole_text seed count =
    let head = head_rows 1 seed (record { 0 = 0 }) in
    let declarations = declaration_rows [] network in
    let events = map (event_text false network) (events_from seed 0 count) in
    sym (flat_map-append line_text (head ++ (declarations ++ (run_row ∷ []))) events)
    ∙ ap lines_text (append_assoc head (declarations ++ (run_row ∷ [])) events ∙ ap (λ (rows : List Row). head ++ rows) (append_assoc declarations (run_row ∷ []) events))
