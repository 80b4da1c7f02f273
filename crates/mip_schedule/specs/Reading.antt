-- What a text is read as: the schedule, or its first bad line and why.
use Rattle.std.specs.Prelude.{ℕ, ◌+◌, List, [], ◌∷◌, ◌++◌, Bool, false, if◌then◌else◌, Result, Ok, Err, codes}
use Rattle.std.specs.Str.{bytes_eq}
use Rattle.mip_words.specs.Steps.{◌>>=◌}
use Rattle.mip_words.specs.declared.moment.Moment.{Moment}
use Rattle.mip_lines.specs.Cutting.{rows_of}
use Rattle.mip_schedule.specs.Contents.{Content}
use Rattle.mip_schedule.specs.Versions.{is_numbered}
use Rattle.mip_symbols.specs.Kinds as kinds
use Rattle.mip_schedule.specs.DeclarationTimes.{declaration_line}
use Rattle.mip_schedule.specs.EventTimes.{event_line}
use Rattle.mip_schedule.specs.Faults.{Wrong}
use Rattle.mip_symbols.specs.declared.declaration.Declaration.{Declaration}
use Rattle.mip_schedule.specs.declared.event.Event.{Event}
use Rattle.mip_symbols.specs.declared.reason.Reason.{Reason}
use Rattle.mip_symbols.specs.declared.reason.Reason.TheVariants as reasons

-- the line n is bad for the reason that its reading gives
abbrev pub at_line : {A : Type 0} → ℕ → Result A Reason → Result A Wrong
at_line n (Ok x) = Ok x
at_line n (Err why) = Err (record { line = n; why = why })

abbrev pub bad_form : {A : Type 0} → ℕ → Result A Wrong
bad_form n = Err (record { line = n; why = reasons.Form })

-- a line of a word and one field
abbrev pub headed : List ℕ → List (List ℕ) → Result (List ℕ) Reason
headed word (w ∷ field ∷ []) = if bytes_eq w word then Ok field else Err reasons.Form
headed word _ = Err reasons.Form

-- the field of the line n, which has this word, and the lines behind it
unfoldable pub head_field : List ℕ → ℕ → List (List (List ℕ)) → Result (List ℕ × List (List (List ℕ))) Wrong
head_field word n [] = bad_form n
head_field word n (row ∷ []) = bad_form n
head_field word n (row ∷ next ∷ rows) = do
  field ← at_line n (headed word row)
  Ok (field, next ∷ rows)

abbrev pub is_run : List (List ℕ) → Bool
is_run (word ∷ []) = bytes_eq word (codes "run")
is_run _ = false

-- declarations, the number of the line behind `run`, and the lines from there on
pub record Declared : Type 0 where
  pub declarations : List Declaration
  pub line : ℕ
  pub rows : List (List (List ℕ))

-- declarations from the line n on, after these
unfoldable pub declarations_of : List Declaration → ℕ → List (List (List ℕ)) → Result Declared Wrong
declarations_of ds n [] = bad_form n
declarations_of ds n (row ∷ []) = bad_form n
declarations_of ds n (row ∷ next ∷ rows) =
    if is_run row then Ok (record { declarations = ds; line = n + 1; rows = next ∷ rows })
    else (at_line n (declaration_line ds row) >>= (λ d. declarations_of (ds ++ d ∷ []) (n + 1) (next ∷ rows)))

-- nothing stands behind the last line end
abbrev pub last_row : ℕ → List Event → List (List ℕ) → Result (List Event) Wrong
last_row n es ([] ∷ []) = Ok es
last_row n es _ = bad_form n

-- events from the line n on, after these; updates name their binding numbers, or do not
unfoldable pub events_of : Bool → List Declaration → List Event → ℕ → List (List (List ℕ)) → Result (List Event) Wrong
events_of numbered ds es n [] = bad_form n
events_of numbered ds es n (row ∷ []) = last_row n es row
events_of numbered ds es n (row ∷ next ∷ rows) = at_line n (event_line numbered ds es row) >>= (λ e. events_of numbered ds (es ++ e ∷ []) (n + 1) (next ∷ rows))

-- what such a field is read as, and the lines behind it
abbrev pub head_line : {A : Type 0} → List ℕ → (List ℕ → Result A Reason) → ℕ → List (List (List ℕ)) → Result (A × List (List (List ℕ))) Wrong
head_line word read n rows = do
  field ← head_field word n rows
  x ← at_line n (read field.0)
  Ok (x, field.1)

-- the version of a text, of which there are so many
unfoldable pub version_line : ℕ → List (List (List ℕ)) → Result (ℕ × List (List (List ℕ))) Wrong
version_line versions rows = head_line (codes "mip") (kinds.number 1 versions) 1 rows

unfoldable pub seed_line : List (List (List ℕ)) → Result (List ℕ × List (List (List ℕ))) Wrong
seed_line rows = head_line (codes "seed") kinds.seed 2 rows

-- the start is at most 2 ^ 40 ms
unfoldable pub start_line : List (List (List ℕ)) → Result (ℕ × List (List (List ℕ))) Wrong
start_line rows = head_line (codes "start") (kinds.number 0 1099511627776) 3 rows

-- the first three lines: the version, the seed and the moment of the start
pub record Head : Type 0 where
  pub version : ℕ
  pub seed : List ℕ
  pub start : Moment
  pub rows : List (List (List ℕ))

unfoldable pub head_of : List (List (List ℕ)) → Result Head Wrong
head_of rows = do
  version ← version_line 2 rows
  seed ← seed_line version.1
  start ← start_line seed.1
  Ok (record { version = version.0; seed = seed.0; start = record { 0 = start.0 }; rows = start.1 })

-- what a text is read as
unfoldable pub reading : List ℕ → Result Content Wrong
reading text = do
  head ← head_of (rows_of text)
  declared ← declarations_of [] 4 head.rows
  events ← events_of (is_numbered head.version) declared.declarations [] declared.line declared.rows
  Ok (record { version = head.version; seed = head.seed; start = head.start; declarations = declared.declarations; events = events })
