-- A line as it is read: by its first field, and then as a row of the kinds behind this word.
use Rattle.std.specs.Prelude.{ℕ, List, [], ◌∷◌, Option, Some, None, Result, Ok, Err}
use Rattle.std.specs.List.{find}
use Rattle.std.specs.Str.{bytes_eq}
use Rattle.mip_words.specs.Steps.{◌>>=◌}
use Rattle.mip_entries.specs.declared.entry.Entry.{Entry}
use Rattle.mip_symbols.specs.declared.declaration.Declaration.{Declaration}
use Rattle.mip_symbols.specs.declared.reason.Reason.{Reason}
use Rattle.mip_symbols.specs.declared.reason.Reason.TheVariants as reasons
use Rattle.mip_rows.specs.Rows.{row_of}
use Rattle.mip_trace.specs.EntryLines.{word_text, entry_words, kinds_of, tail_kind, entry_at}
use Rattle.mip_trace.specs.declared.entry_word.EntryWord.{EntryWord}

-- the one of these that a field is
abbrev pub word_among : List EntryWord → List ℕ → Option EntryWord
word_among some field = find (λ w. bytes_eq (word_text w) field) some

-- the word that a field is
abbrev pub word_of : List ℕ → Option EntryWord
word_of field = word_among entry_words field

-- the entry of the fields behind a word
abbrev pub entry_by : List Declaration → Option EntryWord → List (List ℕ) → Result Entry Reason
entry_by ds (Some w) fields = row_of ds (kinds_of w) (tail_kind w) fields >>= (λ r. Ok (entry_at w r))
entry_by ds None fields = Err reasons.Form

-- the entry of a line
unfoldable pub entry_of : List Declaration → List (List ℕ) → Result Entry Reason
entry_of ds [] = Err reasons.Form
entry_of ds (first ∷ fields) = entry_by ds (word_of first) fields
