-- A trace as it is read: line by line, up to the first that is the line of no entry.
use Rattle.std.specs.Prelude.{ℕ, ◌+◌, List, [], ◌∷◌, ◌++◌, Result, Ok, Err}
use Rattle.mip_words.specs.Steps.{◌>>=◌}
use Rattle.mip_lines.specs.Cutting.{rows_of}
use Rattle.mip_entries.specs.declared.entry.Entry.{Entry}
use Rattle.mip_symbols.specs.declared.declaration.Declaration.{Declaration}
use Rattle.mip_symbols.specs.declared.reason.Reason.{Reason}
use Rattle.mip_trace.specs.EntryReading.{entry_of}

-- what the line n is read as, or n where it is bad
abbrev pub at_line : {A : Type 0} → ℕ → Result A Reason → Result A ℕ
at_line n (Ok x) = Ok x
at_line n (Err bad) = Err n

-- nothing stands behind the last line end
abbrev pub last_row : ℕ → List Entry → List (List ℕ) → Result (List Entry) ℕ
last_row n es ([] ∷ []) = Ok es
last_row n es _ = Err n

-- the entries of the lines from the line n on, after these
unfoldable pub entries_of : List Declaration → List Entry → ℕ → List (List (List ℕ)) → Result (List Entry) ℕ
entries_of ds es n [] = Err n
entries_of ds es n (row ∷ []) = last_row n es row
entries_of ds es n (row ∷ next ∷ rows) = at_line n (entry_of ds row) >>= (λ e. entries_of ds (es ++ e ∷ []) (n + 1) (next ∷ rows))

-- what a text is read as: its entries, or the number of its first bad line, counted from 1
unfoldable pub reading : List Declaration → List ℕ → Result (List Entry) ℕ
reading ds text = entries_of ds [] 1 (rows_of text)
