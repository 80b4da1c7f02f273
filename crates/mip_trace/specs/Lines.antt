-- The line of each entry as fields, and the text of a history.
use Rattle.std.specs.Prelude.{ℕ, List, map}
use Rattle.mip_lines.specs.Lines.{lines_text}
use Rattle.mip_entries.specs.declared.entry.Entry.{Entry}
use Rattle.mip_rows.specs.Names.{Names}
use Rattle.mip_trace.specs.EntryLines.{line_of, line_fields}

-- the fields of the line of an entry, whose first is its word
abbrev pub entry_row : Names → Entry → List (List ℕ)
entry_row names entry = line_fields names (line_of entry)

-- the trace: a line for each entry, in order
unfoldable pub trace_text : Names → List Entry → List ℕ
trace_text names history = lines_text (map (entry_row names) history)
