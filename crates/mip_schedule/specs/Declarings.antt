-- One line of declarations: a declaration, or the end of them.
use Rattle.std.specs.Prelude.{ℕ, List, if◌then◌else◌, Option, Some, None, Result, Ok}
use Rattle.mip_words.specs.Steps.{◌>>=◌}
use Rattle.mip_lines.specs.Cutting.{rows_of}
use Rattle.mip_schedule.specs.DeclarationTimes.{declaration_line}
use Rattle.mip_schedule.specs.Faults.{Wrong}
use Rattle.mip_schedule.specs.Reading.{at_line, is_run}
use Rattle.mip_schedule.specs.Reading as reading
use Rattle.mip_symbols.specs.declared.declaration.Declaration.{Declaration}
use Rattle.mip_schedule.specs.declared.declaration_lines.Declared.{Declared}

-- the declaration of the line n, after these, or none at `run`
unfoldable pub next_of : List Declaration → ℕ → List (List ℕ) → Result (Option Declaration) Wrong
next_of ds n row = if is_run row then Ok None else (at_line n (declaration_line ds row) >>= (λ d. Ok (Some d)))

-- what was declared, seen as what is read
abbrev pub declared : Declared → reading.Declared
declared d = record { declarations = d.declarations; line = d.line; rows = rows_of d.rest.now }
