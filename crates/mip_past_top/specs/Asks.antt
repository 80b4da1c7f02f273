-- What the words of the command line ask for: `LINE` or `LINE NODE`.
use Rattle.std.specs.Prelude.{ℕ, List, [], ◌∷◌, Option, Some, None}
use Rattle.mip_lines.specs.Decimals.{number_in}
use Rattle.mip_symbols.specs.Names.{name_of}
use Rattle.mip_symbols.specs.declared.name.Name.{Name}
use Rattle.mip_past_top.specs.declared.ask.Ask.{Ask}

abbrev pub about : ℕ → Option Name → Option Ask
about line None = None
about line (Some name) = Some (record { line = line; node = Some name })

-- no word more is each node, one is the node with this name
abbrev pub ask_by : Option ℕ → (rest : List (List ℕ)) → Option Ask
ask_by None rest = None
ask_by (Some line) [] = Some (record { line = line; node = None })
ask_by (Some line) (name ∷ []) = about line (name_of name)
ask_by (Some line) (name ∷ more ∷ rest) = None

-- the place is that behind a line of the trace, 0 to 20,000; 0 is the beginning
abbrev pub ask_of : List (List ℕ) → Option Ask
ask_of [] = None
ask_of (line ∷ rest) = ask_by (number_in 0 20000 line) rest
