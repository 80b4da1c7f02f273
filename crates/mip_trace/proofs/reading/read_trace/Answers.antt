use Rattle.std.proofs.Common.{◌≡◌, subst}
use Rattle.std.specs.Prelude.{ℕ, List, Result, Ok, Err, IfOk}
use Rattle.mip_lines.specs.Cutting.{rows_of}
use Rattle.mip_symbols.specs.Places.{AreFew, NamesFound}
use Rattle.mip_symbols.specs.declared.declaration.Declaration.{Declaration}
use Rattle.mip_entries.specs.declared.entry.Entry.{Entry}
use Rattle.mip_trace.specs.Faults.{GivesText, OnBad}
use Rattle.mip_trace.specs.Ranges.{IsTraceOf, IsFirstBad}
use Rattle.mip_trace.specs.Reading.{reading}
use Rattle.mip_trace.specs.declared.fault.TraceFault.{TraceFault}
use Rattle.mip_trace.specs.declared.fault.TraceFault.TheVariants as faults
use Rattle.mip_trace.proofs.TraceLaws.{trace-read, trace-again, trace-bad}
use Rattle.mip_trace.proofs.reading.read_trace.Goals as goal

is_found : (ds : List Declaration) → AreFew ds → (text : List ℕ) (r : Result (List Entry) TraceFault) → GivesText r (reading ds text) → IfOk r (λ history. IsTraceOf ds history text)
is_found ds few text (Ok history) e = trace-read ds few text history e
is_found ds few text (Err fault) e = tt

is_bad : (ds : List Declaration) → AreFew ds → NamesFound ds → (text : List ℕ) (r : Result (List Entry) TraceFault) → GivesText r (reading ds text) → OnBad r (λ line. IsFirstBad ds line (rows_of text))
is_bad ds few found text (Ok history) e = tt
is_bad ds few found text (Err (faults.Bad line)) e = trace-bad ds few found text line e
is_bad ds few found text (Err faults.Memory) e = tt

-- what the reading of the declared names gives is what the reading of the schedule's gives
given : (ds found : List Declaration) (text : List ℕ) (r : Result (List Entry) TraceFault) → found ≡ ds → GivesText r (reading found text) → GivesText r (reading ds text)
given ds found text r same e = subst (λ (l : List Declaration). GivesText r (reading l text)) same e

pub returns-clause-found : goal.returns-clause-found
returns-clause-found c =
    is_found c.args.schedule.now.declarations c.few.ensures c.args.text.now c.entries.result
    (given c.args.schedule.now.declarations c.few_declarations.result c.args.text.now c.entries.result c.few_declarations.ensures c.entries.ensures)

pub returns-clause-only : goal.returns-clause-only
returns-clause-only c = λ history is.
    subst (λ (r : Result (List Entry) ℕ). GivesText c.entries.result r) (trace-again c.args.schedule.now.declarations c.few.ensures c.names_found.ensures history c.args.text.now is)
    (given c.args.schedule.now.declarations c.few_declarations.result c.args.text.now c.entries.result c.few_declarations.ensures c.entries.ensures)

pub returns-clause-bad : goal.returns-clause-bad
returns-clause-bad c =
    is_bad c.args.schedule.now.declarations c.few.ensures c.names_found.ensures c.args.text.now c.entries.result
    (given c.args.schedule.now.declarations c.few_declarations.result c.args.text.now c.entries.result c.few_declarations.ensures c.entries.ensures)
