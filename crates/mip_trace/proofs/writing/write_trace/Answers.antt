use Rattle.std.proofs.Common.{◌≤◌, List, length, ap, ◌∙◌, rules}
use Rattle.std.specs.Prelude.{Some}
use Rattle.std.specs.List.{flat_map}
use Rattle.std.proofs.lemmas.List.{take_all}
use Rattle.mip_lines.specs.Lines.{line_text}
use Rattle.mip_entries.specs.declared.entry.Entry.{Entry}
use Rattle.mip_trace.specs.Lines.{entry_row, trace_text}
use Rattle.mip_trace.proofs.WrittenLaws.{text_is}
use Rattle.mip_trace.proofs.writing.write_trace.Goals as goal

pub returns : goal.returns
returns c =
    let items : List Entry = c.as_slice-entry-items.result.now in
    let all : length items ≤ c.loop-entry.entry-index = search rules in
    c.loop-entry.invariant
    ∙ ap (flat_map (λ (e : Entry). line_text (entry_row (Some c.args.schedule.now.declarations) e))) (take_all c.loop-entry.entry-index items all)
    ∙ text_is (Some c.args.schedule.now.declarations) items
    ∙ ap (trace_text (Some c.args.schedule.now.declarations)) c.as_slice-entry-items.ensures
