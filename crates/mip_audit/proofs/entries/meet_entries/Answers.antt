use Rattle.std.proofs.Common.{◌≡◌, ℕ, ◌+◌, ◌<◌, List, [], ◌++◌, length, drop, sym, ap, ◌∙◌, arith}
use Rattle.std.proofs.lemmas.List.{drop_all}
use Rattle.std.proofs.lemmas.Result.{err_from_is_err_and}
use Rattle.mip_lines.specs.Lines.{line_text}
use Rattle.mip_entries.specs.declared.entry.Entry.{Entry}
use Rattle.mip_trace.specs.Lines.{entry_row, trace_text}
use Rattle.mip_trace.proofs.WrittenLaws.{text_none}
use Rattle.mip_audit.specs.Differences.{difference_from}
use Rattle.mip_audit.proofs.EntryWalks.{text_left}
use Rattle.mip_audit.proofs.entries.meet_entries.Goals as goal

pub loop-entry-preserved : goal.loop-entry-preserved
loop-entry-preserved c = λ more.
    let names = c.args.names.now in
    let es = c.args.entries.now in
    let i = c.loop-entry.entry-index in
    let e = c.entry-item.result in
    let within : i < length es = omega arith in
    let behind : List ℕ = trace_text names (drop (i + 1) es) ++ more in
    let line : c.as_slice.result.now ≡ line_text (entry_row names e) = c.as_slice.ensures ∙ c.in_ok-entry_line.ensures in
    c.loop-entry.invariant more
    ∙ ap (difference_from c.loop-entry.comparison) (text_left names es i e more within c.entry-item.is)
    ∙ ap (λ (l : List ℕ). difference_from c.loop-entry.comparison (l ++ behind)) (sym line)
    ∙ c.in_ok-meet.ensures behind

pub returns-in_err-meet-clause-differs : goal.returns-in_err-meet-clause-differs
returns-in_err-meet-clause-differs c =
    let names = c.args.names.now in
    let es = c.args.entries.now in
    let i = c.loop-entry.entry-index in
    let e = c.entry-item.result in
    let within : i < length es = omega arith in
    let line : c.as_slice.result.now ≡ line_text (entry_row names e) = c.as_slice.ensures ∙ c.in_ok-entry_line.ensures in
    let p = err_from_is_err_and c.from_residual-in_err-meet.result c.from_residual-in_err-meet.ensures.1 in
    rw (p.1, p.2) (λ more.
    let behind : List ℕ = trace_text names (drop (i + 1) es) ++ more in
    c.loop-entry.invariant more
    ∙ ap (difference_from c.loop-entry.comparison) (text_left names es i e more within c.entry-item.is)
    ∙ ap (λ (l : List ℕ). difference_from c.loop-entry.comparison (l ++ behind)) (sym line)
    ∙ c.in_err-meet.ensures behind)

pub returns-clause-goes_on : goal.returns-clause-goes_on
returns-clause-goes_on c = λ more.
    let names = c.args.names.now in
    let none : drop c.loop-entry.entry-index c.args.entries.now ≡ [] = drop_all c.loop-entry.entry-index c.args.entries.now (omega arith) in
    c.loop-entry.invariant more
    ∙ ap (λ (xs : List Entry). difference_from c.loop-entry.comparison (trace_text names xs ++ more)) none
    ∙ ap (λ (t : List ℕ). difference_from c.loop-entry.comparison (t ++ more)) (text_none names)
