use Rattle.std.proofs.Common.{◌+◌, [], ◌∷◌, ◌++◌, length, ◌∙◌, sym, ap, arith}
use Rattle.std.proofs.lemmas.Bool.{eqb-true}
use Rattle.mip_lines.specs.Cutting.{fields_of, rows_of}
use Rattle.mip_trace.specs.EntryReading.{entry_of}
use Rattle.mip_trace.specs.Reading.{at_line, entries_of, reading}
use Rattle.mip_lines.proofs.TextRows.{not_zero}
use Rattle.mip_trace.proofs.Walking.{entries_step, entries_end, last_empty, last_full, gives_fault, goes_on}
use Rattle.mip_trace.proofs.reading.entries.Goals as goal

pub loop-row-init : goal.loop-row-init
loop-row-init c = record {
  so_far = ap (λ es. entries_of c.args.ds.now es 1 (rows_of c.args.text.now)) c.in_ok-history.ensures;
  short = omega arith;
}

pub returns-in-Err : goal.returns-in-Err
unfolding reading
returns-in-Err c =
    gives_fault c.in-Err.fault
    (at_line c.loop-row.line (entry_of c.args.ds.now (fields_of c.in-Some.row.now)))
    (λ e. entries_of c.args.ds.now (c.loop-row.history ++ e ∷ []) (c.loop-row.line + 1) (rows_of c.in-Some.more.now))
    (reading c.args.ds.now c.args.text.now)
    c.in-Err.ensures.value
    (entries_step c.args.ds.now c.loop-row.history c.loop-row.line c.loop-row.rest.now c.in-Some.row.now c.in-Some.more.now _ c.in-Some.ensures.parts c.loop-row.invariant.so_far)

pub loop-row-preserved : goal.loop-row-preserved
loop-row-preserved c = record {
  so_far = rw c.in-Ok-push.ensures.ok (goes_on (entries_of c.args.ds.now [] 1 (rows_of c.args.text.now))
      (at_line c.loop-row.line (entry_of c.args.ds.now (fields_of c.in-Some.row.now)))
      (λ e. entries_of c.args.ds.now (c.loop-row.history ++ e ∷ []) (c.loop-row.line + 1) (rows_of c.in-Some.more.now)) c.in-Ok.entry
      (entries_step c.args.ds.now c.loop-row.history c.loop-row.line c.loop-row.rest.now c.in-Some.row.now c.in-Some.more.now _ c.in-Some.ensures.parts c.loop-row.invariant.so_far)
      c.in-Ok.ensures.value);
  short = omega (arith, c.in-Some.ensures.shorter, c.in-Ok.ensures.some, c.loop-row.invariant.short);
}

pub returns-then-is_empty : goal.returns-then-is_empty
unfolding reading
returns-then-is_empty c =
    sym c.loop-row.invariant.so_far
    ∙ entries_end c.args.ds.now c.loop-row.history c.loop-row.line c.loop-row.rest.now c.in_default.ensures.parts
    ∙ last_empty c.loop-row.line c.loop-row.history c.loop-row.rest.now (eqb-true (length c.loop-row.rest.now) 0 (sym c.is_empty.ensures ∙ c.if-is_empty.true))

pub returns-else-is_empty : goal.returns-else-is_empty
unfolding reading
returns-else-is_empty c =
    sym c.loop-row.invariant.so_far
    ∙ entries_end c.args.ds.now c.loop-row.history c.loop-row.line c.loop-row.rest.now c.in_default.ensures.parts
    ∙ last_full c.loop-row.line c.loop-row.history c.loop-row.rest.now (not_zero (length c.loop-row.rest.now) (sym c.is_empty.ensures ∙ c.if-is_empty.false))
