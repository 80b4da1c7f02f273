use Rattle.std.proofs.Common.{◌+◌, [], ◌∷◌, ◌++◌, length, ◌∙◌, sym, ap, refl, arith}
use Rattle.std.proofs.lemmas.Bool.{eqb-true}
use Rattle.mip_lines.specs.Cutting.{fields_of, rows_of}
use Rattle.mip_lines.proofs.TextRows.{not_zero}
use Rattle.mip_schedule.specs.EventTimes.{timed_line, waited, carried}
use Rattle.mip_schedule.specs.Reading.{at_line, events_of}
use Rattle.mip_schedule.proofs.Walking.{timed_step, events_end, last_empty, last_full, gives_fault, goes_on, waited_more, carried_more, none_waited, none_carried}
use Rattle.mip_schedule.proofs.event_lines.events_from.Goals as goal

pub loop-row-init : goal.loop-row-init
loop-row-init c = record {
  so_far = ap (λ es. events_of c.args.numbered c.args.ds.now es c.args.first (rows_of c.args.text.now)) c.in_ok-events.ensures;
  waits = sym (ap waited c.in_ok-events.ensures ∙ none_waited);
  carries = sym (ap carried c.in_ok-events.ensures ∙ none_carried);
  few_waits = omega arith;
  few_carries = omega arith;
  short = omega arith;
}

pub returns-in-Err : goal.returns-in-Err
returns-in-Err c =
    gives_fault (λ e. e) (λ e. e) c.in-Err.fault
    (at_line c.loop-row.line (timed_line c.args.numbered c.args.ds.now c.len.result c.loop-row.waits c.loop-row.carries (fields_of c.in-Some.row.now)))
    (λ e. events_of c.args.numbered c.args.ds.now (c.loop-row.events ++ e ∷ []) (c.loop-row.line + 1) (rows_of c.in-Some.more.now))
    (events_of c.args.numbered c.args.ds.now [] c.args.first (rows_of c.args.text.now))
    c.in-Err.ensures.value
    (timed_step c.args.numbered c.args.ds.now c.loop-row.events c.len.result c.loop-row.waits c.loop-row.carries c.loop-row.line c.loop-row.rest.now c.in-Some.row.now c.in-Some.more.now _
    c.len.ensures c.loop-row.invariant.waits c.loop-row.invariant.carries c.in-Some.ensures.parts c.loop-row.invariant.so_far)

pub loop-row-preserved : goal.loop-row-preserved
loop-row-preserved c = record {
  so_far = rw c.in-Ok-push.ensures.ok (goes_on (events_of c.args.numbered c.args.ds.now [] c.args.first (rows_of c.args.text.now))
      (at_line c.loop-row.line (timed_line c.args.numbered c.args.ds.now c.len.result c.loop-row.waits c.loop-row.carries (fields_of c.in-Some.row.now)))
      (λ e. events_of c.args.numbered c.args.ds.now (c.loop-row.events ++ e ∷ []) (c.loop-row.line + 1) (rows_of c.in-Some.more.now)) c.in-Ok.event
      (timed_step c.args.numbered c.args.ds.now c.loop-row.events c.len.result c.loop-row.waits c.loop-row.carries c.loop-row.line c.loop-row.rest.now c.in-Some.row.now c.in-Some.more.now _
      c.len.ensures c.loop-row.invariant.waits c.loop-row.invariant.carries c.in-Some.ensures.parts c.loop-row.invariant.so_far)
      c.in-Ok.ensures.value);
  waits = rw (c.in-Ok-push.ensures.ok, waited_more, c.wait_of-waits.ensures, c.loop-row.invariant.waits) refl;
  carries = rw (c.in-Ok-push.ensures.ok, carried_more, c.carry_of-carries.ensures, c.loop-row.invariant.carries) refl;
  few_waits = rw c.wait_of-waits.ensures c.in-Ok.ensures.waits;
  few_carries = rw c.carry_of-carries.ensures c.in-Ok.ensures.carries;
  short = omega (arith, c.in-Some.ensures.shorter, c.loop-row.invariant.short);
}

pub returns-then-is_empty : goal.returns-then-is_empty
returns-then-is_empty c =
    sym c.loop-row.invariant.so_far
    ∙ events_end c.args.numbered c.args.ds.now c.loop-row.events c.loop-row.line c.loop-row.rest.now c.in_default.ensures.parts
    ∙ last_empty c.loop-row.line c.loop-row.events c.loop-row.rest.now (eqb-true (length c.loop-row.rest.now) 0 (sym c.is_empty.ensures ∙ c.if-is_empty.true))

pub returns-else-is_empty : goal.returns-else-is_empty
returns-else-is_empty c =
    sym c.loop-row.invariant.so_far
    ∙ events_end c.args.numbered c.args.ds.now c.loop-row.events c.loop-row.line c.loop-row.rest.now c.in_default.ensures.parts
    ∙ last_full c.loop-row.line c.loop-row.events c.loop-row.rest.now (not_zero (length c.loop-row.rest.now) (sym c.is_empty.ensures ∙ c.if-is_empty.false))
