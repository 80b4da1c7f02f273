use Rattle.std.proofs.Common.{◌∙◌, List, [], sym, ap, subst, arith}
use Rattle.std.specs.Prelude.{Option, Some, None, Ok}
use Rattle.mip_lines.specs.Cutting.{fields_of, rows_of}
use Rattle.mip_schedule.specs.Declarings.{next_of, declared}
use Rattle.mip_symbols.specs.Places.{AreFew}
use Rattle.mip_schedule.specs.Reading.{declarations_of}
use Rattle.mip_symbols.specs.declared.declaration.Declaration.{Declaration}
use Rattle.mip_schedule.proofs.FewLaws.{none_few, next_few}
use Rattle.mip_schedule.proofs.Walking.{declared_step, declarations_end, goes_on, gives_fault, following}
use Rattle.mip_schedule.proofs.declaration_lines.declarations_from.Goals as goal

pub loop-row-init : goal.loop-row-init
loop-row-init c = record {
  so_far = ap (λ ds. declarations_of ds c.args.first (rows_of c.args.text.now)) c.new-declarations.ensures;
  few = subst AreFew (sym c.new-declarations.ensures) none_few;
  short = omega arith;
}

pub returns-in-Err-clause-exact : goal.returns-in-Err-clause-exact
returns-in-Err-clause-exact c =
    gives_fault (λ d. d) declared c.in-Err.fault
    (next_of c.new.result c.loop-row.line (fields_of c.in-Some.row.now))
    (following c.loop-row.declarations c.loop-row.line (rows_of c.in-Some.more.now))
    (declarations_of [] c.args.first (rows_of c.args.text.now))
    c.in-Err.ensures
    (declared_step c.loop-row.declarations c.new.result c.loop-row.line c.loop-row.rest.now c.in-Some.row.now c.in-Some.more.now _
    (c.new.ensures ∙ c.as_slice.ensures) c.in-Some.ensures.parts c.loop-row.invariant.so_far)

pub returns-in_default-next-clause-exact : goal.returns-in_default-next-clause-exact
returns-in_default-next-clause-exact c =
    sym (goes_on (declarations_of [] c.args.first (rows_of c.args.text.now))
    (next_of c.new.result c.loop-row.line (fields_of c.in-Some.row.now))
    (following c.loop-row.declarations c.loop-row.line (rows_of c.in-Some.more.now)) None
    (declared_step c.loop-row.declarations c.new.result c.loop-row.line c.loop-row.rest.now c.in-Some.row.now c.in-Some.more.now _
    (c.new.ensures ∙ c.as_slice.ensures) c.in-Some.ensures.parts c.loop-row.invariant.so_far)
    (c.in-Ok.ensures ∙ ap (λ (o : Option Declaration). Ok o) c.in_default-next.is))

pub loop-row-preserved : goal.loop-row-preserved
loop-row-preserved c = record {
  so_far = rw c.in-Ok-push.ensures.ok (goes_on (declarations_of [] c.args.first (rows_of c.args.text.now))
      (next_of c.new.result c.loop-row.line (fields_of c.in-Some.row.now))
      (following c.loop-row.declarations c.loop-row.line (rows_of c.in-Some.more.now)) (Some c.in-Some-next.d)
      (declared_step c.loop-row.declarations c.new.result c.loop-row.line c.loop-row.rest.now c.in-Some.row.now c.in-Some.more.now _
      (c.new.ensures ∙ c.as_slice.ensures) c.in-Some.ensures.parts c.loop-row.invariant.so_far)
      (c.in-Ok.ensures ∙ ap (λ (o : Option Declaration). Ok o) c.in-Some-next.is));
  few = rw c.in-Ok-push.ensures.ok (next_few c.loop-row.declarations c.loop-row.line (fields_of c.in-Some.row.now) c.in-Some-next.d c.loop-row.invariant.few
      (ap (λ (ds : List Declaration). next_of ds c.loop-row.line (fields_of c.in-Some.row.now)) (sym (c.new.ensures ∙ c.as_slice.ensures)) ∙ c.in-Ok.ensures ∙ ap (λ (o : Option Declaration). Ok o) c.in-Some-next.is));
  short = omega (arith, c.in-Some.ensures.shorter, c.loop-row.invariant.short);
}

pub returns-clause-exact : goal.returns-clause-exact
returns-clause-exact c =
    sym c.loop-row.invariant.so_far ∙ declarations_end c.loop-row.declarations c.loop-row.line c.loop-row.rest.now c.in_default.ensures.parts
