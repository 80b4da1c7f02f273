use Rattle.std.proofs.Common.{arith, ◌+◌, ◌-◌, length-drop, length-take}
use Rattle.std.proofs.lemmas.Result.{err_from_is_err_and}
use Rattle.mip_outside.proofs.Known.{append_front, append_piece}
use Rattle.mip_printing.proofs.lines.write_text.Goals as goal

pub loop-at-preserved : goal.loop-at-preserved
loop-at-preserved g c = record {
  within = omega arith;
  written = append_piece _ _ _ c.args.text.now c.loop-at.at c.line_end-end.result
      c.loop-at.invariant.written c.in_ok-write_line.ensures.ok (omega arith);
  faults = omega (arith, c.loop-at.invariant.faults, c.write_line.ensures.no_fewer);
}

pub returns-in_err-write_line-clause-err : goal.returns-in_err-write_line-clause-err
returns-in_err-write_line-clause-err g c =
    let p = err_from_is_err_and c.from_residual.result c.from_residual.ensures.1 in
    let part = c.in_err-write_line.ensures.err in
    let below = simp (length-take, length-drop) at part.1 in
    rw p.1 (
      c.loop-at.at + part.0,
      omega (arith, below),
      append_front _ _ _ c.args.text.now c.loop-at.at (c.line_end-end.result - c.loop-at.at) part.0
          c.loop-at.invariant.written part.2 (omega (arith, below)),
    )
