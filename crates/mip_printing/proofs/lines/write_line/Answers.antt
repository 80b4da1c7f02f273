use Rattle.std.proofs.Common.{arith, length, ◌-◌, length-drop, length-take}
use Rattle.mip_outside.proofs.Known.{append_front}
use Rattle.mip_printing.proofs.lines.write_line.Goals as goal

pub loop-at-preserved : goal.loop-at-preserved
loop-at-preserved g c =
    let within = simp (length-take, length-drop) at c.in_ok-at.ensures.within in
    record {
      within = omega (arith, within);
      written = append_front _ _ _ c.args.line.now c.loop-at.at (length c.args.line.now - c.loop-at.at) c.in_ok-at.field-0
          c.loop-at.invariant.written c.in_ok-at.ensures.given (omega (arith, within));
      faults = omega (arith, c.loop-at.invariant.faults, c.give.ensures.no_fewer);
    }
