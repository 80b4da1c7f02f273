use Rattle.std.proofs.Common.{arith, length, ◌-◌, length-drop, length-take}
use Rattle.mip_outside.proofs.Known.{held_on}
use Rattle.mip_outside.proofs.buffered.put_on.Goals as goal

pub loop-at-preserved : goal.loop-at-preserved
loop-at-preserved g c =
    let within = simp (length-take, length-drop) at c.in_ok-at.ensures.within in
    record {
      within = omega (arith, within);
      held = held_on _ _ _ _ c.args.bytes.now c.loop-at.at (length c.args.bytes.now - c.loop-at.at) c.in_ok-at.field-0
          c.loop-at.invariant.held c.in_ok-at.ensures.given (omega (arith, within));
      faults = omega (arith, c.loop-at.invariant.faults, c.give.ensures.no_fewer);
    }
