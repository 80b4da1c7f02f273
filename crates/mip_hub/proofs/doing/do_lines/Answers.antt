use Rattle.std.proofs.Common.{refl, ◌∙◌, arith}
use Rattle.mip_hub.proofs.CallLaws.{nothing_made}
use Rattle.mip_hub.proofs.LineLaws.{line_stops, line_sent, line_hub}
use Rattle.mip_hub.proofs.doing.do_lines.Goals as goal

pub loop-line-init : goal.loop-line-init
loop-line-init g c = record { hub = refl; made = nothing_made _; coming = refl; port = refl; faults = omega arith }

pub returns-in-Err-clause-goes : goal.returns-in-Err-clause-goes
returns-in-Err-clause-goes g c =
    line_stops c.args.turn c.args.lines.now c.loop-line.line-index _ c.in-Err.fault _ _ _ c.loop-line-test.true c.loop-line.invariant.made c.in-Err.ensures.goes

pub loop-line-preserved : goal.loop-line-preserved
loop-line-preserved g c = record {
  hub = line_hub c.args.turn c.args.lines.now c.loop-line.line-index _ _ _ _ c.loop-line-test.true c.loop-line.invariant.hub c.in-Ok.ensures.hub;
  made = line_sent c.args.turn c.args.lines.now c.loop-line.line-index _ _ _ _ c.loop-line-test.true c.loop-line.invariant.made c.in-Ok.ensures.goes;
  coming = c.do_in_turn.ensures.kept.0 ∙ c.loop-line.invariant.coming;
  port = c.do_in_turn.ensures.kept.1 ∙ c.loop-line.invariant.port;
  faults = omega (arith, c.loop-line.invariant.faults, c.do_in_turn.ensures.no_fewer);
}
