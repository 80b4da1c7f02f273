use Rattle.std.proofs.Common.{refl, sym, ◌∙◌, arith}
use Rattle.mip_hub.specs.HubConfigs.{content}
use Rattle.mip_hub.proofs.RunLaws.{begins, goes_round, breaks_off, not_begun, granted}
use Rattle.mip_hub.proofs.serving.serve_hub.Goals as goal

pub returns-then-is_err-clause-run : goal.returns-then-is_err-clause-run
returns-then-is_err-clause-run g c = not_begun (content c.args.config.now) c.args.turns c.listen_on.result _ _ _ _ _ _ _ c.listen_on.ensures.sent (sym c.if-is_err.ensures.value) c.listen_on.ensures.calls refl

pub loop-before-init : goal.loop-before-init
loop-before-init g c = record {
  reached = begins (content c.args.config.now) _ c.listen_on.result _ _ _ _ _ _ _ _ c.new-hub.ensures c.listen_on.ensures.coming c.listen_on.ensures.sent (sym c.if-is_err.ensures.value)
      c.listen_on.ensures.calls refl;
  port = granted c.listen_on.result (sym c.if-is_err.ensures.value) c.listen_on.ensures.ok;
  link_faults = c.listen_on.ensures.no_fewer;
  sink_faults = omega arith;
}

pub returns-in-Err-clause-run : goal.returns-in-Err-clause-run
returns-in-Err-clause-run g c =
    let s = rw c.as_slice.ensures at c.in-Err.ensures.seen in
    breaks_off (content c.args.config.now) c.args.turns c.loop-before.before _ _ _ _ _ _ s.0 c.in-Err.end c.loop-before-test.true c.loop-before.invariant.reached s.1 s.2

pub loop-before-preserved : goal.loop-before-preserved
loop-before-preserved g c =
    let s = rw c.as_slice.ensures at c.in-Ok.ensures.seen in
    record {
      reached = goes_round (content c.args.config.now) c.loop-before.before _ _ _ _ _ _ _ _ s.0 c.loop-before.invariant.reached s.1 s.2 s.3 c.in-Ok.ensures.coming;
      port = c.turn_told.ensures.port ∙ c.loop-before.invariant.port;
      link_faults = omega (arith, c.loop-before.invariant.link_faults, c.turn_told.ensures.no_fewer.0);
      sink_faults = omega (arith, c.loop-before.invariant.sink_faults, c.turn_told.ensures.no_fewer.1);
    }
