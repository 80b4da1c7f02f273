use Rattle.std.proofs.Common.{sym, subst, refl, ◌∙◌, arith, rules}
use Rattle.mip_outside.proofs.Calling.{granted_none, granted_on}
use Rattle.mip_node.specs.Nodes.{Running}
use Rattle.mip_node.specs.Runs.{Start, Stand, HasRun, start}
use Rattle.mip_node.specs.RunsLaws.{stand}
use Rattle.mip_node.specs.Settings.{said}
use Rattle.mip_node.proofs.Calling.{turns_on}
use Rattle.mip_node.proofs.RunLaws.{begins, one_more}
use Rattle.mip_node.proofs.running.run_turns.Goals as goal

pub loop-done-init : goal.loop-done-init
loop-done-init g c =
    let ahead = g.C.Clock.ahead c.args.clock.now in
    let coming = g.L.Link.coming c.args.link.now in
    let sent = g.L.Link.sent c.args.link.now in
    let held = g.K.Sink.held c.args.sink.now in
    let first : Start = start (said c.args.setting.now) ahead coming sent held in
    record {
      ran = subst (λ (n : Running). HasRun first 0 (stand ahead coming n sent held)) (sym c.requires.first) (begins first);
      timely = c.requires.later;
      port = refl;
      calls = granted_none _ _ refl;
      link_faults = omega arith;
      sink_faults = omega arith;
    }

pub loop-done-preserved : goal.loop-done-preserved
loop-done-preserved g c =
    let first : Start = start (said c.args.setting.now) (g.C.Clock.ahead c.args.clock.now) (g.L.Link.coming c.args.link.now) (g.L.Link.sent c.args.link.now) (g.K.Sink.held c.args.sink.now) in
    let old : Stand = stand (g.C.Clock.ahead c.loop-done.clock) (g.L.Link.coming c.loop-done.link) c.loop-done.node (g.L.Link.sent c.loop-done.link) (g.K.Sink.held c.loop-done.sink) in
    let new : Stand = stand (g.C.Clock.ahead c.turn_told.new.clock) (g.L.Link.coming c.turn_told.new.link) c.turn_told.new.node (g.L.Link.sent c.turn_told.new.link) (g.K.Sink.held c.turn_told.new.sink) in
    let inv = c.loop-done.invariant in
    let grew = c.turn_told.ensures.faults.no_fewer in
    record {
      ran = one_more first c.loop-done.done old new inv.ran c.in_ok-turn_told.ensures.ok;
      timely = c.turn_told.ensures.kept.0;
      port = c.turn_told.ensures.kept.1 ∙ inv.port;
      calls = granted_on _ _ _ inv.calls (c.in_ok-turn_told.ensures.calls.whole refl);
      link_faults = omega (arith, inv.link_faults, grew.0);
      sink_faults = omega (arith, inv.sink_faults, grew.1);
    }

pub returns-in_err-turn_told-clause-calls : goal.returns-in_err-turn_told-clause-calls
returns-in_err-turn_told-clause-calls g c = turns_on _ _ _ c.loop-done.invariant.calls (search rules)
