use Rattle.std.proofs.Common.{[], ◌∷◌, ◌+◌, ◌-◌, replicate, refl, ap, ◌∙◌, arith}
use Rattle.mip_hub.specs.Calls.{Sends, link_state, made_on}
use Rattle.mip_hub.proofs.CallLaws.{nothing_made, stops_in, made_more, one_copy, copies_split}
use Rattle.mip_hub.proofs.sending.send_copies.Goals as goal

pub loop-sent-init : goal.loop-sent-init
loop-sent-init g c = record { made = nothing_made _; coming = refl; port = refl; faults = omega arith }

pub returns-in-Err-clause-goes : goal.returns-in-Err-clause-goes
returns-in-Err-clause-goes g c =
    let call = Sends c.args.port c.args.datagram.now in
    stops_in (replicate c.loop-sent._sent call) (call ∷ []) (replicate (c.args.count - (c.loop-sent._sent + 1)) call) (replicate c.args.count call) c.in-Err.fault _ _ _
    (copies_split c.loop-sent._sent c.args.count call (omega arith)) c.loop-sent.invariant.made c.in-Err.ensures.goes

pub loop-sent-preserved : goal.loop-sent-preserved
loop-sent-preserved g c =
    let call = Sends c.args.port c.args.datagram.now in
    record {
      made = made_more (replicate c.loop-sent._sent call) (call ∷ []) _ _ _ c.loop-sent.invariant.made c.in-Ok.ensures.goes ∙ ap (λ calls. made_on calls (link_state (g.L.Link.sent c.args.link.now) (g.L.Link.calls c.args.link.now))) (one_copy c.loop-sent._sent call);
      coming = c.send.ensures.kept.0 ∙ c.loop-sent.invariant.coming;
      port = c.send.ensures.kept.1 ∙ c.loop-sent.invariant.port;
      faults = omega (arith, c.loop-sent.invariant.faults, c.send.ensures.no_fewer);
    }
