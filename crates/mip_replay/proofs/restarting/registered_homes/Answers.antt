use Rattle.std.proofs.Common.{◌++◌, [], ◌∷◌, List, sym, ap, ◌∙◌}
use Rattle.mip_rules_agent.specs.declared.home_row.HomeRow.{HomeRow}
use Rattle.mip_engine.specs.Roles.{homes_of}
use Rattle.mip_engine.proofs.QuietLaws.{take_one}
use Rattle.mip_engine.proofs.ShowLaws.{all_taken}
use Rattle.mip_replay.proofs.restarting.registered_homes.Goals as goal

pub loop-place-preserved : goal.loop-place-preserved
loop-place-preserved c = λ node there.
    let rows = homes_of node.role c.args.engine.now.moment in
    let place = c.loop-place.place in
    let home = c.in-Some.home in
    c.in_ok-push-in-Some.ensures.items ∙ ap (λ (xs : List HomeRow). xs ++ home ∷ []) (c.loop-place.invariant node there)
    ∙ sym (take_one rows place home (sym (c.in-Some.ensures node there)))

pub returns-in-None : goal.returns-in-None
returns-in-None c = λ node there.
    let rows = homes_of node.role c.args.engine.now.moment in
    c.loop-place.invariant node there ∙ all_taken rows c.loop-place.place (sym (c.in-None.ensures node there))
