use Rattle.std.proofs.Common.{◌≡◌, subst, rules}
use Rattle.std.specs.Prelude.{OnOk}
use Rattle.mip_rules_agent.specs.Questions.{due_ends}
use Rattle.mip_rules_agent.specs.Transitions.{Transition}
use Rattle.mip_rules_agent.specs.Doing.{releases_all}
use Rattle.mip_afresh_agent.specs.Turns.{Shows}
use Rattle.mip_afresh_agent.proofs.CallLaws.{ticks_here}
use Rattle.mip_afresh_agent.proofs.calls.finish.Goals as goal

pub returns : goal.returns
returns c = λ t shows.
    let turn = c.args.turn.now in
    let due : c.deref-2.result.now ≡ due_ends turn.moment.0 turn.known.ends = search rules in
    subst (λ (u : Transition). OnOk c.ring.result (Shows c.ring.new.self u)) (ticks_here turn c.deref-2.result.now t shows due)
    (c.ring.ensures (releases_all c.deref-2.result.now t) (c.in_ok-release_all.ensures t shows))
