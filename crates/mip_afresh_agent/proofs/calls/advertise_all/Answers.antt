use Rattle.std.proofs.Common.{◌≡◌, subst, rules}
use Rattle.std.specs.Prelude.{OnOk}
use Rattle.mip_rules_agent.specs.Questions.{rows_at}
use Rattle.mip_rules_agent.specs.Transitions.{Transition}
use Rattle.mip_afresh_agent.specs.Turns.{Shows}
use Rattle.mip_afresh_agent.proofs.CallLaws.{plans_here}
use Rattle.mip_afresh_agent.proofs.calls.advertise_all.Goals as goal

pub returns : goal.returns
returns c = λ t shows.
    let turn = c.args.turn.now in
    let rows : c.deref-2.result.now ≡ rows_at turn.moment.0 turn.known.homes = search rules in
    subst (λ (u : Transition). OnOk c.tell_all.result (Shows c.tell_all.new.turn u)) (plans_here c.args.me.now turn c.deref-2.result.now t shows rows)
    (c.tell_all.ensures turn.known turn.moment.0 c.in_ok-valid.ensures c.in_ok-preferred.ensures t shows)
