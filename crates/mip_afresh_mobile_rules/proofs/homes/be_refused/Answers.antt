use Rattle.mip_rules_mobile.specs.Steps.{IsRefused}
use Rattle.mip_rules_mobile.specs.Transitions.{noted}
use Rattle.mip_rules_mobile.specs.DiscoveryQuestions.{next_found}
use Rattle.mip_rules_mobile.specs.HomeRules.{turns_to, is_refused}
use Rattle.mip_afresh_mobile_rules.proofs.Asking.{asked}
use Rattle.mip_afresh_mobile_rules.proofs.homes.be_refused.Goals as goal

pub returns : goal.returns
unfolding is_refused
returns c =
    let turn = c.args.turn.now in
    let status = c.args.status in
    asked c.turn_to.result turn c.turn_to.new.turn (λ k n. k.standing) c.standing-standing.result (λ s t. turns_to s (next_found t.known) (noted (IsRefused status) t)) c.standing-standing.ensures
    (asked c.turn_to.result turn c.turn_to.new.turn (λ k n. next_found k) c.next_found-next.result (λ next t. turns_to c.standing-standing.result next (noted (IsRefused status) t)) c.next_found-next.ensures
    (λ t shows. c.turn_to.ensures _ (c.in_ok-hear_refusal.ensures t shows)))
