use Rattle.mip_rules_mobile.specs.HomeRules.{resends_as, resends_home}
use Rattle.mip_afresh_mobile_rules.proofs.Asking.{asked}
use Rattle.mip_afresh_mobile_rules.proofs.homes.resend_home.Goals as goal

pub returns : goal.returns
unfolding resends_home
returns c =
    let turn = c.args.turn.now in
    asked c.resend_as.result turn c.resend_as.new.turn (λ k n. k.standing) c.standing-standing.result (λ s t. resends_as s t.known.latest c.args.wait t) c.standing-standing.ensures
    (asked c.resend_as.result turn c.resend_as.new.turn (λ k n. k.latest) c.latest-latest.result (λ latest. resends_as c.standing-standing.result latest c.args.wait) c.latest-latest.ensures
    c.resend_as.ensures)
