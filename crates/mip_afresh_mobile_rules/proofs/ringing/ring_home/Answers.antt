use Rattle.std.proofs.Common.{ap, sym, subst, ◌∙◌, ℕ}
use Rattle.mip_bulist.specs.declared.home_timer.HomeTimer.{HomeTimer}
use Rattle.mip_afresh_mobile_state.specs.Turns.{Goes}
use Rattle.mip_rules_mobile.specs.Timing.{doubled}
use Rattle.mip_rules_mobile.specs.HomeRules.{resends_home}
use Rattle.mip_rules_mobile.specs.RingingRules.{registers_if_away, ends_home, rings_home}
use Rattle.mip_afresh_mobile_rules.proofs.Asking.{asked}
use Rattle.mip_afresh_mobile_rules.proofs.ringing.ring_home.Goals as goal

pub returns-in-Resend : goal.returns-in-Resend
returns-in-Resend c =
    subst (λ (timer : HomeTimer). Goes c.resend_home.result (rings_home timer) c.args.turn.now c.resend_home.new.turn) (sym c.in-Resend.is)
    (asked c.resend_home.result c.args.turn.now c.resend_home.new.turn (λ k n. doubled k.wait) c.doubled-wait.result (λ wait. resends_home wait)
    (λ k same. c.doubled-wait.ensures ∙ ap (λ (wait : ℕ). doubled wait) (c.home_wait.ensures k same)) c.resend_home.ensures)

pub returns-in-Renew : goal.returns-in-Renew
returns-in-Renew c =
    subst (λ (timer : HomeTimer). Goes c.renew_home.result (rings_home timer) c.args.turn.now c.renew_home.new.turn) (sym c.in-Renew.is)
    (asked c.renew_home.result c.args.turn.now c.renew_home.new.turn (λ k n. k.standing) c.standing-standing.result (λ s. registers_if_away s) c.standing-standing.ensures c.renew_home.ensures)

pub returns-in-End : goal.returns-in-End
returns-in-End c =
    subst (λ (timer : HomeTimer). Goes c.end_home.result (rings_home timer) c.args.turn.now c.end_home.new.turn) (sym c.in-End.is)
    (asked c.end_home.result c.args.turn.now c.end_home.new.turn (λ k n. k.registered) c.registered-registered.result (λ r. ends_home r) c.registered-registered.ensures c.end_home.ensures)
