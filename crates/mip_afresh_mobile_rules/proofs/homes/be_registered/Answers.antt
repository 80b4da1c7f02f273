use Rattle.std.proofs.Common.{ap, subst, ◌∙◌, ℕ}
use Rattle.std.specs.Prelude.{◌*◌}
use Rattle.mip_rules_mobile.specs.Transitions.{Transition, noted}
use Rattle.mip_rules_mobile.specs.TimerQuestions.{resending_home, later}
use Rattle.mip_rules_mobile.specs.TrialRules.{each_row}
use Rattle.mip_afresh_mobile_state.specs.Turns.{Goes}
use Rattle.mip_words.specs.declared.moment.Moment.{Moment}
use Rattle.mip_words.specs.Constants.{lifetime_unit}
use Rattle.mip_rules_mobile.specs.Timing.{refresh_unit}
use Rattle.mip_rules_mobile.specs.Steps.{Registers, Stops}
use Rattle.mip_rules_mobile.specs.HomeRules.{starts_bound, is_registered}
use Rattle.mip_afresh_mobile_rules.proofs.homes.be_registered.Goals as goal

pub returns : goal.returns
unfolding is_registered
returns c =
    let at = c.args.update.at.0 in
    let old = c.args.turn.now in
    let new = c.start_bound.new.turn in
    let rule = λ (end renew : Moment) (t : Transition). each_row starts_bound (noted (Registers c.args.update.agent end renew) (noted (Stops resending_home) t)) in
    subst (λ (end : Moment). Goes c.start_bound.result (rule end (later at (refresh_unit * c.args.lifetime))) old new)
    (c.in_ok-end.ensures ∙ ap (λ (n : ℕ). later at (lifetime_unit * n)) c.from.ensures)
    (subst (λ (renew : Moment). Goes c.start_bound.result (rule c.in_ok-end.end renew) old new)
    (c.in_ok-renew.ensures ∙ ap (λ (n : ℕ). later at (refresh_unit * n)) c.from-2.ensures)
    (λ t shows. c.start_bound.ensures _ (c.in_ok-register.ensures _ (c.in_ok-stop.ensures t shows))))
