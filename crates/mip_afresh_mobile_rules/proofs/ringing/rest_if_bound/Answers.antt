use Rattle.std.proofs.Common.{sym, subst, ◌∙◌}
use Rattle.mip_afresh_mobile_state.specs.Turns.{Shows}
use Rattle.mip_afresh_mobile_rules.proofs.Asking.{shown-known}
use Rattle.std.specs.Prelude.{Bool, if◌then◌else◌, true}
use Rattle.mip_rules_mobile.specs.Trials.{Rest, is_bound}
use Rattle.mip_rules_mobile.specs.Steps.{Tries}
use Rattle.mip_rules_mobile.specs.Transitions.{noted}
use Rattle.mip_rules_mobile.specs.RowQuestions.{trial_of}
use Rattle.mip_afresh_mobile_rules.proofs.Asking.{asked}
use Rattle.mip_afresh_mobile_rules.proofs.ringing.rest_if_bound.Goals as goal

pub returns-then-is_bound : goal.returns-then-is_bound
returns-then-is_bound c =
    asked c.rest_trial.result c.args.turn.now c.rest_trial.new.self (λ k n. is_bound (trial_of k c.args.row)) true (λ bound t. if bound then noted (Tries c.args.row Rest) t else t)
    (λ k same. sym c.if-is_bound.true ∙ c.is_bound.ensures k same) c.rest_trial.ensures

pub returns-else-is_bound : goal.returns-else-is_bound
returns-else-is_bound c = λ t shows.
    let turn = c.args.turn.now in
    subst (λ (bound : Bool). Shows turn (if bound then noted (Tries c.args.row Rest) t else t))
    (sym c.if-is_bound.false ∙ c.is_bound.ensures t.known (shown-known turn t shows)) shows
