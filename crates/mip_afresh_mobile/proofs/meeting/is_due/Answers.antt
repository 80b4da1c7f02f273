use Rattle.std.proofs.Common.{ap, ◌∙◌, ◌&&◌}
use Rattle.std.specs.Prelude.{Bool, not, is_some}
use Rattle.mip_rules_mobile.specs.HomeQuestions.{registration_of}
use Rattle.mip_rules_mobile.specs.RowQuestions.{trial_of, is_bound_row}
use Rattle.mip_rules_mobile.specs.Trials.{is_idle}
use Rattle.mip_afresh_mobile.proofs.Turned.{shows-seen, found}
use Rattle.mip_afresh_mobile.proofs.meeting.is_due.Goals as goal

pub returns : goal.returns
returns c = λ t shows.
    let turn = c.args.turn.now in
    let row = c.args.row in
    let idle = is_idle (trial_of t.known row) in
    let bound = is_bound_row t.known t.now row in
    c.is_new.ensures
    ∙ ap (λ (b : Bool). b && (not c.is_bound_row-bound.result && c.is_registered-registered.result)) (c.is_idle-idle.ensures t.known (shows-seen turn t shows))
    ∙ ap (λ (b : Bool). idle && (not b && c.is_registered-registered.result)) (found turn t (λ k now. is_bound_row k now row) c.is_bound_row-bound.result c.is_bound_row-bound.ensures shows)
    ∙ ap (λ (b : Bool). idle && (not bound && b)) (found turn t (λ k now. is_some (registration_of k now)) c.is_registered-registered.result c.is_registered-registered.ensures shows)
