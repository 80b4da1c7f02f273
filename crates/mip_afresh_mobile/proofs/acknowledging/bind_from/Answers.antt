use Rattle.std.proofs.Common.{ap, ◌∙◌, ℕ, ◌*◌}
use Rattle.std.specs.Option.{option_map_or}
use Rattle.mip_words.specs.declared.moment.Moment.{Moment}
use Rattle.mip_words.specs.Constants.{lifetime_unit}
use Rattle.mip_rules_mobile.specs.Timing.{refresh_unit}
use Rattle.mip_rules_mobile.specs.TimerQuestions.{later}
use Rattle.mip_rules_mobile.specs.Steps.{Binds}
use Rattle.mip_rules_mobile.specs.Transitions.{noted}
use Rattle.mip_afresh_mobile.proofs.Turned.{shows-now, asked, sent-is}
use Rattle.mip_afresh_mobile.proofs.acknowledging.bind_from.Goals as goal

pub returns : goal.returns
returns c = λ tested last t shows.
    let turn = c.args.turn.now in
    let of = c.args.of.now in
    let sent = c.unwrap_or-sent.result in
    let end = λ (at : ℕ). later at (lifetime_unit * c.args.lifetime) in
    let renew = λ (at : ℕ). later at (refresh_unit * c.args.lifetime) in
    let rule = λ (e r : Moment). noted (Binds c.args.row of.peer e r) t in
    let result = c.bind.result in
    let new = c.bind.new.self in
    asked result new (λ at. rule (end at) (renew at)) sent.0 (option_map_or (λ m. m.0) of.trial.newest t.now)
    (ap (λ (m : Moment). m.0) c.unwrap_or-sent.ensures ∙ sent-is of.trial.newest turn.now t.now (shows-now turn t shows))
    (asked result new (λ e. rule e (renew sent.0)) c.in_ok-end.end (end sent.0) c.in_ok-end.ensures
    (asked result new (λ r. rule c.in_ok-end.end r) c.in_ok-renew.renew (renew sent.0) c.in_ok-renew.ensures
    (c.bind.ensures t shows)))
