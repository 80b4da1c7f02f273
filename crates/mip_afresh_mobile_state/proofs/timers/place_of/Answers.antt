use Rattle.std.proofs.Common.{◌∙◌, ℕ, ap, sym, length}
use Rattle.std.specs.Prelude.{Option, unwrap_or}
use Rattle.mip_afresh_mobile_state.proofs.TimerLaws.{place-seen}
use Rattle.mip_afresh_mobile_state.proofs.timers.place_of.Goals as goal

pub returns-in-Some-clause-exact : goal.returns-in-Some-clause-exact
returns-in-Some-clause-exact c =
    ap (λ (o : Option ℕ). unwrap_or o (length c.args.timers.now)) (sym c.in-Some.is ∙ c.first_later.ensures) ∙ sym (place-seen c.args.due c.args.timers.now)

pub returns-in-None-clause-exact : goal.returns-in-None-clause-exact
returns-in-None-clause-exact c =
    ap (λ (o : Option ℕ). unwrap_or o (length c.args.timers.now)) (sym c.in-None.is ∙ c.first_later.ensures) ∙ sym (place-seen c.args.due c.args.timers.now)
