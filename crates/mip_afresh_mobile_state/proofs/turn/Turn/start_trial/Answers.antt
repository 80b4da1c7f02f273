use Rattle.std.proofs.Common.{refl, ap, ◌∙◌, ◌+◌, ◌%◌, ◌^◌}
use Rattle.mip_rules_mobile.specs.Steps.{Tries}
use Rattle.mip_rules_mobile.specs.Questions.{after}
use Rattle.mip_afresh_mobile_state.proofs.TurnLaws.{silent}
use Rattle.mip_rules_mobile.specs.Trials.{Start}
use Rattle.mip_afresh_mobile_state.specs.Mobiles.{MobileSeen}
use Rattle.mip_rules_mobile.specs.RowQuestions.{drawn_for}
use Rattle.mip_afresh_mobile_state.proofs.turn.Turn.start_trial.Goals as goal

pub returns : goal.returns
unfolding after
returns c = λ t shows.
    let drawn : MobileSeen → MobileSeen = λ m. record m { cookies = (m.cookies + drawn_for c.args.aim) % 2 ^ 64 } in
    silent (Tries c.args.row (Start c.args.aim c.args.home c.args.careof)) c.args.self.now c.draw_cookies.new.self refl (λ k. refl) (c.draw_cookies.ensures ∙ ap drawn c.change_trial.ensures) t shows
