use Rattle.std.proofs.Common.{◌≡◌, refl, ap, ◌∙◌}
use Rattle.mip_rules_mobile.specs.HomeQuestions.{next_to}
use Rattle.mip_afresh_mobile_state.specs.Mobiles.{MobileSeen, known_of}
use Rattle.mip_past_led.proofs.mobile.LedMobile.next_to_agent.Goals as goal

pub returns : goal.returns
returns c =
    c.next_to.ensures (known_of c.self.inside.mobile.now) refl ∙ ap (λ (m : MobileSeen). next_to c.args.agent m.numberings) c.self.view_is
