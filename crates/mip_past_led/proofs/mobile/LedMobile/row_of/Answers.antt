use Rattle.std.proofs.Common.{◌≡◌, refl, ap, ◌∙◌}
use Rattle.mip_afresh_mobile_state.specs.Mobiles.{MobileSeen, known_of}
use Rattle.mip_past_led.specs.Questions.{row_with}
use Rattle.mip_past_led.proofs.mobile.LedMobile.row_of.Goals as goal

pub returns : goal.returns
returns c =
    c.row_of.ensures (known_of c.self.inside.mobile.now) refl ∙ ap (λ (m : MobileSeen). row_with m.list.rows c.args.peer) c.self.view_is
