use Rattle.std.proofs.Common.{◌≡◌, refl, ap, ◌∙◌}
use Rattle.std.specs.Prelude.{slice_get}
use Rattle.mip_afresh_mobile_state.specs.Mobiles.{MobileSeen, known_of}
use Rattle.mip_past_led.proofs.mobile.LedMobile.next_found.Goals as goal

pub returns : goal.returns
returns c =
    c.next_found.ensures (known_of c.self.inside.mobile.now) refl ∙ ap (λ (m : MobileSeen). slice_get m.found m.tried) c.self.view_is
