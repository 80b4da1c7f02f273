use Rattle.std.proofs.Common.{◌≡◌, Option, Some, None, is_some, option_map, refl, sym, ap, ◌∙◌}
use Rattle.mip_discovery.specs.Retries.{DiscoverySeen}
use Rattle.mip_afresh_mobile_state.specs.declared.discovery.Discovery.{Discovery}
use Rattle.mip_afresh_mobile_state.specs.Mobiles.{MobileSeen, known_of}
use Rattle.mip_afresh_mobile_state.specs.Trials.{discovery_seen}
use Rattle.mip_past_led.proofs.mobile.LedMobile.is_discovering.Goals as goal

is_some_seen : (o : Option Discovery) → is_some (option_map discovery_seen o) ≡ is_some o
is_some_seen None = refl
is_some_seen (Some d) = refl

pub returns : goal.returns
returns c =
    c.is_some.ensures ∙ sym (is_some_seen c.discovery.result)
    ∙ ap (λ (o : Option DiscoverySeen). is_some o) (c.discovery.ensures (known_of c.self.inside.mobile.now) refl)
    ∙ ap (λ (m : MobileSeen). is_some m.discovery) c.self.view_is
