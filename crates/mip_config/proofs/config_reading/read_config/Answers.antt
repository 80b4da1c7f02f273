use Rattle.mip_config.specs.ConfigsLaws.{parts_content}
use Rattle.mip_config.proofs.KeptLaws.{reading_keeps}
use Rattle.mip_config.proofs.config_reading.read_config.Goals as goal

pub invariant_of-result : goal.invariant_of-result
invariant_of-result c =
    let kept = reading_keeps c.args.text.now (parts_content c.in-Ok.parts) c.in-Ok.ensures in
    record {
      read = ∣ (c.args.text.now, c.in-Ok.ensures) ∣₁;
      routable = kept.routable;
      homes = kept.homes;
      sendable = kept.sendable;
      few_routes = kept.few_routes;
      few_homes = kept.few_homes;
      few_payloads = kept.few_payloads;
    }
