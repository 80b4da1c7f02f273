use Rattle.mip_hub.specs.HubConfigs.{parts_content}
use Rattle.mip_hub.proofs.KeptLaws.{few_read}
use Rattle.mip_hub.proofs.hub_reading.read_hub.Goals as goal

pub invariant_of-result : goal.invariant_of-result
invariant_of-result c =
    record {
      read = ∣ (c.args.text.now, c.in-Ok.ensures) ∣₁;
      few_lines = few_read c.args.text.now (parts_content c.in-Ok.parts) c.in-Ok.ensures;
    }
