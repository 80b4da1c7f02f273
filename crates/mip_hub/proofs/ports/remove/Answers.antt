use Rattle.std.proofs.Common.{rules}
use Rattle.std.specs.Prelude.{not, ◌==◌}
use Rattle.std.proofs.lemmas.Fn.{filter_same}
use Rattle.mip_hub.specs.Ports.{without}
use Rattle.mip_hub.proofs.ports.remove.Goals as goal

pub returns : goal.returns
unfolding without
returns c = filter_same _ (λ row. not (row.address.0 == c.args.address.0)) _ (λ x b f called. search rules) _ _ c.retain.ensures.filtered
