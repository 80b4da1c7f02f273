use Rattle.std.proofs.Common.{rules}
use Rattle.std.specs.Prelude.{not, ◌==◌}
use Rattle.std.proofs.lemmas.Fn.{filter_same}
use Rattle.mip_mobile_state.proofs.numberings.forget.Goals as goal

pub returns : goal.returns
returns c = filter_same _ (λ n. not (n.agent.0 == c.args.agent.0)) _ (λ x b f called. search rules) _ _ c.retain.ensures.filtered
