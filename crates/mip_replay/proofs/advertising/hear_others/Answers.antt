use Rattle.std.proofs.Common.{ℕ, ap, ◌∙◌}
use Rattle.mip_history.specs.Advertising.{hears_of_first}
use Rattle.mip_engine.proofs.GoesLaws.{goes_as}
use Rattle.mip_replay.proofs.advertising.hear_others.Goals as goal

pub returns : goal.returns
returns c = goes_as c.hear_first.ensures (λ s run at. ap (λ (n : ℕ). hears_of_first s c.args.link.0 c.args.node.0 n run) (c.count-count.ensures.is ∙ at.count))
