use Rattle.std.proofs.Common.{length, sym, ap, ◌∙◌}
use Rattle.mip_chain.specs.Chain.{ChainSeen}
use Rattle.mip_chain.specs.Ring.{seen}
use Rattle.mip_chain.proofs.Places.{counted}
use Rattle.mip_chain.proofs.chain.Chain.len.Goals as goal

pub returns : goal.returns
returns g c =
    sym (counted (seen c.self.inside.ring) c.self.invariant) ∙ ap (λ (v : ChainSeen g.row.T.Denot). length v.items) c.self.view_is
