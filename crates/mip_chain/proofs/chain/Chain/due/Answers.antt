use Rattle.std.proofs.Common.{◌≤◌, length, subst}
use Rattle.mip_chain.specs.Chain.{ChainSeen, AreInOrder}
use Rattle.mip_chain.specs.Ring.{seen}
use Rattle.mip_chain.proofs.Chains.{ordered, few_items}
use Rattle.mip_chain.proofs.chain.Chain.due.Goals as goal

pub returns-clause-order : goal.returns-clause-order
returns-clause-order g c =
    subst (λ (v : ChainSeen g.row.T.Denot). AreInOrder v.items) c.self.view_is (ordered (seen c.self.inside.ring) c.self.invariant)

pub returns-clause-few : goal.returns-clause-few
returns-clause-few g c =
    subst (λ (v : ChainSeen g.row.T.Denot). length v.items ≤ v.room) c.self.view_is (few_items (seen c.self.inside.ring) c.self.invariant)
