use Rattle.std.proofs.Common.{◌≡◌, length, refl, sym, subst, ◌∙◌, arith}
use Rattle.std.proofs.lemmas.Bool.{false≢true}
use Rattle.mip_chain.specs.Chain.{ChainSeen}
use Rattle.mip_chain.specs.Ring.{seen, items_in}
use Rattle.mip_chain.proofs.Places.{counted}
use Rattle.mip_chain.proofs.chain.Chain.insert.Goals as goal

pub returns-then-self-clause-exact : goal.returns-then-self-clause-exact
returns-then-self-clause-exact g c =
    (λ _. subst (λ (v : ChainSeen g.row.T.Denot). length v.items ≡ v.room) c.self.view_is (counted (seen c.self.inside.ring) c.self.invariant ∙ c.if-self.true), λ _. refl)

pub returns-clause-exact : goal.returns-clause-exact
returns-clause-exact g c =
    let s = seen c.self.inside.ring in
    let same : length (items_in s) ≡ s.len = counted s c.self.invariant in
    (λ none. absurd (false≢true none), λ full. let back : length (items_in s) ≡ s.room = subst (λ (v : ChainSeen g.row.T.Denot). length v.items ≡ v.room) (sym c.self.view_is) full in absurd (omega arith))
