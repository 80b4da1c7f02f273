use Rattle.std.proofs.Common.{◌≡◌, ℕ, List, ◌++◌, [], ◌∷◌, length, ◌<◌, sym, ap, ◌∙◌, subst, arith}
use Rattle.mip_roles.specs.Nodes.{NodeSeen}
use Rattle.mip_roles.specs.Roles.{last_of}
use Rattle.mip_roles.proofs.RoleLaws.{new_last}
use Rattle.mip_engine.specs.Engines.{EngineSeen, IsCalm}
use Rattle.mip_engine.proofs.CalmLaws.{calm_push}
use Rattle.mip_engine.proofs.engine.Engine.join.Goals as goal

calm_new : (xs ys : List NodeSeen) (now : ℕ) (c : NodeSeen) → IsCalm xs now → length xs < 32 → last_of c.role ≡ 0 → ys ≡ xs ++ c ∷ [] → IsCalm ys now
calm_new xs ys now c calm room new is = subst (λ (l : List NodeSeen). IsCalm l now) (sym is) (calm_push xs now c calm room (omega (arith, new)))

pub invariant_of-self-in_err-push-2 : goal.invariant_of-self-in_err-push-2
invariant_of-self-in_err-push-2 c =
    let node = c.in_ok-node.node in
    let new : last_of node.role ≡ 0 = ap (λ (x : NodeSeen). last_of x.role) c.in_ok-node.ensures ∙ new_last _ _ _ _ _ _ in
    calm_new c.self.inside.nodes.items c.push.new.self.items c.self.inside.moment.0 node c.self.invariant (subst (λ (x : EngineSeen). length x.nodes < 32) (sym c.self.view_is) c.requires.few) new c.in_ok-push.ensures.items

pub invariant_of-self-2 : goal.invariant_of-self-2
invariant_of-self-2 c =
    let node = c.in_ok-node.node in
    let new : last_of node.role ≡ 0 = ap (λ (x : NodeSeen). last_of x.role) c.in_ok-node.ensures ∙ new_last _ _ _ _ _ _ in
    calm_new c.self.inside.nodes.items c.push.new.self.items c.self.inside.moment.0 node c.self.invariant (subst (λ (x : EngineSeen). length x.nodes < 32) (sym c.self.view_is) c.requires.few) new c.in_ok-push.ensures.items
