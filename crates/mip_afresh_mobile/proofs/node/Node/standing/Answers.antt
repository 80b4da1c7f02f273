use Rattle.std.proofs.Common.{sym, ap, ◌∙◌}
use Rattle.mip_afresh_mobile.specs.Nodes.{NodeSeen, known_to}
use Rattle.mip_afresh_mobile.specs.Pasts.{node_left}
use Rattle.mip_afresh_mobile.proofs.NodeLaws.{lost-standing, kept-in}
use Rattle.mip_afresh_mobile.proofs.node.Node.standing.Goals as goal

pub returns-in-Some : goal.returns-in-Some
returns-in-Some c =
    let past = c.self.inside.past in
    c.standing.ensures (known_to past) (kept-in past c.self.inside.mobile c.in-Some.mobile c.in-Some.is c.self.invariant)
    ∙ ap (λ (m : NodeSeen). (known_to m).standing) (ap (λ o. node_left o past) (sym c.in-Some.is) ∙ c.self.view_is)

pub returns-in-None : goal.returns-in-None
returns-in-None c =
    let past = c.self.inside.past in
    sym (lost-standing past) ∙ ap (λ (m : NodeSeen). (known_to m).standing) (ap (λ o. node_left o past) (sym c.in-None.is) ∙ c.self.view_is)
