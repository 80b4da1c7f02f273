use Rattle.std.proofs.Common.{sym, ap, ◌∙◌}
use Rattle.mip_bulist.specs.Timers.{first_due}
use Rattle.mip_afresh_mobile.specs.Nodes.{NodeSeen, known_to}
use Rattle.mip_afresh_mobile.specs.Pasts.{node_left}
use Rattle.mip_afresh_mobile.proofs.NodeLaws.{lost-due}
use Rattle.mip_afresh_mobile.proofs.node.Node.due.Goals as goal

pub returns-in-None : goal.returns-in-None
returns-in-None c =
    let past = c.self.inside.past in
    sym (lost-due past) ∙ ap (λ (m : NodeSeen). first_due (known_to m).list.timers) (ap (λ o. node_left o past) (sym c.in-None.is) ∙ c.self.view_is)
