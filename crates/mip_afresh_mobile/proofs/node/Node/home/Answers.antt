use Rattle.std.proofs.Common.{◌≡◌, refl, ap, ◌∙◌}
use Rattle.std.specs.Prelude.{Option, Some, None}
use Rattle.mip_afresh_mobile_state.specs.Mobiles.{MobileSeen}
use Rattle.mip_afresh_mobile.specs.Nodes.{NodeSeen}
use Rattle.mip_afresh_mobile.specs.Pasts.{node_left}
use Rattle.mip_afresh_mobile.proofs.node.Node.home.Goals as goal

stays : (o : Option MobileSeen) (m : NodeSeen) → m.home ≡ (node_left o m).home
stays None m = refl
stays (Some known) m = refl

pub returns : goal.returns
returns c = c.home.ensures ∙ stays c.self.inside.mobile c.self.inside.past ∙ ap (λ (m : NodeSeen). m.home) c.self.view_is
