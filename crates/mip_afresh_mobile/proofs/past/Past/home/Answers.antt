use Rattle.std.proofs.Common.{sym, ap, ◌∙◌}
use Rattle.mip_afresh_mobile.specs.Nodes.{NodeSeen}
use Rattle.mip_afresh_mobile.specs.Pasts.{first_secrets, new_node}
use Rattle.mip_afresh_mobile.proofs.PastLaws.{home-kept}
use Rattle.mip_afresh_mobile.proofs.past.Past.home.Goals as goal

pub returns : goal.returns
returns c =
    let p = c.self.inside in
    sym (home-kept (new_node p.home p.declared p.numbers (first_secrets p.born.items)) p.called.items)
    ∙ ap (λ (m : NodeSeen). m.home) c.self.view_is
