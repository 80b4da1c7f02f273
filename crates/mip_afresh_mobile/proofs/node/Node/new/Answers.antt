use Rattle.std.proofs.Common.{sym, ap, ◌∙◌}
use Rattle.mip_afresh_mobile_state.specs.Mobiles.{seen_of}
use Rattle.mip_afresh_mobile.specs.Nodes.{NodeSeen, known_to}
use Rattle.mip_afresh_mobile.proofs.NodeLaws.{known-new}
use Rattle.mip_afresh_mobile.proofs.node.Node.new.Goals as goal

pub invariant_of-result : goal.invariant_of-result
invariant_of-result c =
    ap (λ (m : NodeSeen). seen_of (known_to m)) c.new-past.ensures
    ∙ ap seen_of (known-new c.args.home c.args.declared c.args.numbers c.args.secrets)
    ∙ sym c.in_ok-mobile.ensures
