use Rattle.std.proofs.Common.{◌≡◌, List, map, sym, ap, ◌∙◌}
use Rattle.std.proofs.lemmas.Result.{IfOk-weaker}
use Rattle.mip_history.specs.Runs.{notes}
use Rattle.mip_afresh_bindings.specs.Accepted.{acceptance_seen}
use Rattle.mip_afresh_bindings.specs.Showing.{row_seen}
use Rattle.mip_afresh_nodes.proofs.PartShown.{part_shown}
use Rattle.mip_afresh_nodes.proofs.showing.shown_by_mobile.Goals as goal

pub returns : goal.returns
returns c =
    let t = c.args.telling.now in
    IfOk-weaker c.entries_of.result _ _
    (λ v is. part_shown t.setup t.run c.args.node c.requires.mobile c.requires.run (map acceptance_seen c.deref.result.now) c.now.result.0 c.now.ensures
    (ap (map acceptance_seen) c.deref.ensures.value ∙ c.in_ok-accepted.ensures) (map row_seen c.deref-2.result.now) (ap (map row_seen) c.deref-2.ensures.value ∙ c.in_ok-rows.ensures) v.items is)
    c.entries_of.ensures
