use Rattle.std.proofs.Common.{◌≡◌, map, ap, subst, ◌∙◌}
use Rattle.std.specs.Prelude.{IfOk}
use Rattle.std.proofs.lemmas.Result.{IfOk-weaker}
use Rattle.mip_history.specs.Runs.{notes}
use Rattle.mip_history.specs.Nodes.{shown}
use Rattle.mip_afresh_bindings.specs.Accepted.{acceptance_seen}
use Rattle.mip_afresh_bindings.specs.Showing.{row_seen}
use Rattle.mip_afresh_nodes.specs.Members.{StandingSeen}
use Rattle.mip_afresh_nodes.proofs.ShowingLaws.{member_rows, member_shown}
use Rattle.mip_afresh_nodes.proofs.showing.shown_by.Goals as goal

pub returns : goal.returns
returns c =
    let t = c.standing.inside.telling.now in
    let m = c.standing.inside.member in
    subst (λ (v : StandingSeen). IfOk c.entries_of.result (λ es. notes es.items v.telling.run ≡ shown v.telling.setup v.member.node.0 v.telling.run)) c.standing.view_is
    (IfOk-weaker c.entries_of.result _ _
    (λ es is. member_shown t.setup t.run m es.items c.standing.invariant.member
    (is ∙ member_rows t.setup t.run m (map acceptance_seen c.deref.result.now) c.now.result.0 (map row_seen c.deref-2.result.now) c.standing.invariant.run c.standing.invariant.member
    c.now.ensures (ap (map acceptance_seen) c.deref.ensures.value ∙ c.in_ok-accepted.ensures) (ap (map row_seen) c.deref-2.ensures.value ∙ c.in_ok-rows.ensures)))
    c.entries_of.ensures)
