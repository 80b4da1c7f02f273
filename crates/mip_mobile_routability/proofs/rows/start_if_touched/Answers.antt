use Rattle.std.proofs.Common.{true, false, sym, ◌∙◌, subst, OnOk}
use Rattle.mip_rules_mobile.specs.Transitions.{Transition}
use Rattle.mip_mobile_context.specs.Seen.{Shows}
use Rattle.mip_mobile_context.proofs.Noted.{shows-known}
use Rattle.mip_mobile_routability.proofs.PeerShows.{deletion-by}
use Rattle.mip_mobile_routability.proofs.rows.start_if_touched.Goals as goal

pub returns-then-is_touched_row : goal.returns-then-is_touched_row
returns-then-is_touched_row c = λ t shows.
    let d = c.args.context.now in
    subst (λ (u : Transition). OnOk c.start.result (Shows c.start.new.context u))
    (deletion-by c.args.row t d.known true (shows-known d t shows) (sym c.if-is_touched_row.true ∙ c.is_touched_row.ensures))
    (c.start.ensures t shows)

pub returns-else-is_touched_row : goal.returns-else-is_touched_row
returns-else-is_touched_row c = λ t shows.
    let d = c.args.context.now in
    subst (λ (u : Transition). Shows d u)
    (deletion-by c.args.row t d.known false (shows-known d t shows) (sym c.if-is_touched_row.false ∙ c.is_touched_row.ensures))
    shows
