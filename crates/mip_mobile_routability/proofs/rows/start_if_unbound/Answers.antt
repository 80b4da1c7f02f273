use Rattle.std.proofs.Common.{true, false, sym, ◌∙◌, subst, OnOk}
use Rattle.mip_rules_mobile.specs.Transitions.{Transition}
use Rattle.mip_mobile_context.specs.Seen.{Shows}
use Rattle.mip_mobile_context.proofs.Noted.{shows-known, shows-moment}
use Rattle.mip_mobile_routability.proofs.PeerShows.{bound-by}
use Rattle.mip_mobile_routability.proofs.rows.start_if_unbound.Goals as goal

pub returns-then-is_due : goal.returns-then-is_due
returns-then-is_due c = λ t shows.
    let d = c.args.context.now in
    subst (λ (u : Transition). OnOk c.start.result (Shows c.start.new.context u))
    (bound-by c.args.row t d.known d.moment true (shows-known d t shows) (shows-moment d t shows) (sym c.if-is_due.true ∙ c.is_due.ensures))
    (c.start.ensures t shows)

pub returns-else-is_due : goal.returns-else-is_due
returns-else-is_due c = λ t shows.
    let d = c.args.context.now in
    subst (λ (u : Transition). Shows d u)
    (bound-by c.args.row t d.known d.moment false (shows-known d t shows) (shows-moment d t shows) (sym c.if-is_due.false ∙ c.is_due.ensures))
    shows
