use Rattle.std.proofs.Common.{sym, ◌∙◌, subst, OnOk}
use Rattle.std.specs.Prelude.{Ok}
use Rattle.mip_rules_mobile.specs.Steps.{Meets}
use Rattle.mip_rules_mobile.specs.Transitions.{Transition, noted}
use Rattle.mip_mobile_context.specs.Seen.{Shows}
use Rattle.mip_mobile_context.proofs.Noted.{shows-known}
use Rattle.mip_mobile_routability.proofs.PeerShows.{meets-by, meets-nobody}
use Rattle.mip_mobile_routability.proofs.peers.meet.Goals as goal

pub returns-in-Ok : goal.returns-in-Ok
returns-in-Ok c = λ t shows.
    let d = c.args.context.now in
    subst (λ (u : Transition). OnOk c.begin.result (Shows c.begin.new.context u))
    (meets-by c.args.peer t d.known (Ok c.in-Ok.row) (shows-known d t shows) (sym c.in-Ok.is ∙ c.meet.ensures.row))
    (c.begin.ensures (noted (Meets c.args.peer) t) (c.meet.ensures.shows t shows))

pub returns-in-Err : goal.returns-in-Err
returns-in-Err c = λ t shows.
    let d = c.args.context.now in
    subst (λ (u : Transition). Shows c.meet.new.self u)
    (meets-nobody c.args.peer t d.known _ (shows-known d t shows) (sym c.meet.ensures.row ∙ c.in-Err.is))
    (c.meet.ensures.shows t shows)
