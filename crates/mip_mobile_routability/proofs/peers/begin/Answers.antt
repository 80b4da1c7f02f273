use Rattle.std.proofs.Common.{true, false, sym, ◌∙◌, subst, OnOk}
use Rattle.mip_rules_mobile.specs.Transitions.{Transition}
use Rattle.mip_mobile_context.specs.Seen.{Shows}
use Rattle.mip_mobile_context.proofs.Noted.{shows-known, shows-moment}
use Rattle.mip_mobile_routability.proofs.PeerShows.{begins-by}
use Rattle.mip_mobile_routability.proofs.peers.begin.Goals as goal

pub returns-then-may_begin : goal.returns-then-may_begin
returns-then-may_begin c = λ t shows.
    let d = c.args.context.now in
    subst (λ (u : Transition). OnOk c.start.result (Shows c.start.new.context u))
    (begins-by c.args.row t d.known d.moment true (shows-known d t shows) (shows-moment d t shows) (sym c.if-may_begin.true ∙ c.may_begin.ensures))
    (c.start.ensures t shows)

pub returns-else-may_begin : goal.returns-else-may_begin
returns-else-may_begin c = λ t shows.
    let d = c.args.context.now in
    subst (λ (u : Transition). Shows d u)
    (begins-by c.args.row t d.known d.moment false (shows-known d t shows) (shows-moment d t shows) (sym c.if-may_begin.false ∙ c.may_begin.ensures))
    shows
