use Rattle.std.proofs.Common.{subst, OnOk}
use Rattle.mip_rules_mobile.specs.Transitions.{Transition}
use Rattle.mip_mobile_context.specs.Seen.{Shows}
use Rattle.mip_mobile_context.proofs.Noted.{shows-known, shows-moment}
use Rattle.mip_mobile_routability.proofs.PeerShows.{refresh-by}
use Rattle.mip_mobile_routability.proofs.peers.take_refresh.Goals as goal

pub returns : goal.returns
returns c = λ t shows.
    let d = c.args.context.now in
    subst (λ (u : Transition). OnOk c.renew.result (Shows c.renew.new.context u))
    (refresh-by c.args.number c.args.peer t d.known d.moment c.bound_row_of-row.result (shows-known d t shows) (shows-moment d t shows) c.bound_row_of-row.ensures.row)
    (c.renew.ensures t shows)
