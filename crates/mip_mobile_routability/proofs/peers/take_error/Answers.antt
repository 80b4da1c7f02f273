use Rattle.std.proofs.Common.{true, false, sym, ◌∙◌, refl, subst, OnOk}
use Rattle.mip_rules_mobile.specs.RowQuestions.{bound_row_of}
use Rattle.mip_rules_mobile.specs.Transitions.{Transition}
use Rattle.mip_mobile_context.specs.Seen.{Shows}
use Rattle.mip_mobile_context.proofs.Noted.{shows-known, shows-moment}
use Rattle.mip_mobile_routability.proofs.PeerShows.{error-by}
use Rattle.mip_mobile_routability.proofs.peers.take_error.Goals as goal

pub returns-then-denies_binding : goal.returns-then-denies_binding
returns-then-denies_binding c = λ t shows.
    let d = c.args.context.now in
    subst (λ (u : Transition). OnOk c.lose.result (Shows c.lose.new.context u))
    (error-by c.args.number c.args.peer c.args.status c.args.home t d.known d.moment true c.bound_row_of-bound.result (shows-known d t shows) (shows-moment d t shows)
    (sym c.if-denies_binding.true ∙ c.denies_binding.ensures) c.bound_row_of-bound.ensures.row)
    (c.lose.ensures t shows)

pub returns-else-denies_binding : goal.returns-else-denies_binding
returns-else-denies_binding c = λ t shows.
    let d = c.args.context.now in
    subst (λ (u : Transition). OnOk c.drop_packet.result (Shows c.drop_packet.new.self u))
    (error-by c.args.number c.args.peer c.args.status c.args.home t d.known d.moment false (bound_row_of d.known d.moment c.args.peer) (shows-known d t shows) (shows-moment d t shows)
    (sym c.if-denies_binding.false ∙ c.denies_binding.ensures) refl)
    (c.drop_packet.ensures t shows)
