use Rattle.std.proofs.Common.{true, false, sym, ap, ◌∙◌, refl, subst, OnOk}
use Rattle.mip_rules_mobile.specs.declared.attachment.Attachment.{Attachment}
use Rattle.mip_rules_mobile.specs.PeerRules.{comes_right, test_at, cookie, home_row}
use Rattle.mip_rules_mobile.specs.RowQuestions.{row_of}
use Rattle.mip_rules_mobile.specs.Transitions.{Transition}
use Rattle.mip_mobile_context.specs.Seen.{Shows}
use Rattle.mip_mobile_context.proofs.Noted.{shows-known, shows-moment}
use Rattle.mip_mobile_routability.proofs.PeerShows.{home-test-by}
use Rattle.mip_mobile_routability.proofs.peers.take_home_test.Goals as goal

pub returns-then-comes_right : goal.returns-then-comes_right
returns-then-comes_right c = λ t shows.
    let d = c.args.context.now in
    let h = c.args.test.now in
    subst (λ (u : Transition). OnOk c.keep_home_test.result (Shows c.keep_home_test.new.context u))
    (home-test-by c.args.number c.args.tunnelled h.peer h.index h.cookie.0 h.token.0 t d.known d.moment true c.home_row-row.result (shows-known d t shows) (shows-moment d t shows)
    (sym c.if-comes_right.true ∙ c.comes_right.ensures ∙ ap (λ (s : Attachment). comes_right s c.args.tunnelled) c.standing.ensures)
    (c.home_row-row.ensures.row (test_at d.moment h.index h.token.0)))
    (c.keep_home_test.ensures t shows)

pub returns-else-comes_right : goal.returns-else-comes_right
returns-else-comes_right c = λ t shows.
    let d = c.args.context.now in
    let h = c.args.test.now in
    subst (λ (u : Transition). OnOk c.drop_packet.result (Shows c.drop_packet.new.self u))
    (home-test-by c.args.number c.args.tunnelled h.peer h.index h.cookie.0 h.token.0 t d.known d.moment false (home_row d.known h.peer (cookie h.cookie.0) (test_at d.moment h.index h.token.0) (row_of d.known h.peer)) (shows-known d t shows) (shows-moment d t shows)
    (sym c.if-comes_right.false ∙ c.comes_right.ensures ∙ ap (λ (s : Attachment). comes_right s c.args.tunnelled) c.standing.ensures)
    refl)
    (c.drop_packet.ensures t shows)
