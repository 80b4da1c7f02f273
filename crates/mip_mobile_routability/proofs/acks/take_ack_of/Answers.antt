use Rattle.std.proofs.Common.{sym, ◌∙◌, subst, OnOk}
use Rattle.mip_rules_mobile.specs.Transitions.{Transition}
use Rattle.mip_mobile_context.specs.Seen.{Shows}
use Rattle.mip_mobile_context.proofs.Noted.{shows-known}
use Rattle.mip_mobile_routability.proofs.PeerShows.{acks-row, acks-nobody}
use Rattle.mip_mobile_routability.proofs.acks.take_ack_of.Goals as goal

pub returns-in-Some : goal.returns-in-Some
returns-in-Some c = λ t shows.
    let d = c.args.context.now in
    let a = c.args.ack.now in
    subst (λ (u : Transition). OnOk c.ack_row.result (Shows c.ack_row.new.context u))
    (acks-row c.args.number c.in-Some.row c.args.peer a.status a.sequence a.lifetime a.authenticator a.message.now t d.known (shows-known d t shows) (sym c.row_of.ensures.row ∙ c.in-Some.is))
    (c.ack_row.ensures t shows)

pub returns-in-None : goal.returns-in-None
returns-in-None c = λ t shows.
    let d = c.args.context.now in
    let a = c.args.ack.now in
    subst (λ (u : Transition). OnOk c.drop_packet.result (Shows c.drop_packet.new.self u))
    (acks-nobody c.args.number c.args.peer a.status a.sequence a.lifetime a.authenticator a.message.now t d.known (shows-known d t shows) (sym c.row_of.ensures.row ∙ c.in-None.is))
    (c.drop_packet.ensures t shows)
