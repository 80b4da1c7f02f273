use Rattle.mip_rules_mobile.specs.RowQuestions.{row_of}
use Rattle.mip_rules_mobile.specs.PeerRules.{acks_row, takes_ack_of}
use Rattle.mip_afresh_mobile.proofs.Turned.{shows-seen, asked}
use Rattle.mip_afresh_mobile.proofs.acknowledging.take_ack_of.Goals as goal

pub returns : goal.returns
unfolding takes_ack_of
returns c = λ t shows.
    let ack = c.args.ack.now in
    asked c.ack_row.result c.ack_row.new.turn (λ row. acks_row c.args.number row ack.status ack.sequence ack.lifetime ack.authenticator c.args.message.now t)
    c.row_of-row.result (row_of t.known c.args.peer) (c.row_of-row.ensures t.known (shows-seen c.args.turn.now t shows))
    (c.ack_row.ensures t shows)
