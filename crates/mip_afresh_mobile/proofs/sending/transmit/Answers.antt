use Rattle.mip_rules_mobile.specs.RowQuestions.{bound_row_of}
use Rattle.mip_rules_mobile.specs.Doing.{transmits_from, transmits}
use Rattle.mip_afresh_mobile.proofs.Turned.{shows-seen, found, asked}
use Rattle.mip_afresh_mobile.proofs.sending.transmit.Goals as goal

pub returns : goal.returns
unfolding transmits
returns c = λ t held shows.
    let turn = c.args.turn.now in
    let to = c.args.to.address in
    let proto = c.args.payload.now.proto in
    let payload = c.args.payload.now.bytes.now in
    let row = bound_row_of t.known t.now to in
    let result = c.transmit_from.result in
    let new = c.transmit_from.new.turn in
    asked result new (λ standing. transmits_from standing row to proto payload t) c.standing-standing.result t.known.standing (c.standing-standing.ensures t.known (shows-seen turn t shows))
    (asked result new (λ o. transmits_from c.standing-standing.result o to proto payload t) c.bound_row_of-row.result row
    (found turn t (λ k now. bound_row_of k now to) c.bound_row_of-row.result c.bound_row_of-row.ensures shows)
    (c.transmit_from.ensures t held shows))
