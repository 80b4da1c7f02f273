use Rattle.std.proofs.Common.{sym}
use Rattle.std.specs.Prelude.{Some}
use Rattle.mip_rules_mobile.specs.declared.attachment.Attachment.TheVariants.{Away}
use Rattle.mip_rules_mobile.specs.Doing.{transmits_from}
use Rattle.mip_afresh_mobile.proofs.Turned.{asked}
use Rattle.mip_afresh_mobile.proofs.sending.transmit_from.Goals as goal

pub returns-in-Away-Some : goal.returns-in-Away-Some
returns-in-Away-Some c = λ t held shows.
    let w = c.in-Away-Some in
    let to = c.args.to.address in
    let proto = c.args.payload.now.proto in
    let payload = c.args.payload.now.bytes.now in
    let result = c.send_straight.result in
    let new = c.send_straight.new.turn in
    asked result new (λ standing. transmits_from standing c.args.row to proto payload t) (Away w.careof) c.args.standing (sym w.is-0)
    (asked result new (λ row. transmits_from (Away w.careof) row to proto payload t) (Some w.field-0-1) c.args.row (sym w.is-1)
    (c.send_straight.ensures w.field-0-1 t held shows))
