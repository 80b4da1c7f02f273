use Rattle.std.proofs.Common.{sym, ap, ◌∙◌, List, ℕ}
use Rattle.std.specs.Prelude.{Option}
use Rattle.mip_words.specs.declared.address.Address.{Address}
use Rattle.mip_ipv6.specs.Packet.{source_of}
use Rattle.mip_rules_mobile.specs.declared.attachment.Attachment.{Attachment}
use Rattle.mip_rules_mobile.specs.declared.home_update.HomeUpdate.{HomeUpdate}
use Rattle.mip_rules_mobile.specs.HomeRules.{answered_by}
use Rattle.mip_rules_mobile.specs.ReceivingRules.{acks_by, takes_ack}
use Rattle.mip_afresh_mobile.proofs.Turned.{shows-seen, asked}
use Rattle.mip_afresh_mobile.proofs.acknowledging.take_ack.Goals as goal

pub returns : goal.returns
unfolding takes_ack
returns c = λ options same t shows.
    let ack = c.args.ack.now in
    let handed = c.args.handed.now in
    let body = c.args.packet.now.body.now in
    let source = c.sender-source.result in
    let seen = shows-seen c.args.turn.now t shows in
    let answered = λ (standing : Attachment) (from : Address) (latest : Option HomeUpdate). answered_by standing handed.tunnelled handed.shield from ack.status ack.sequence latest in
    let rule = λ (o : Option HomeUpdate) (from : Address) (authenticator : Option (List ℕ)). acks_by o handed.number from ack.status ack.sequence ack.lifetime authenticator body t in
    let result = c.ack_by.result in
    let new = c.ack_by.new.turn in
    let own = source_of c.args.packet.now.head in
    asked result new (λ a. rule (answered t.known.standing own t.known.latest) own a) ack.authenticator options.authorization (sym same)
    (asked result new (λ from. rule (answered t.known.standing from t.known.latest) from ack.authenticator) source own c.sender-source.ensures
    (asked result new (λ o. rule o source ack.authenticator) c.answered_by-answered.result (answered t.known.standing source t.known.latest)
    (c.answered_by-answered.ensures
    ∙ ap (λ (s : Attachment). answered s source c.latest.result) (c.standing-standing.ensures t.known seen)
    ∙ ap (λ (l : Option HomeUpdate). answered t.known.standing source l) (c.latest.ensures t.known seen))
    (c.ack_by.ensures t shows)))
