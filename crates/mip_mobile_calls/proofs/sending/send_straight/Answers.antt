use Rattle.std.proofs.Common.{ap, ◌∙◌, refl, OnOk}
use Rattle.std.specs.Prelude.{Option, Some}
use Rattle.mip_words.specs.declared.address.Address.{Address}
use Rattle.mip_ipv6.specs.declared.head.Head.{Head}
use Rattle.mip_packets.specs.Packets.{data_packet}
use Rattle.mip_rules_correspondent.specs.Questions.{held_of}
use Rattle.mip_rules_mobile.specs.declared.attachment.Attachment.TheVariants.{Away}
use Rattle.mip_mobile_calls.proofs.Contexts.{transition_at, from-context}
use Rattle.mip_mobile_registration.specs.Seen.{Shows}
use Rattle.mip_rules_mobile.specs.HomeQuestions.{home_of}
use Rattle.mip_rules_mobile.specs.Sendings.{SendsData, data_head}
use Rattle.mip_rules_mobile.specs.Doing.{transmits_from}
use Rattle.mip_mobile_calls.proofs.sending.send_straight.Goals as goal

pub returns : goal.returns
returns c =
    let d = c.args.context.now in
    let home = home_of d.known in
    let careof = c.args.careof in
    let to = c.args.to in
    let proto = c.args.data.now.proto in
    let held = held_of d.known.part.known d.moment to in
    from-context d (λ t. OnOk c.put.result (Shows c.put.new.self (transmits_from (Away careof) (Some c.args.row) to proto c.args.data.now.payload.now t)))
    (λ steps shows. c.put.ensures (SendsData home careof to held proto c.args.data.now.payload.now) (transition_at d steps) tt refl
    (c.in_ok-packet.ensures.bytes
    ∙ ap (λ (h : Head). data_packet h c.args.data.now.payload.now)
    (c.data_head-head.ensures.head ∙ ap (λ (a : Address). data_head a careof to proto c.held_of-held.result) c.home.ensures.value ∙ ap (λ (o : Option Address). data_head home careof to proto o) c.held_of-held.ensures.value))
    shows)
