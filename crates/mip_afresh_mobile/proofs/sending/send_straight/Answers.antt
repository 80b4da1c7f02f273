use Rattle.std.proofs.Common.{refl, sym, ap, ◌∙◌, ℕ}
use Rattle.std.specs.Prelude.{Option}
use Rattle.mip_words.specs.declared.address.Address.{Address}
use Rattle.mip_reception.specs.Packets.{data_packet}
use Rattle.mip_rules_correspondent.specs.Questions.{held_of}
use Rattle.mip_rules_mobile.specs.HomeQuestions.{home_of}
use Rattle.mip_rules_mobile.specs.Sendings.{SendsData, data_head}
use Rattle.mip_afresh_mobile.proofs.Turned.{shows-now, shows-seen}
use Rattle.mip_afresh_mobile.proofs.sending.send_straight.Goals as goal

pub returns : goal.returns
returns c = λ row t held shows.
    let turn = c.args.turn.now in
    let to = c.args.to.address in
    let proto = c.args.payload.now.proto in
    let bytes = c.args.payload.now.bytes.now in
    let known = t.known.part.known in
    let packet = λ (home : Address) (o : Option Address). data_packet (data_head home c.args.careof to proto o) bytes in
    c.send_packet.ensures (SendsData (home_of t.known) c.args.careof to (held_of known t.now to) proto bytes) (record {}) refl
    (c.in_ok-packet.ensures
    ∙ ap (λ (home : Address). packet home c.args.held) (c.home-home.ensures t.known (shows-seen turn t shows))
    ∙ ap (λ (o : Option Address). packet (home_of t.known) o) (held ∙ ap (λ (n : ℕ). held_of known n to) (sym (shows-now turn t shows))))
    t shows
