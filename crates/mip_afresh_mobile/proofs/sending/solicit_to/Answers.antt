use Rattle.std.proofs.Common.{sym, ap, ◌∙◌}
use Rattle.mip_words.specs.declared.address.Address.{Address}
use Rattle.mip_rules_mobile.specs.HomeQuestions.{home_of}
use Rattle.mip_rules_mobile.specs.Sendings.{Solicits, solicitation_packet}
use Rattle.mip_rules_mobile.specs.Steps.{Sends}
use Rattle.mip_rules_mobile.specs.Transitions.{noted}
use Rattle.mip_afresh_mobile_state.specs.Mobiles.{MobileSeen}
use Rattle.mip_afresh_mobile_state.specs.Turns.{home_in}
use Rattle.mip_afresh_mobile.proofs.Turned.{shows-seen, asked}
use Rattle.mip_afresh_mobile.proofs.sending.solicit_to.Goals as goal

pub returns : goal.returns
returns c = λ t shows.
    let turn = c.args.turn.now in
    let careof = c.args.careof in
    let agent = c.args.agent in
    let identifier = c.solicitations-identifier.result in
    let seen = shows-seen turn t shows in
    let own = ap (λ (m : MobileSeen). m.identity.own) seen in
    let result = c.send_solicitation.result in
    let new = c.send_solicitation.new.self in
    asked result new (λ home. noted (Sends (Solicits home careof agent t.known.solicitations)) t) (home_in turn) (home_of t.known) (sym own)
    (asked result new (λ i. noted (Sends (Solicits (home_in turn) careof agent i)) t) identifier t.known.solicitations (c.solicitations-identifier.ensures t.known seen)
    (c.send_solicitation.ensures
    (c.in_ok-packet.ensures ∙ ap (λ (home : Address). solicitation_packet home careof agent identifier) (c.home.ensures t.known seen ∙ own))
    t shows))
