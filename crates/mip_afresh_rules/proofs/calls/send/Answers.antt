use Rattle.std.proofs.Common.{refl, ap, subst, ◌∙◌}
use Rattle.std.specs.Prelude.{Option, List, ℕ}
use Rattle.mip_words.specs.declared.address.Address.{Address}
use Rattle.mip_ipv6.specs.declared.head.Head.{Head}
use Rattle.mip_packets.specs.Packets.{data_packet}
use Rattle.mip_rules_correspondent.specs.Calls.{Send}
use Rattle.mip_rules_correspondent.specs.Steps.{Sends}
use Rattle.mip_rules_correspondent.specs.Transitions.{noted}
use Rattle.mip_rules_correspondent.specs.Doing.{data_sent, transmits}
use Rattle.mip_afresh_rules.specs.Showing.{Shown}
use Rattle.mip_afresh_rules.proofs.ShowingLaws.{ended, held-here}
use Rattle.mip_afresh_rules.proofs.calls.send.Goals as goal

pub returns : goal.returns
unfolding transmits
returns c = λ now k held.
    let none = c.in_ok-answers.answers in
    let to = c.args.to.address in
    let payload = c.args.payload.now in
    let sent = λ (o : Option Address). data_sent c.args.me.now to payload.proto payload.bytes.now o in
    ended c.args.me.now k now (Send to payload.proto payload.bytes.now) none c.send_packet.new.answers refl c.in_ok-answers.ensures
    (λ t same begins.
    subst (λ (packet : List ℕ). Shown now c.send_packet.new.answers (noted (Sends packet) t))
    (c.in_ok-packet.ensures.bytes ∙ ap (λ (head : Head). data_packet head payload.bytes.now) c.data_head-head.ensures.head ∙ ap sent (held ∙ held-here k now to none t same begins))
    (c.in_ok-send_packet.ensures now t begins))
