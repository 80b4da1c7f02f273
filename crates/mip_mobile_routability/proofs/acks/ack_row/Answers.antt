use Rattle.std.proofs.Common.{◌≡◌, ℕ, Bool, true, rules, sym, ap, ◌∙◌, subst, OnOk}
use Rattle.std.specs.Prelude.{Option, Some, if◌then◌else◌}
use Rattle.std.specs.Option.{option_map_or}
use Rattle.mip_words.specs.declared.address.Address.{Address}
use Rattle.mip_words.specs.declared.why.Why.TheVariants as whys
use Rattle.mip_bulist.specs.declared.any.Any.{Any}
use Rattle.mip_bulist.specs.declared.any.Any.TheVariants.{Pending}
use Rattle.mip_rules_mobile.specs.HomeQuestions.{home_of}
use Rattle.mip_rules_mobile.specs.RowQuestions.{trial_of}
use Rattle.mip_rules_mobile.specs.Steps.{Drops}
use Rattle.mip_rules_mobile.specs.Trials.{sent_at}
use Rattle.mip_rules_mobile.specs.PeerRules.{acknowledges, takes_peer_ack, acks_trial}
use Rattle.mip_rules_mobile.specs.Transitions.{Transition, noted}
use Rattle.mip_mobile_context.specs.Seen.{Shows}
use Rattle.mip_mobile_context.proofs.Noted.{shows-moment}
use Rattle.mip_mobile_routability.proofs.acks.ack_row.Goals as goal

pub returns-in-Some-Pending : goal.returns-in-Some-Pending
returns-in-Some-Pending c = λ t shows.
    let d = c.args.context.now in
    let a = c.args.ack.now in
    let u = c.in-Some-Pending.trial in
    let is : trial_of d.known c.args.at.row ≡ Some (Pending u) = search rules in
    let sent = c.sent_at-sent.ensures.value u is ∙ ap (λ (n : ℕ). option_map_or (λ m. m.0) (sent_at u) n) (sym (shows-moment d t shows)) in
    let trusted : acknowledges (home_of d.known) a.status a.sequence a.authenticator a.message.now u ≡ true =
    ap (λ (h : Address). acknowledges h a.status a.sequence a.authenticator a.message.now u) (sym c.home-home.ensures.value) ∙ sym c.acknowledges.ensures ∙ c.if-acknowledges.true in
    subst (λ (o : Option Any). OnOk c.take_peer_ack.result (Shows c.take_peer_ack.new.context (acks_trial c.args.number c.args.at.row (home_of d.known) a.status a.sequence a.lifetime a.authenticator a.message.now o t))) (sym is)
    (subst (λ (b : Bool). OnOk c.take_peer_ack.result (Shows c.take_peer_ack.new.context (let v : Transition = (if b then takes_peer_ack c.args.at.row u a.status a.sequence a.lifetime t else noted (Drops c.args.number whys.Ack) t) in v))) (sym trusted)
    (c.take_peer_ack.ensures u t (record { peer = c.peer.ensures; binds_to = c.binds_to.ensures; sent = sent }) shows))
