use Rattle.std.proofs.Common.{ℕ, sym, ap, ◌∙◌, subst}
use Rattle.mip_words.specs.declared.address.Address.{Address}
use Rattle.mip_bulist.specs.declared.work.Work.TheVariants.{Resend}
use Rattle.mip_rules_mobile.specs.Sendings.{PeerUpdate, update_packet}
use Rattle.mip_rules_mobile.specs.HomeQuestions.{home_of, binding_number_of}
use Rattle.mip_rules_mobile.specs.Steps.{Updates, Waits}
use Rattle.mip_rules_mobile.specs.Known.{Known}
use Rattle.mip_rules_mobile.specs.Transitions.{noted}
use Rattle.mip_mobile_context.specs.Seen.{ContextSeen, Shows}
use Rattle.mip_mobile_context.proofs.Noted.{shows-known}
use Rattle.mip_mobile_routability.proofs.trials.send_update.Goals as goal

pub returns : goal.returns
returns c = λ t shows.
    let k = c.args.context.now.known in
    let update = λ (h : Address) (n : ℕ). (let u : PeerUpdate = record { home = h; source = c.args.source; peer = c.args.at.peer; number = n; made = c.args.made.now } in u) in
    let told =
    c.in_ok-packet.ensures
    ∙ ap (λ (h : Address). update_packet (update h c.binding_number.result)) c.home.ensures.value
    ∙ ap (λ (n : ℕ). update_packet (update (home_of k) n)) c.binding_number.ensures.value in
    let sent = subst (λ (d : ContextSeen). Shows d (noted (Updates c.args.at.row (update (home_of k) (binding_number_of k))) t)) (sym c.keep_kbm.ensures) (c.in_ok-put_update.ensures t told shows) in
    subst (λ (k : Known). Shows c.wait_row.new.self (noted (Waits (Resend c.args.at.row) c.args.wait) (noted (Updates c.args.at.row (update (home_of k) (binding_number_of k))) t))) (sym (shows-known c.args.context.now t shows))
    (c.wait_row.ensures _ sent)
