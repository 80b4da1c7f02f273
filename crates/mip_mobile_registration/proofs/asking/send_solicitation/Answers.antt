use Rattle.std.proofs.Common.{sym, ap, ◌∙◌, ℕ, subst, OnOk}
use Rattle.mip_words.specs.declared.address.Address.{Address}
use Rattle.mip_rules_mobile.specs.Sendings.{Solicits, solicitation_packet}
use Rattle.mip_rules_mobile.specs.HomeQuestions.{home_of}
use Rattle.mip_rules_mobile.specs.Steps.{Sends}
use Rattle.mip_rules_mobile.specs.Known.{Known}
use Rattle.mip_rules_mobile.specs.Transitions.{noted}
use Rattle.mip_mobile_context.specs.Seen.{Shows}
use Rattle.mip_mobile_context.proofs.Noted.{shows-known}
use Rattle.mip_mobile_registration.proofs.asking.send_solicitation.Goals as goal

pub returns : goal.returns
returns c = λ t shows.
    let known = shows-known c.args.context.now t shows in
    let id : ℕ = c.next_solicitation-identifier.result in
    let told = c.in_ok-packet.ensures ∙ ap (λ (h : Address). solicitation_packet h c.args.careof c.args.agent id) c.home.ensures.value in
    subst (λ (k : Known). OnOk c.put_solicitation.result (Shows c.put_solicitation.new.self (noted (Sends (Solicits (home_of k) c.args.careof c.args.agent k.solicitations)) t))) (sym known)
    (subst (λ (n : ℕ). OnOk c.put_solicitation.result (Shows c.put_solicitation.new.self (noted (Sends (Solicits (home_of c.args.context.now.known) c.args.careof c.args.agent n)) t))) c.next_solicitation-identifier.ensures
    (c.put_solicitation.ensures t told shows))
