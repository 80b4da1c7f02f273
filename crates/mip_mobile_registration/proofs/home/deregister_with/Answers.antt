use Rattle.std.proofs.Common.{sym, ap, ◌∙◌, ℕ, subst}
use Rattle.mip_words.specs.declared.address.Address.{Address}
use Rattle.mip_bulist.specs.declared.home_timer.HomeTimer.TheVariants as home_timers
use Rattle.mip_bulist.specs.declared.work.Work.TheVariants.{Home}
use Rattle.mip_rules_mobile.specs.Sendings.{DeregistersHome, deregistration_packet}
use Rattle.mip_rules_mobile.specs.HomeQuestions.{home_of, next_to}
use Rattle.mip_rules_mobile.specs.Steps.{Sends, Waits}
use Rattle.mip_rules_mobile.specs.Known.{Known}
use Rattle.mip_rules_mobile.specs.Transitions.{noted}
use Rattle.mip_rules_mobile.specs.HomeRules.{deregisters_with}
use Rattle.mip_mobile_context.specs.Seen.{Shows}
use Rattle.mip_mobile_context.proofs.Noted.{shows-known}
use Rattle.mip_mobile_registration.proofs.home.deregister_with.Goals as goal

pub returns : goal.returns
unfolding deregisters_with
returns c = λ t shows.
    let known = shows-known c.args.context.now t shows in
    let told = c.in_ok-packet.ensures ∙ ap (λ (h : Address). deregistration_packet h c.args.agent c.next_to-sequence.result) c.home.ensures.value in
    let sent = c.in_ok-put_deregistration.ensures t told shows in
    let waits = c.wait_home.ensures _ sent in
    subst (λ (k : Known). Shows c.wait_home.new.self (noted (Waits (Home home_timers.Resend) c.args.wait) (noted (Sends (DeregistersHome (home_of k) c.args.agent (next_to c.args.agent k.numberings))) t))) (sym known)
    (subst (λ (n : ℕ). Shows c.wait_home.new.self (noted (Waits (Home home_timers.Resend) c.args.wait) (noted (Sends (DeregistersHome (home_of c.args.context.now.known) c.args.agent n)) t))) c.next_to-sequence.ensures waits)
