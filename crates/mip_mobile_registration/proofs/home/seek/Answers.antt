use Rattle.std.proofs.Common.{sym, ap, ◌∙◌, ℕ, subst, refl}
use Rattle.mip_words.specs.declared.address.Address.{Address}
use Rattle.mip_rules_mobile.specs.Known.{Known}
use Rattle.mip_rules_mobile.specs.Transitions.{noted}
use Rattle.mip_mobile_context.specs.Seen.{Shows}
use Rattle.mip_mobile_context.proofs.Noted.{shows-known}
use Rattle.mip_bulist.specs.declared.home_timer.HomeTimer.TheVariants as home_timers
use Rattle.mip_bulist.specs.declared.work.Work.TheVariants.{Home}
use Rattle.mip_rules_mobile.specs.Sendings.{Discovers, discovery_packet}
use Rattle.mip_rules_mobile.specs.HomeQuestions.{home_of}
use Rattle.mip_rules_mobile.specs.Steps.{Sends, Seeks, Waits}
use Rattle.mip_rules_mobile.specs.HomeRules.{seeks}
use Rattle.mip_mobile_registration.proofs.home.seek.Goals as goal

pub returns : goal.returns
unfolding seeks
returns c = λ t shows.
    let known = shows-known c.args.context.now t shows in
    let home : Address = home_of c.args.context.now.known in
    let id : ℕ = c.next_discovery-identifier.result in
    let told = c.in_ok-packet.ensures ∙ ap (λ (h : Address). discovery_packet h c.args.careof id) c.home.ensures.value in
    let begins = c.seek.ensures t shows in
    let sent = c.in_ok-put.ensures (Discovers home c.args.careof id) (noted Seeks t) tt refl told begins in
    let waits = c.wait_home.ensures _ sent in
    subst (λ (k : Known). Shows c.wait_home.new.self (noted (Waits (Home home_timers.Discover) 3000) (noted (Sends (Discovers (home_of k) c.args.careof k.discoveries)) (noted Seeks t)))) (sym known)
    (subst (λ (n : ℕ). Shows c.wait_home.new.self (noted (Waits (Home home_timers.Discover) 3000) (noted (Sends (Discovers home c.args.careof n)) (noted Seeks t)))) c.next_discovery-identifier.ensures waits)
