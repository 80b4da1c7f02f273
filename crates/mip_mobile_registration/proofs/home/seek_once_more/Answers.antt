use Rattle.std.proofs.Common.{sym, ap, ◌∙◌, refl, subst}
use Rattle.mip_words.specs.declared.address.Address.{Address}
use Rattle.mip_rules_mobile.specs.HomeQuestions.{home_of}
use Rattle.mip_rules_mobile.specs.Sendings.{Discovers, discovery_packet}
use Rattle.mip_rules_mobile.specs.Steps.{SeeksAgain}
use Rattle.mip_rules_mobile.specs.Transitions.{Transition, noted}
use Rattle.mip_mobile_context.specs.Seen.{Shows}
use Rattle.mip_mobile_context.proofs.Noted.{shows-known, shows-moment}
use Rattle.mip_mobile_registration.proofs.Seeking.{again-some, again-none, given-up}
use Rattle.mip_mobile_registration.proofs.home.seek_once_more.Goals as goal

pub returns-in_ok-put-in-Some : goal.returns-in_ok-put-in-Some
returns-in_ok-put-in-Some c = λ d t under shows.
    let told = c.in_ok-packet.ensures ∙ ap (λ (h : Address). discovery_packet h c.args.careof c.args.identifier) c.home.ensures.value in
    let again = c.seek_again.ensures t shows in
    let sent = c.in_ok-put-in-Some.ensures (Discovers (home_of c.args.context.now.known) c.args.careof c.args.identifier) (noted SeeksAgain t) tt refl told again in
    let waits = c.wait_home.ensures _ sent in
    subst (λ (u : Transition). Shows c.wait_home.new.self u)
    (again-some c.args.careof c.args.identifier c.in-Some.wait c.args.context.now.moment t c.args.context.now.known c.seek_again.new.self.known d
    (shows-known c.args.context.now t shows) (shows-moment c.args.context.now t shows) under (shows-known c.seek_again.new.self (noted SeeksAgain t) again)
    (sym c.in-Some.is ∙ c.discovery_wait.ensures.value)) waits

pub returns-in-None : goal.returns-in-None
returns-in-None c = λ d t under shows.
    let again = c.seek_again.ensures t shows in
    let over = given-up c.give_up.new.self t (c.give_up.ensures (noted SeeksAgain t) again) in
    subst (λ (u : Transition). Shows c.give_up.new.self u)
    (again-none c.args.careof c.args.identifier c.args.context.now.moment t c.args.context.now.known c.seek_again.new.self.known d
    (shows-known c.args.context.now t shows) (shows-moment c.args.context.now t shows) under (shows-known c.seek_again.new.self (noted SeeksAgain t) again)
    (sym c.in-None.is ∙ c.discovery_wait.ensures.value)) over
