use Rattle.std.proofs.Common.{sym, ◌∙◌, List, subst, OnOk}
use Rattle.mip_words.specs.declared.address.Address.{Address}
use Rattle.mip_bulist.specs.declared.home_timer.HomeTimer.TheVariants as home_timers
use Rattle.mip_bulist.specs.declared.work.Work.TheVariants.{Home}
use Rattle.mip_rules_mobile.specs.HomeRules.{registers}
use Rattle.mip_rules_mobile.specs.Steps.{Finds, Chooses, Stops}
use Rattle.mip_rules_mobile.specs.Transitions.{noted}
use Rattle.mip_mobile_registration.specs.Seen.{Shows}
use Rattle.mip_mobile_registration.proofs.Noted.{shows-known}
use Rattle.mip_mobile_calls.proofs.Named.{first-found, same_first, not-none}
use Rattle.mip_mobile_calls.proofs.icmp.find_all.Goals as goal

pub returns-in_ok-choose-in-Some : goal.returns-in_ok-choose-in-Some
returns-in_ok-choose-in-Some c = λ first others t is shows.
    let careof = c.args.careof in
    let stopped = c.stop.ensures (noted (Finds c.args.agents) t) (c.find.ensures t shows) in
    let next = first-found first others c.args.agents t c.stop.new.self.known c.next_found.result is (shows-known c.stop.new.self _ stopped) c.next_found.ensures.found in
    subst (λ (l : List Address). OnOk c.register.result (Shows c.register.new.context (registers careof (noted (Chooses first) (noted (Stops (Home home_timers.Discover)) (noted (Finds l) t)))))) is
    (subst (λ (a : Address). OnOk c.register.result (Shows c.register.new.context (registers careof (noted (Chooses a) (noted (Stops (Home home_timers.Discover)) (noted (Finds c.args.agents) t))))))
    (same_first c.in-Some.first first (sym c.in-Some.is ∙ next))
    (c.register.ensures _ (c.in_ok-choose-in-Some.ensures _ stopped)))

pub returns-in-None : goal.returns-in-None
returns-in-None c = λ first others t is shows.
    let stopped = c.stop.ensures (noted (Finds c.args.agents) t) (c.find.ensures t shows) in
    let next = first-found first others c.args.agents t c.stop.new.self.known c.next_found.result is (shows-known c.stop.new.self _ stopped) c.next_found.ensures.found in
    not-none first _ (sym c.in-None.is ∙ next)
