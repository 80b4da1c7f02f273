use Rattle.std.proofs.Common.{sym, ap, ◌∙◌, subst, OnOk}
use Rattle.std.specs.Prelude.{Option}
use Rattle.mip_rules_mobile.specs.Transitions.{Transition}
use Rattle.mip_mobile_context.specs.Seen.{Shows}
use Rattle.mip_mobile_context.proofs.Noted.{shows-known}
use Rattle.mip_mobile_registration.proofs.HomeShows.{registers-some, registers-none}
use Rattle.mip_rules_mobile.specs.declared.home_update.HomeUpdate.{HomeUpdate}
use Rattle.mip_rules_mobile.specs.HomeRules.{wait_behind}
use Rattle.mip_mobile_registration.proofs.home.register.Goals as goal

pub returns-in-Some : goal.returns-in-Some
returns-in-Some c = λ t shows.
    let known = shows-known c.args.context.now t shows in
    subst (λ (u : Transition). OnOk c.register_with.result (Shows c.register_with.new.context u))
    (registers-some c.args.careof c.in-Some.agent c.wait_behind-wait.result t c.args.context.now.known known (sym c.target.ensures ∙ c.in-Some.is) (c.wait_behind-wait.ensures ∙ ap (λ (o : Option HomeUpdate). wait_behind o) c.latest.ensures.value))
    (c.register_with.ensures t shows)

pub returns-in-None : goal.returns-in-None
returns-in-None c = λ t shows.
    let known = shows-known c.args.context.now t shows in
    subst (λ (u : Transition). OnOk c.seek.result (Shows c.seek.new.context u)) (registers-none c.args.careof t c.args.context.now.known known (sym c.target.ensures ∙ c.in-None.is)) (c.seek.ensures t shows)
