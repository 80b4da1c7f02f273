use Rattle.std.proofs.Common.{sym, ◌∙◌, subst, OnOk, refl}
use Rattle.std.specs.Prelude.{Some, None}
use Rattle.mip_rules_mobile.specs.Transitions.{Transition}
use Rattle.mip_mobile_context.specs.Seen.{Shows}
use Rattle.mip_mobile_context.proofs.Noted.{shows-known}
use Rattle.mip_mobile_registration.proofs.HomeShows.{resends-by, resends-nothing}
use Rattle.mip_mobile_registration.proofs.home.resend_home.Goals as goal

pub returns-in-Some : goal.returns-in-Some
returns-in-Some c = λ t shows.
    let known = shows-known c.args.context.now t shows in
    subst (λ (u : Transition). OnOk c.resend_update.result (Shows c.resend_update.new.context u))
    (resends-by c.args.wait t c.args.context.now.known c.args.context.now.known.standing (Some c.in-Some.update) known refl (sym c.latest.ensures.value ∙ c.in-Some.is))
    (c.resend_update.ensures t shows)

pub returns-in-None : goal.returns-in-None
returns-in-None c = λ t shows.
    let known = shows-known c.args.context.now t shows in
    subst (λ (u : Transition). Shows c.args.context.now u)
    (sym (resends-nothing c.args.wait t c.args.context.now.known.standing)
    ∙ resends-by c.args.wait t c.args.context.now.known c.args.context.now.known.standing None known refl (sym c.latest.ensures.value ∙ c.in-None.is))
    shows
