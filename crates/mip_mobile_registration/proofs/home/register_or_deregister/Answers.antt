use Rattle.std.proofs.Common.{sym, ◌∙◌, subst, OnOk}
use Rattle.mip_rules_mobile.specs.declared.attachment.Attachment.TheVariants.{Detached, AtHome, Away}
use Rattle.mip_rules_mobile.specs.Transitions.{Transition}
use Rattle.mip_mobile_context.specs.Seen.{Shows}
use Rattle.mip_mobile_context.proofs.Noted.{shows-known, shows-moment}
use Rattle.mip_mobile_registration.proofs.HomeShows.{settles-by, undoes-by}
use Rattle.mip_mobile_registration.proofs.home.register_or_deregister.Goals as goal

pub returns-in-Detached : goal.returns-in-Detached
returns-in-Detached c = λ t shows.
    let known = shows-known c.args.context.now t shows in
    subst (λ (u : Transition). Shows c.args.context.now u) (settles-by t c.args.context.now.known Detached known (sym c.standing.ensures ∙ c.in-Detached.is)) shows

pub returns-in-AtHome : goal.returns-in-AtHome
returns-in-AtHome c = λ t shows.
    let known = shows-known c.args.context.now t shows in
    subst (λ (u : Transition). OnOk c.undo.result (Shows c.undo.new.context u))
    (undoes-by t c.args.context.now.known c.args.context.now.moment known (shows-moment c.args.context.now t shows)
    ∙ settles-by t c.args.context.now.known AtHome known (sym c.standing.ensures ∙ c.in-AtHome.is))
    (c.undo.ensures t shows)

pub returns-in-Away : goal.returns-in-Away
returns-in-Away c = λ t shows.
    let known = shows-known c.args.context.now t shows in
    subst (λ (u : Transition). OnOk c.register.result (Shows c.register.new.context u))
    (settles-by t c.args.context.now.known (Away c.in-Away.careof) known (sym c.standing.ensures ∙ c.in-Away.is))
    (c.register.ensures t shows)
