use Rattle.std.proofs.Common.{sym, ◌∙◌, subst, OnOk}
use Rattle.mip_rules_mobile.specs.declared.attachment.Attachment.TheVariants.{Detached, AtHome, Away}
use Rattle.mip_rules_mobile.specs.Transitions.{Transition}
use Rattle.mip_mobile_context.specs.Seen.{Shows}
use Rattle.mip_mobile_context.proofs.Noted.{shows-known}
use Rattle.mip_mobile_registration.proofs.Seeking.{seeks-by}
use Rattle.mip_mobile_registration.proofs.home.seek_again.Goals as goal

pub returns-in-Detached : goal.returns-in-Detached
returns-in-Detached c = λ t shows.
    subst (λ (u : Transition). Shows c.args.context.now u) (seeks-by t c.args.context.now.known Detached (shows-known c.args.context.now t shows) (sym c.standing.ensures ∙ c.in-Detached.is)) shows

pub returns-in-AtHome : goal.returns-in-AtHome
returns-in-AtHome c = λ t shows.
    subst (λ (u : Transition). Shows c.args.context.now u) (seeks-by t c.args.context.now.known AtHome (shows-known c.args.context.now t shows) (sym c.standing.ensures ∙ c.in-AtHome.is)) shows

pub returns-in-Away : goal.returns-in-Away
returns-in-Away c = λ t shows.
    subst (λ (u : Transition). OnOk c.seek_again_from.result (Shows c.seek_again_from.new.context u))
    (seeks-by t c.args.context.now.known (Away c.in-Away.careof) (shows-known c.args.context.now t shows) (sym c.standing.ensures ∙ c.in-Away.is))
    (c.seek_again_from.ensures t shows)
