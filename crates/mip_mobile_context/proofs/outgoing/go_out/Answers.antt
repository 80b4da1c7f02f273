use Rattle.std.proofs.Common.{refl, sym, ◌∙◌, subst, OnOk}
use Rattle.mip_rules_mobile.specs.declared.attachment.Attachment.TheVariants.{Detached, Away}
use Rattle.mip_rules_mobile.specs.HomeQuestions.{home_of}
use Rattle.mip_rules_mobile.specs.Sendings.{FromHome}
use Rattle.mip_rules_mobile.specs.Transitions.{Transition}
use Rattle.mip_mobile_context.specs.Seen.{Shows}
use Rattle.mip_mobile_context.proofs.Noted.{shows-known}
use Rattle.mip_mobile_context.proofs.Outs.{goes-by, goes-home}
use Rattle.mip_mobile_context.proofs.outgoing.go_out.Goals as goal

pub returns-in-Detached : goal.returns-in-Detached
returns-in-Detached c = λ inner t signals packet shows.
    subst (λ (u : Transition). OnOk c.unsend.result (Shows c.unsend.new.self u))
    (goes-by inner t c.args.context.now.known Detached (shows-known c.args.context.now t shows) (sym c.standing.ensures ∙ c.in-Detached.is))
    (c.unsend.ensures t shows)

pub returns-in-AtHome : goal.returns-in-AtHome
returns-in-AtHome c = λ inner t signals packet shows.
    subst (λ (u : Transition). OnOk c.put.result (Shows c.put.new.self u))
    (goes-home inner t c.args.context.now.known (shows-known c.args.context.now t shows) (sym c.standing.ensures ∙ c.in-AtHome.is))
    (c.put.ensures (FromHome (home_of c.args.context.now.known) inner) t tt refl packet shows)

pub returns-in-Away : goal.returns-in-Away
returns-in-Away c = λ inner t signals packet shows.
    subst (λ (u : Transition). OnOk c.tunnel.result (Shows c.tunnel.new.context u))
    (goes-by inner t c.args.context.now.known (Away c.in-Away.careof) (shows-known c.args.context.now t shows) (sym c.standing.ensures ∙ c.in-Away.is))
    (c.tunnel.ensures inner t signals packet shows)
