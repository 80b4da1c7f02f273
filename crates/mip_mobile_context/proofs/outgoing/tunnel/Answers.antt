use Rattle.std.proofs.Common.{sym, ◌∙◌, subst, OnOk}
use Rattle.std.specs.Prelude.{None}
use Rattle.mip_rules_mobile.specs.Transitions.{Transition}
use Rattle.mip_mobile_context.specs.Seen.{Shows}
use Rattle.mip_mobile_context.proofs.Noted.{shows-known, shows-moment}
use Rattle.mip_mobile_context.proofs.Outs.{tunnels-by, tunnels-some}
use Rattle.mip_mobile_context.proofs.outgoing.tunnel.Goals as goal

pub returns-in-Some : goal.returns-in-Some
returns-in-Some c = λ inner t signals packet shows.
    subst (λ (u : Transition). OnOk c.put_wrapped.result (Shows c.put_wrapped.new.context u))
    (tunnels-some c.args.careof c.in-Some.agent inner t c.args.context.now.known c.args.context.now.moment (shows-known c.args.context.now t shows) (shows-moment c.args.context.now t shows) (sym c.registered_agent.ensures ∙ c.in-Some.is))
    (c.put_wrapped.ensures inner t signals packet shows)

pub returns-in-None : goal.returns-in-None
returns-in-None c = λ inner t signals packet shows.
    subst (λ (u : Transition). OnOk c.unsend.result (Shows c.unsend.new.self u))
    (tunnels-by c.args.careof inner t c.args.context.now.known c.args.context.now.moment None (shows-known c.args.context.now t shows) (shows-moment c.args.context.now t shows) (sym c.registered_agent.ensures ∙ c.in-None.is))
    (c.unsend.ensures t shows)
