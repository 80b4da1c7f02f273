use Rattle.std.proofs.Common.{sym, ap, ◌∙◌, subst, OnOk}
use Rattle.std.specs.Prelude.{Bool}
use Rattle.mip_icmp.specs.Options.{set_of}
use Rattle.mip_rules_mobile.specs.IcmpRules.{learns}
use Rattle.mip_rules_mobile.specs.Transitions.{Transition}
use Rattle.mip_mobile_context.specs.Seen.{Shows}
use Rattle.mip_mobile_context.proofs.Noted.{shows-known, shows-moment}
use Rattle.mip_mobile_registration.proofs.HomeShows.{prefixes-by}
use Rattle.mip_mobile_registration.proofs.asking.take_prefix_reply.Goals as goal

pub returns : goal.returns
returns c = λ t shows.
    let known = shows-known c.args.context.now t shows in
    let options = c.args.options.now in
    subst (λ (u : Transition). OnOk c.learn.result (Shows c.learn.new.context u))
    (ap (λ (b : Bool). learns c.args.number b options.prefix t) c.is_from_agent-right.ensures
    ∙ prefixes-by c.args.number c.args.shield (set_of options) t c.args.context.now.known c.args.context.now.moment c.agent.result known (shows-moment c.args.context.now t shows) (sym c.agent.ensures))
    (c.learn.ensures t shows)
