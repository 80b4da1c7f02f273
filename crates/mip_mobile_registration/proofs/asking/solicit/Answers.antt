use Rattle.std.proofs.Common.{sym, subst, OnOk}
use Rattle.mip_rules_mobile.specs.Transitions.{Transition}
use Rattle.mip_mobile_context.specs.Seen.{Shows}
use Rattle.mip_mobile_context.proofs.Noted.{shows-known, shows-moment}
use Rattle.mip_mobile_registration.proofs.HomeShows.{solicits-by}
use Rattle.mip_mobile_registration.proofs.asking.solicit.Goals as goal

pub returns : goal.returns
returns c = λ t shows.
    subst (λ (u : Transition). OnOk c.solicit_from.result (Shows c.solicit_from.new.context u))
    (solicits-by t c.args.context.now.known c.args.context.now.moment c.standing-standing.result c.registered_agent-agent.result (shows-known c.args.context.now t shows) (shows-moment c.args.context.now t shows) (sym c.standing-standing.ensures) (sym c.registered_agent-agent.ensures))
    (c.solicit_from.ensures t shows)
