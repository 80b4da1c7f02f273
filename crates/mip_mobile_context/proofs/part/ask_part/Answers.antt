use Rattle.std.proofs.Common.{subst, OnOk}
use Rattle.mip_ipv6.specs.Packet.{packet as tree}
use Rattle.mip_rules_correspondent.specs.Calls as parts
use Rattle.mip_rules_mobile.specs.Steps.{Parts}
use Rattle.mip_rules_mobile.specs.Transitions.{Transition, noted}
use Rattle.mip_mobile_context.specs.Seen.{Shows}
use Rattle.mip_mobile_context.proofs.Noted.{shows-known, shows-moment}
use Rattle.mip_mobile_context.proofs.Outs.{asks-by}
use Rattle.mip_mobile_context.proofs.part.ask_part.Goals as goal

pub returns : goal.returns
returns c = λ t shows.
    subst (λ (u : Transition). OnOk c.pass_all.result (Shows c.pass_all.new.context u))
    (asks-by (parts.Part c.args.number (tree c.args.packet.now.packet)) t c.args.context.now.known c.args.context.now.moment c.in_ok-answers.answers (shows-known c.args.context.now t shows) (shows-moment c.args.context.now t shows) c.in_ok-answers.ensures.answers)
    (c.pass_all.ensures (noted (Parts (parts.Part c.args.number (tree c.args.packet.now.packet))) t) (c.in_ok-answers.ensures.shows t shows))
