use Rattle.std.proofs.Common.{refl, sym, subst}
use Rattle.mip_rules_mobile.specs.declared.attachment.Attachment.{Attachment}
use Rattle.mip_rules_mobile.specs.Sendings.{FromHome}
use Rattle.mip_rules_mobile.specs.Steps.{Sends}
use Rattle.mip_rules_mobile.specs.Transitions.{noted}
use Rattle.mip_rules_mobile.specs.HomeQuestions.{home_of, registered_agent}
use Rattle.mip_rules_mobile.specs.OutRules.{tunnels, goes_from}
use Rattle.mip_afresh_mobile_state.specs.Turns.{Goes, home_in}
use Rattle.mip_afresh_mobile_rules.proofs.Asking.{asked, home-known}
use Rattle.mip_afresh_mobile_rules.proofs.out.send_from.Goals as goal

pub returns-in-AtHome : goal.returns-in-AtHome
returns-in-AtHome c = λ inner packet signal.
    subst (λ (s : Attachment). Goes c.send_packet.result (goes_from s inner) c.args.turn.now c.send_packet.new.self) (sym c.in-AtHome.is)
    (asked c.send_packet.result c.args.turn.now c.send_packet.new.self (λ k n. home_of k) (home_in c.args.turn.now) (λ home. noted (Sends (FromHome home inner)))
    (home-known c.args.turn.now) (c.send_packet.ensures (FromHome (home_in c.args.turn.now) inner) tt refl packet))

pub returns-in-Away : goal.returns-in-Away
returns-in-Away c = λ inner packet signal.
    subst (λ (s : Attachment). Goes c.send_away.result (goes_from s inner) c.args.turn.now c.send_away.new.turn) (sym c.in-Away.is)
    (asked c.send_away.result c.args.turn.now c.send_away.new.turn registered_agent c.registered_agent-agent.result (λ agent. tunnels c.in-Away.careof inner agent)
    c.registered_agent-agent.ensures (c.send_away.ensures inner packet signal))
