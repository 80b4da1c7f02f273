use Rattle.std.proofs.Common.{sym, subst}
use Rattle.mip_afresh_mobile_state.specs.declared.discovery.Discovery.{Discovery}
use Rattle.mip_rules_mobile.specs.declared.attachment.Attachment.TheVariants.{Away}
use Rattle.mip_afresh_mobile_state.specs.Turns.{Goes}
use Rattle.std.specs.Prelude.{Option, option_map}
use Rattle.mip_discovery.specs.Retries.{retried}
use Rattle.mip_afresh_mobile_state.specs.Trials.{discovery_seen}
use Rattle.mip_rules_mobile.specs.HomeRules.{seeks_again_from, seeks_again_at}
use Rattle.mip_afresh_mobile_rules.proofs.Asking.{asked}
use Rattle.mip_afresh_mobile_rules.proofs.searching.seek_again_away.Goals as goal

pub returns-in_ok-again-in-Some : goal.returns-in_ok-again-in-Some
returns-in_ok-again-in-Some c =
    let d = c.in-Some.discovery in
    subst (λ (o : Option Discovery). Goes c.seek_again_from.result (seeks_again_at (Away c.args.careof) (option_map discovery_seen o)) c.args.turn.now c.seek_again_from.new.turn) (sym c.in-Some.is)
    (asked c.seek_again_from.result c.args.turn.now c.seek_again_from.new.turn (λ k n. retried n (discovery_seen d)) (option_map discovery_seen c.in_ok-again-in-Some.again)
    (λ o. seeks_again_from c.args.careof o d.identifier) (λ k same. c.in_ok-again-in-Some.ensures) c.seek_again_from.ensures)
