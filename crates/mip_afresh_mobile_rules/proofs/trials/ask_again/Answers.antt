use Rattle.mip_rules_mobile.specs.TrialRules.{asks_home, asks_careof}
use Rattle.mip_afresh_mobile_rules.proofs.Asking.{asked}
use Rattle.mip_afresh_mobile_rules.proofs.trials.ask_again.Goals as goal

pub returns : goal.returns
returns c =
    asked c.ask_careof_from.result c.args.turn.now c.ask_careof_from.new.turn (λ k n. k.standing) c.standing-standing.result
    (λ s t. asks_careof c.args.lacks_careof s c.args.peer c.args.careof.0 (asks_home c.args.lacks_home c.args.peer c.args.home.0 t))
    c.standing-standing.ensures (λ t shows. c.ask_careof_from.ensures _ (c.in_ok-ask_home_if.ensures t shows))
