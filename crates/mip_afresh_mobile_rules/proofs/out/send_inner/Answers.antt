use Rattle.mip_rules_mobile.specs.OutRules.{goes_from, goes_out}
use Rattle.mip_afresh_mobile_rules.proofs.Asking.{asked}
use Rattle.mip_afresh_mobile_rules.proofs.out.send_inner.Goals as goal

pub returns : goal.returns
unfolding goes_out
returns c = λ inner packet signal.
    asked c.send_from.result c.args.turn.now c.send_from.new.turn (λ k n. k.standing) c.standing-standing.result (λ s. goes_from s inner)
    c.standing-standing.ensures (c.send_from.ensures inner packet signal)
