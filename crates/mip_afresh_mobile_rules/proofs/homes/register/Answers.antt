use Rattle.mip_rules_mobile.specs.HomeQuestions.{target_of}
use Rattle.mip_rules_mobile.specs.HomeRules.{registers_at, registers}
use Rattle.mip_afresh_mobile_rules.proofs.Asking.{asked}
use Rattle.mip_afresh_mobile_rules.proofs.homes.register.Goals as goal

pub returns : goal.returns
unfolding registers
returns c =
    asked c.register_at.result c.args.turn.now c.register_at.new.turn (λ k n. target_of k) c.target-target.result (λ agent. registers_at c.args.careof agent)
    c.target-target.ensures c.register_at.ensures
