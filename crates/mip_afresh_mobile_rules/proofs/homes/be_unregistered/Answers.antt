use Rattle.mip_rules_mobile.specs.HomeRules.{is_unregistered}
use Rattle.mip_afresh_mobile_rules.proofs.homes.be_unregistered.Goals as goal

pub returns : goal.returns
unfolding is_unregistered
returns c = λ t shows. c.start_deletions.ensures _ (c.in_ok-unregister.ensures _ (c.in_ok-stop.ensures t shows))
