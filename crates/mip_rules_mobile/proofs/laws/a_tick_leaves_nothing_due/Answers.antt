use Rattle.mip_rules_mobile.proofs.Timers.{tick-empties}
use Rattle.mip_rules_mobile.proofs.laws.a_tick_leaves_nothing_due.Goals as goal

pub returns : goal.returns
returns c = λ k now order. tick-empties k now order
