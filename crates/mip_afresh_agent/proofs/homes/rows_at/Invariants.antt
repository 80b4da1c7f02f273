use Rattle.std.proofs.Common.{◌≡◌, take}
use Rattle.mip_rules_agent.specs.Questions.{rows_at}
use Rattle.mip_afresh_agent.proofs.homes.rows_at.Given as goal

abbrev pub invariant-loop-served : goal.invariant-loop-served
invariant-loop-served l = l.rows.items ≡ rows_at l.now.0 (take l.served-index l.homes)
