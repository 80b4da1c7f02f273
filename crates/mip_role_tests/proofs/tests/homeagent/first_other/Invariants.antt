use Rattle.std.proofs.Common.{◌≤◌}
use Rattle.mip_role_tests.proofs.tests.homeagent.first_other.Given as goal

-- moments do not fall
abbrev pub invariant-loop-at : goal.invariant-loop-at
invariant-loop-at l = l.agent.known.last ≤ l.last
