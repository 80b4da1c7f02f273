use Rattle.std.proofs.Common.{◌≡◌, ◌++◌, drop}
use Rattle.std.specs.List.{AllByRecursion}
use Rattle.mip_rules_agent.specs.Questions.{rows_at}
use Rattle.mip_homeagent.specs.Endings.{answers_told}
use Rattle.mip_homeagent.specs.Soundness.{IsRoutable}
use Rattle.mip_homeagent.proofs.prefixes.tell_all.Given as goal

abbrev pub invariant-loop-served : goal.invariant-loop-served
invariant-loop-served l =
    (l.answers ++ answers_told l.own l.valid l.preferred (rows_at l.now.0 (drop l.served-index l.homes)) ≡ answers_told l.own l.valid l.preferred (rows_at l.now.0 l.homes))
    × AllByRecursion IsRoutable (drop l.served-index l.homes)
