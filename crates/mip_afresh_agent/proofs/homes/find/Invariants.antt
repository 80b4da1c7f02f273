use Rattle.std.proofs.Common.{◌≡◌, drop}
use Rattle.mip_binding.specs.Rows.{find_by}
use Rattle.mip_rules_agent.specs.Questions.{key_of}
use Rattle.mip_afresh_agent.proofs.homes.find.Given as goal

abbrev pub invariant-loop-served : goal.invariant-loop-served
invariant-loop-served l = find_by key_of l.home.0 (drop l.served-index l.homes) ≡ find_by key_of l.home.0 l.homes
