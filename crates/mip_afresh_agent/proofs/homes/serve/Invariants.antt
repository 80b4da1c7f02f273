use Rattle.std.proofs.Common.{◌≡◌, take}
use Rattle.mip_rules_agent.specs.Questions.{homes_of}
use Rattle.mip_afresh_agent.proofs.homes.serve.Given as goal

abbrev pub invariant-loop-home : goal.invariant-loop-home
invariant-loop-home l = l.homes.items ≡ homes_of (take l.home-index l.serves)
