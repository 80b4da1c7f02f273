use Rattle.std.proofs.Common.{◌≡◌, ◌++◌, length}
use Rattle.mip_rules_mobile.specs.IcmpRules.{agents_named}
use Rattle.mip_afresh_mobile.proofs.icmp.agents_named.Given as goal

abbrev pub invariant-loop-rest : goal.invariant-loop-rest
invariant-loop-rest l = l.agents.items ++ agents_named l.rest ≡ agents_named l.bytes

abbrev pub decreases-loop-rest : goal.decreases-loop-rest
decreases-loop-rest l = length l.rest
