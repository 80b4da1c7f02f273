use Rattle.std.proofs.Common.{◌≡◌}
use Rattle.mip_rules_mobile.specs.IcmpRules.{addresses_of}
use Rattle.mip_mobile_calls.proofs.icmp.agents_named.Given as goal

abbrev pub invariant-loop-place : goal.invariant-loop-place
invariant-loop-place l = l.agents ≡ addresses_of l.place l.bytes
