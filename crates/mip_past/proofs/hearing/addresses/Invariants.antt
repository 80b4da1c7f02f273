use Rattle.std.proofs.Common.{◌≡◌, take}
use Rattle.mip_past.specs.Hearing.{live_addresses}
use Rattle.mip_past.proofs.hearing.addresses.Given as goal

abbrev pub invariant-loop-place : goal.invariant-loop-place
invariant-loop-place l = l.found.items ≡ take l.place (live_addresses l.now.0 l.agents.agents)
