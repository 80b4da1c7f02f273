use Rattle.std.proofs.Common.{◌≡◌, take}
use Rattle.std.specs.List.{flat_map}
use Rattle.mip_words.specs.Addresses.{address_bytes}
use Rattle.mip_afresh_agent.proofs.discovery.spell.Given as goal

abbrev pub invariant-loop-address : goal.invariant-loop-address
invariant-loop-address l = l.spelled ≡ flat_map address_bytes (take l.address-index l.addresses)
