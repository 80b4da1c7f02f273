use Rattle.std.proofs.Common.{◌≡◌, take}
use Rattle.mip_proxynd.specs.Claims.{rows_in}
use Rattle.mip_proxynd.proofs.address_claims.AddressClaims.take.Given as goal

abbrev pub invariant-loop-entry : goal.invariant-loop-entry
invariant-loop-entry l = l.self ≡ rows_in l.fn.self (take l.entry-index l.entries)
