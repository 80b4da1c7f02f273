-- Laws and invariants of Calls: only proofs stand on them.
use Rattle.std.specs.Prelude.{ℕ, List, []}
use Rattle.mip_rules_agent.specs.Calls.{Call}
use Rattle.mip_rules_agent.specs.Calls.Call.{Take}

-- the bytes that a call hands over
abbrev pub bytes_of : Call → List ℕ
bytes_of (Take number shield packet claim) = packet
bytes_of _ = []
