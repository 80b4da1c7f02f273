use Rattle.std.proofs.Common.{ℕ, List, ◌++◌, take}
use Rattle.sha1.specs.Sha1.{Holds}
use Rattle.mip_tokens.specs.Hmac.{joined}
use Rattle.mip_tokens.proofs.keyed.keyed_hash.Given as goal

abbrev pub invariant-loop-part : goal.invariant-loop-part
invariant-loop-part l = (m : List ℕ) → Holds l.initial.inner m → Holds l.inner (m ++ joined (take l.part-index l.parts))
