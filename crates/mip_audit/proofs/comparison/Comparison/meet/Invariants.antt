use Rattle.std.proofs.Common.{◌≡◌, ℕ, List, ◌++◌, drop}
use Rattle.mip_audit.specs.Differences.{difference_from}
use Rattle.mip_audit.proofs.comparison.Comparison.meet.Given as goal

abbrev pub invariant-loop-byte : goal.invariant-loop-byte
invariant-loop-byte l = (more : List ℕ) → difference_from l.fn.self (l.fn.piece ++ more) ≡ difference_from l.self (drop l.byte-index l.piece ++ more)
