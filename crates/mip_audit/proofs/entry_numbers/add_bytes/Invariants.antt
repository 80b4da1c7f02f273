use Rattle.std.proofs.Common.{◌≡◌, ◌++◌, drop}
use Rattle.mip_audit.proofs.entry_numbers.add_bytes.Given as goal

abbrev pub invariant-loop-byte : goal.invariant-loop-byte
invariant-loop-byte l = l.list.items ++ drop l.byte-index l.bytes ≡ l.fn.list.items ++ l.bytes
