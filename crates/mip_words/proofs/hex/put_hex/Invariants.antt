use Rattle.std.proofs.Common.{◌≡◌, ◌++◌, length}
use Rattle.mip_words.specs.Hex.{hex_of}
use Rattle.mip_words.proofs.hex.put_hex.Given as goal

abbrev pub invariant-loop-rest : goal.invariant-loop-rest
invariant-loop-rest l = l.out ++ hex_of l.rest ≡ l.initial.out ++ hex_of l.bytes

abbrev pub decreases-loop-rest : goal.decreases-loop-rest
decreases-loop-rest l = length l.rest
