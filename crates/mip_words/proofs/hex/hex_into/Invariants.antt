use Rattle.std.proofs.Common.{◌≡◌, ◌*◌, take}
use Rattle.mip_words.specs.Hex.{hex_of}
use Rattle.mip_words.proofs.hex.hex_into.Given as goal

abbrev pub invariant-loop-i : goal.invariant-loop-i
invariant-loop-i l = take (2 * l.i) l.out ≡ hex_of (take l.i l.bytes)
