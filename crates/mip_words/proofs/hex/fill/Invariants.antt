use Rattle.std.proofs.Common.{◌≡◌, ◌*◌, ◌++◌, take, drop, option_map}
use Rattle.mip_words.specs.Hex.{unhex}
use Rattle.mip_words.proofs.hex.fill.Given as goal

abbrev pub invariant-loop-i : goal.invariant-loop-i
invariant-loop-i l = unhex l.field ≡ option_map (λ ys. take l.i l.out ++ ys) (unhex (drop (2 * l.i) l.field))
