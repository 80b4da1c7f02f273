use Rattle.std.proofs.Common.{◌≡◌, ◌++◌, take, drop, map}
use Rattle.std.specs.Prelude.{bit_xor}
use Rattle.mip_tokens.proofs.keyed.key_pad.Given as goal

abbrev pub invariant-loop-b : goal.invariant-loop-b
invariant-loop-b l =
    l.b-items ≡ map (λ b. bit_xor b l.byte) (take l.b-index l.initial.b-items) ++ drop l.b-index l.initial.b-items
