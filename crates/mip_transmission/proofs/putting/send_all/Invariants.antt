use Rattle.std.proofs.Common.{◌≡◌, ◌++◌, ◌≤◌, take, length}
use Rattle.std.specs.Prelude.{option_map}
use Rattle.mip_transmission.specs.Putting.{PutsAll, puts_of, sends_of}
use Rattle.mip_transmission.proofs.putting.send_all.Given as goal

abbrev pub invariant-loop-answer : goal.invariant-loop-answer
invariant-loop-answer g l =
    (take (length l.yielded) l.fn.asked ≡ l.yielded)
    × PutsAll g.W.Wire.gives l.yielded l.answers
    × (g.W.Wire.out l.wire ≡ option_map (λ items. items ++ sends_of l.answers) (g.W.Wire.out l.fn.wire))
    × (g.W.Wire.faults l.fn.wire ≤ g.W.Wire.faults l.wire)
    × g.W.Wire.is_same l.fn.wire l.wire
    × (g.W.Wire.answered l.wire ≡ g.W.Wire.answered l.fn.wire ++ puts_of l.yielded l.answers)
