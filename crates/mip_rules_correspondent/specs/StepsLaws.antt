-- Laws and invariants of Steps: only proofs stand on them.
use Rattle.std.specs.Prelude.{Bool, true, false}
use Rattle.mip_rules_correspondent.specs.Calls.{Call, Take, Part}
use Rattle.mip_rules_correspondent.specs.Steps.{Step}
use Rattle.mip_rules_correspondent.specs.Steps.Step.{Accepts}

-- an update that was accepted
abbrev pub is_acceptance : Step → Bool
is_acceptance (Accepts number home binding accepted) = true
is_acceptance _ = false

-- a packet is handed over, to the node or to its correspondent part
abbrev pub hands_over : Call → Bool
hands_over (Take number shield packet) = true
hands_over (Part number packet) = true
hands_over _ = false
