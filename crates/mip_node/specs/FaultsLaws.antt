-- Laws and invariants of Faults: only proofs stand on them.
use Rattle.std.specs.Prelude.{ℕ, ◌⊎◌}
use Rattle.mip_config.specs.Configs.{Content}
use Rattle.mip_node.specs.Runs.{Stand, Outside}
use Rattle.mip_node.specs.Faults.{WrotePart, BrokePart}

-- memory ran out in a turn, which it cuts as a fault of the link or of the sink does
abbrev pub CutPart : Content → (turn : ℕ) → (at : Stand) → (last : Outside) → Type 0
CutPart c turn at last = BrokePart c turn at last ⊎ WrotePart c turn at last
