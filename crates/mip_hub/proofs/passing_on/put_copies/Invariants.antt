use Rattle.std.proofs.Common.{◌≡◌, ◌++◌, replicate}
use Rattle.std.specs.List.{flat_map}
use Rattle.mip_hub.specs.Passing.{to_text}
use Rattle.mip_hub.proofs.passing_on.put_copies.Given as goal

abbrev pub invariant-loop-told : goal.invariant-loop-told
invariant-loop-told l = l.out ≡ l.initial.out ++ flat_map (to_text l.number) (replicate l._told l.port)
