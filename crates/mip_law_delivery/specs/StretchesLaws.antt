-- Laws and invariants of Stretches: only proofs stand on them.
use Rattle.std.specs.Prelude.{◌≡◌, ⊤, List, [], ◌∷◌}
use Rattle.mip_schedule.specs.declared.event.Event.{Event}
use Rattle.mip_schedule.specs.declared.event.Event.TheVariants.{Carry}

-- one packet is carried, and no more
abbrev pub IsSingle : Event → Type 0
IsSingle (Carry count) = count ≡ 1
IsSingle _ = ⊤

-- so does each event of a list
abbrev pub AreSingle : List Event → Type 0
AreSingle [] = ⊤
AreSingle (event ∷ events) = IsSingle event × AreSingle events
