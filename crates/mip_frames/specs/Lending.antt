-- A wire that has a link lent to it.
use Rattle.std.specs.Prelude.{◌≡◌}
use Rattle.mip_frames.specs.declared.frames.Frames.{Frames}

-- both send over the same link by the same routes
abbrev pub IsSameWire : {L : Type 0} → Frames L → Frames L → Type 0
IsSameWire a b = (b.link.ghost_name ≡ a.link.ghost_name) × (b.routes ≡ a.routes) × (b.fallback ≡ a.fallback)

-- the wire, where its link has come to this
abbrev pub with_link : {L : Type 0} → Frames L → L → Frames L
with_link f link = record f { link = record f.link { now = link } }
