-- What a handle keeps: nothing, or an object behind its pointer, with the right to free it.
use Rattle.std.specs.Prelude.{Option, Some, None}
use base.Fml.{Fml, ftrue, fex}
use denote.RattleType.{RattleType}
use denote.RawPtr.{Ptr}
use Rattle.std.specs.Global.{Global}
use Rattle.std.specs.contracts.impls.GlobalAllocator.TheImpl.{ghosts}
use Rattle.std.specs.Box.Ownership.{box_owns}

abbrev pub keeps : (R : RattleType) → Ptr → Option R.Denot → Fml
keeps R p None = ftrue
keeps R p (Some s) = fex Global (λ heap. box_owns (ghosts.dealloc_token heap) R p s)
