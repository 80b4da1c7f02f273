use Rattle.std.proofs.Common.{◌≡◌, drop}
use Rattle.std.specs.Prelude.{fold}
use Rattle.mip_past.specs.Asking.{place_told}
use Rattle.mip_past.proofs.mobiles.places.Given as goal

abbrev pub invariant-loop-entry : goal.invariant-loop-entry
invariant-loop-entry l = fold (place_told l.numbers l.node.0 l.fn.own) l.places (drop l.entry-index l.entries) ≡ fold (place_told l.numbers l.node.0 l.fn.own) 0 l.entries
