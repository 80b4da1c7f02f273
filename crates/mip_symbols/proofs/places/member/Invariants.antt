use Rattle.std.proofs.Common.{◌≡◌, drop}
use Rattle.std.specs.Prelude.{slice_get}
use Rattle.mip_symbols.specs.Places.{members}
use Rattle.mip_symbols.proofs.places.member.Given as goal

abbrev pub invariant-loop-d : goal.invariant-loop-d
invariant-loop-d l = slice_get (members l.sort (drop l.d-index l.ds)) l.left ≡ slice_get (members l.sort l.ds) l.place
