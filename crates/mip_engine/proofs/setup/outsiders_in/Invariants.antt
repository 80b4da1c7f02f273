use Rattle.std.proofs.Common.{◌≡◌, take}
use Rattle.mip_history.specs.Setup.{outsiders_in}
use Rattle.mip_engine.proofs.setup.outsiders_in.Given as goal

abbrev pub invariant-loop-d : goal.invariant-loop-d
invariant-loop-d l = l.count ≡ outsiders_in (take l.d-index l.ds)
