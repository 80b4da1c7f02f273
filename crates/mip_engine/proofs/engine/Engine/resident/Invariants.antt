use Rattle.std.specs.Prelude.{◌≡◌, None}
use Rattle.mip_history.specs.Homes.{first_below}
use Rattle.mip_engine.specs.Engines.{lives_at}
use Rattle.mip_engine.proofs.engine.Engine.resident.Given as goal

abbrev pub invariant-loop-number : goal.invariant-loop-number
invariant-loop-number l = first_below (lives_at l.self.nodes l.address.0) l.number ≡ None
