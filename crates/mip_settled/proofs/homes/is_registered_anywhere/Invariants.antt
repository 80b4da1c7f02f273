use Rattle.std.proofs.Common.{◌≡◌, false}
use Rattle.std.specs.Prelude.{is_some}
use Rattle.mip_history.specs.Told.{careof_in}
use Rattle.mip_history.specs.Settled.{any_below}
use Rattle.mip_settled.proofs.homes.is_registered_anywhere.Given as goal

abbrev pub invariant-loop-number : goal.invariant-loop-number
invariant-loop-number l = any_below (λ g. is_some (careof_in l.now.0 l.history g l.home)) l.number ≡ false
