-- What an agent of C finds as it claims addresses.
use Rattle.std.specs.Prelude.{ℕ, List, true, if◌then◌else◌, Some, None}
use Rattle.mip_outside.specs.Places.{Around}
use Rattle.mip_c_agent.specs.Sixteens.{has_address}

-- somebody else, whose number does not count, holds each of these addresses, and nobody holds another
abbrev pub around_of : List ℕ → Around
around_of others = record { room = λ _. true; others = λ a. if has_address others a then Some 0 else None; home = None }
