-- What a place lets a node claim.
use Rattle.std.specs.Prelude.{ℕ, Bool, true, false, ◌&&◌, ◌==◌, Option, Some, None, if◌then◌else◌}
use Rattle.mip_outside.specs.declared.claim.Claim.{Claim}
use Rattle.mip_outside.specs.declared.claim.Claim.TheVariants.{Held, Waiting, Taken}

-- what no call of a place changes: the addresses that it has room for, those that others hold, each with its holder's
-- number, and the home address where the node is a mobile
pub record Around : Type 0 where
  pub room : ℕ → Bool
  pub others : ℕ → Option ℕ
  pub home : Option ℕ

abbrev pub is_home : Option ℕ → ℕ → Bool
is_home None address = false
is_home (Some home) address = home == address

-- the answer to a claim of an address, given who else holds it and whether it is the node's home
abbrev pub claim_of : Option ℕ → Bool → Claim
claim_of None at_home = Held
claim_of (Some holder) at_home = if at_home then Waiting else Taken holder

-- what a claim of an address is answered
abbrev pub claim_in : Around → ℕ → Claim
claim_in around address = claim_of (around.others address) (is_home around.home address)

abbrev pub is_held : Claim → Bool
is_held Held = true
is_held Waiting = false
is_held (Taken holder) = false

-- the claims of a node, with an address where it was given to it, and without an address
abbrev pub with_claim : Bool → ℕ → (ℕ → Bool) → ℕ → Bool
with_claim held address claims a = if held && (a == address) then true else claims a

abbrev pub without_claim : ℕ → (ℕ → Bool) → ℕ → Bool
without_claim address claims a = if a == address then false else claims a

-- a place where nobody else is
abbrev pub free : Around
free = record { room = λ _. true; others = λ _. None; home = None }
