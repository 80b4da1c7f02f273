-- What a wire sends.
use Rattle.std.specs.Prelude.{ℕ, List, [], ◌∷◌, ◌++◌, Bool, true, false, Option, Result}
use Rattle.mip_words.specs.declared.shield.Shield.{Shield}
use Rattle.mip_outside.specs.declared.put.Put.{Put}
use Rattle.mip_outside.specs.declared.put.Put.TheVariants.{Sent, NoRoute, Oversize}
use Rattle.mip_outside.specs.declared.put_fault.PutFault.{PutFault}

abbrev pub is_sent : Put → Bool
is_sent Sent = true
is_sent NoRoute = false
is_sent Oversize = false

-- the packets sent, after one more got this answer
abbrev pub sent_by : Put → Option Shield → List ℕ → List (Option Shield × List ℕ) → List (Option Shield × List ℕ)
sent_by Sent shield packet items = items ++ (shield, packet) ∷ []
sent_by NoRoute shield packet items = items
sent_by Oversize shield packet items = items

-- a wire in memory: the packets that it sent and still holds, each with its shield, and what its calls answered, oldest first
pub record OutboxSeen : Type 0 where
  pub sent : List (Option Shield × List ℕ)
  pub answered : List (Result Put PutFault)
