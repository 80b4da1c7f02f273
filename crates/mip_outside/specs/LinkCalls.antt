-- The calls of a link: what was asked, and how each was answered.
use Rattle.std.specs.Prelude.{◌≡◌, ◌⊎◌, List, [], ◌∷◌, ◌++◌, map, Bool, true, false, Option, Some, None, Result, Ok, Err}
use Rattle.mip_outside.specs.declared.asked.Asked.{Asked}
use Rattle.mip_outside.specs.declared.asked.Asked.TheVariants.{Listen, Send, Receive}
use Rattle.mip_outside.specs.declared.link_call.LinkCall.{LinkCall}
use Rattle.mip_outside.specs.declared.put_fault.PutFault.{PutFault}
use Rattle.mip_outside.specs.declared.put_fault.PutFault.TheVariants.{Failed, Memory}

abbrev pub called : Asked → Option PutFault → LinkCall
called asked fault = record { asked = asked; fault = fault }

-- the fault of an answer
abbrev pub fault_of : {U : Type 0} → Result U PutFault → Option PutFault
fault_of (Ok u) = None
fault_of (Err fault) = Some fault

-- the fault of an answer that can have one alone
abbrev pub failure_of : {U E : Type 0} → Result U E → Option PutFault
failure_of (Ok u) = None
failure_of (Err e) = Some Failed

-- calls that were granted
unfoldable pub granted : List Asked → List LinkCall
granted asked = map (λ a. called a None) asked

-- whether none of them listens on a port: what a turn asks
abbrev pub is_of_turn : Asked → Bool
is_of_turn Listen = false
is_of_turn Send = true
is_of_turn Receive = true

unfoldable pub are_of_turns : List Asked → Bool
are_of_turns [] = true
are_of_turns (Listen ∷ asked) = false
are_of_turns (Send ∷ asked) = are_of_turns asked
are_of_turns (Receive ∷ asked) = are_of_turns asked

-- each call since then was granted, and none of them listened on a port
pub record Granted (before after : List LinkCall) : Type 0 where
  pub asked : List Asked
  pub turns : are_of_turns asked ≡ true
  pub is : after ≡ before ++ granted asked

-- the last call since then was answered by this fault, each in front of it was granted, and none of them listened on a port
pub record Refused (fault : PutFault) (before after : List LinkCall) : Type 0 where
  pub asked : List Asked
  pub turns : are_of_turns asked ≡ true
  pub last : Asked
  pub turn : is_of_turn last ≡ true
  pub is : after ≡ before ++ (granted asked ++ called last (Some fault) ∷ [])

-- no call follows one that was answered by a fault: where all went well each was granted, where the link failed the last one failed, and
-- where memory ran out each was granted, or memory ran out in the last one
pub record EndsAtFault (ok failed memory : Type 0) (before after : List LinkCall) : Type 0 where
  pub whole : ok → Granted before after
  pub cut : failed → Refused Failed before after
  pub lost : memory → Granted before after ⊎ Refused Memory before after
