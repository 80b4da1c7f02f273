-- The calls of a hub's run in their order, and what they make of its link and of its sink.
use Rattle.std.specs.Prelude.{◌≡◌, ◌⊎◌, ℕ, ◌≤◌, List, [], ◌∷◌, ◌++◌, length, map, take, Bool, true, false, Option, Some, None, option_map, Result, Ok, Err, slice_get}
use Rattle.std.specs.List.{flat_map}
use Rattle.std.specs.Io.KnownBytes.{append_known}
use Rattle.mip_outside.specs.LinkCalls.{called, granted}
use Rattle.mip_outside.specs.declared.asked.Asked.{Asked}
use Rattle.mip_outside.specs.declared.asked.Asked.TheVariants.{Listen, Send, Receive}
use Rattle.mip_outside.specs.declared.link_call.LinkCall.{LinkCall}
use Rattle.mip_outside.specs.declared.put_fault.PutFault.{PutFault}
use Rattle.mip_outside.specs.declared.put_fault.PutFault.TheVariants as put_faults

pub data Call : Type 0 where
  Listens : (port : ℕ) → Call
  Sends : (port : ℕ) (datagram : List ℕ) → Call
  Receives : Call
  Gives : (text : List ℕ) → Call

abbrev pub sent_by : Call → List (ℕ × List ℕ)
sent_by (Sends port datagram) = (port, datagram) ∷ []
sent_by _ = []

abbrev pub given_by : Call → List ℕ
given_by (Gives text) = text
given_by _ = []

-- what a link that is told has sent after these calls
unfoldable pub sent_on : List Call → Option (List (ℕ × List ℕ)) → Option (List (ℕ × List ℕ))
sent_on calls known = option_map (λ items. items ++ flat_map sent_by calls) known

-- what a sink that is told holds after these calls
unfoldable pub held_on : List Call → Option (List ℕ) → Option (List ℕ)
held_on calls known = append_known known (flat_map given_by calls)

-- whether it is a call of the link
abbrev pub is_link : Option Call → Bool
is_link (Some (Listens port)) = true
is_link (Some (Sends port datagram)) = true
is_link (Some Receives) = true
is_link (Some (Gives text)) = false
is_link None = false

-- the text of a call of the sink
abbrev pub text_at : Option Call → List ℕ
text_at (Some call) = given_by call
text_at None = []

-- what the link is asked by a call
abbrev pub asked_by : Call → List Asked
asked_by (Listens port) = Listen ∷ []
asked_by (Sends port datagram) = Send ∷ []
asked_by Receives = Receive ∷ []
asked_by (Gives text) = []

-- what a link that is told has sent, and its calls
pub record LinkState : Type 0 where
  pub sent : Option (List (ℕ × List ℕ))
  pub calls : List LinkCall

abbrev pub link_state : Option (List (ℕ × List ℕ)) → List LinkCall → LinkState
link_state sent calls = record { sent = sent; calls = calls }

-- a link of which these calls were asked, and nothing else, and which granted each
unfoldable pub made_on : List Call → LinkState → LinkState
made_on calls link = record { sent = sent_on calls link.sent; calls = link.calls ++ granted (flat_map asked_by calls) }

-- a link that sent nothing by its last calls
abbrev pub asked_on : (last : List LinkCall) → LinkState → LinkState
asked_on last link = record { sent = link.sent; calls = link.calls ++ last }

-- what a link was asked by a call, and refused by this fault
abbrev pub refused_by : PutFault → Option Call → List LinkCall
refused_by fault None = []
refused_by fault (Some call) = map (λ asked. called asked (Some fault)) (asked_by call)

-- a call of the link failed behind so many others, or memory ran out
abbrev pub IsCutAt : PutFault → List Call → ℕ → Type 0
IsCutAt put_faults.Failed calls count = is_link (slice_get calls count) ≡ true
IsCutAt put_faults.Memory calls count = count ≤ length calls

-- the last calls of a link behind those that it granted: the one that failed; where memory ran out none, or the one in which it did
abbrev pub IsEndedBy : PutFault → Option Call → (last : List LinkCall) → Type 0
IsEndedBy put_faults.Failed call last = last ≡ refused_by put_faults.Failed call
IsEndedBy put_faults.Memory call last = (last ≡ []) ⊎ (last ≡ refused_by put_faults.Memory call)

-- so many of these calls of a link were granted, and none follows the one that was not
pub record Stops (fault : PutFault) (calls : List Call) (before after : LinkState) : Type 0 where
  pub count : ℕ
  pub cut : IsCutAt fault calls count
  pub last : List LinkCall
  pub ended : IsEndedBy fault (slice_get calls count) last
  pub left : after ≡ asked_on last (made_on (take count calls) before)

-- all these calls of a link were granted, or so many of them
abbrev pub Goes : {U : Type 0} → List Call → Result U PutFault → LinkState → LinkState → Type 0
Goes calls (Ok u) before after = after ≡ made_on calls before
Goes calls (Err fault) before after = Stops fault calls before after
