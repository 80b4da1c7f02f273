-- The packets on the way of data between two settled ends: the one that is sent, one that comes of it by an answer, and one that
-- comes of that. RFC 6275 sections 10.4 and 11.3
use Rattle.std.specs.Prelude.{◌≡◌, ℕ, List, [], ◌∷◌, ◌++◌, length, Contains}
use Rattle.mip_words.specs.declared.address.Address.{Address}
use Rattle.mip_entries.specs.declared.entry.Entry.TheVariants.{Up}
use Rattle.mip_entries.specs.Completed.{node_id}
use Rattle.mip_schedule.specs.declared.event.Event.{Event}
use Rattle.mip_history.specs.Setup.{Setup}
use Rattle.mip_history.specs.Runs.{Run}
use Rattle.mip_history.specs.Permitted.{run_of}
use Rattle.mip_law_delivery.specs.Stretches.{run_on, left_by, split}
use Rattle.mip_law_delivery.specs.Answers.{IsAnswer}
use Rattle.mip_law_delivery.specs.Quiet.{IsQuiet}
use Rattle.mip_law_delivery.specs.Reached.{sending, IsAllDelivered, AreSettledEnds, IsPayload}

-- the packet itself, one that was sent in answer to it, or one that was sent in answer to such a one
pub data IsOfThree (s : Setup) (run : Run) (events : List Event) (first last : ℕ) : Type 0 where
  Itself : last ≡ first → IsOfThree s run events first last
  Answer : IsAnswer s run events first last → IsOfThree s run events first last
  AnswerToAnswer : (middle : ℕ) → IsAnswer s run events first middle → IsAnswer s run events middle last → IsOfThree s run events first last

-- node y hands data up, of a packet that is the last of such a chain
pub record ComesOfThree (s : Setup) (run : Run) (events : List Event) (first y : ℕ) (source destination : Address) (proto : ℕ) (payload : List ℕ) : Type 0 where
  pub last : ℕ
  pub chain : IsOfThree s run events first last
  pub handed_up : Contains (left_by s run events) (Up (node_id y) last source destination proto payload)

-- so arrives all data between two settled ends in a quiet stretch in which all is delivered that comes of it
abbrev pub EachComesOfThree : Setup → List Event → Type 0
EachComesOfThree s events =
    (before more rest : List Event) (x y : ℕ) (own to : Address) (proto : ℕ) (payload : List ℕ)
    → split events ≡ before ++ (sending x to proto payload ∷ (more ++ rest)) → IsPayload proto payload
    → AreSettledEnds s (run_of s before) x y own to
    → IsQuiet s (run_of s before) (sending x to proto payload ∷ more) x y
    → IsAllDelivered s (run_on s (run_of s before) (sending x to proto payload ∷ [])) more (length (run_of s before).posts)
    → ComesOfThree s (run_on s (run_of s before) (sending x to proto payload ∷ [])) more (length (run_of s before).posts) y own to proto payload
