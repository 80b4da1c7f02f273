-- What a call of a station answers, and what it leaves.
use Rattle.std.specs.Prelude.{◌≡◌, ◌≤◌, ℕ, Bool, true, max, List, ◌++◌, take, length, map, Option, option_map, Err}
use Rattle.std.specs.List.{list_any}
use Rattle.mip_words.specs.declared.address.Address.{Address}
use Rattle.mip_words.specs.declared.shield.Shield.{Shield}
use Rattle.mip_nonce.specs.Secrets.{Life}
use Rattle.mip_outside.specs.declared.put.Put.{Put}
use Rattle.mip_outside.specs.declared.put_fault.PutFault.{PutFault}
use Rattle.mip_entries.specs.Stamped.{Stamped}
use Rattle.mip_entries.specs.declared.answer.Answer.{Answer}
use Rattle.mip_rules_mobile.specs.declared.attachment.Attachment.TheVariants.{Away}
use Rattle.mip_rules_mobile.specs.Answering.{IsElsewhere, AreFrom, stays_put}
use Rattle.mip_rules_mobile.specs.Calls.{Call, Take}
use Rattle.mip_rules_mobile.specs.Steps.{Step, answers_of}
use Rattle.mip_rules_mobile.specs.Known.{Known}
use Rattle.mip_rules_mobile.specs.Refusing.{refuses, tables_of}
use Rattle.mip_rules_mobile.specs.Transitions.{Stands, with_transition}
use Rattle.mip_rules_mobile.specs.Doing.{transition_of}
use Rattle.mip_mobile_calls.specs.Seen.{ContextSeen}
use Rattle.mip_transmission.specs.Putting.{PutsAll, Told, Answered, sends_of, puts_of}

-- the moment of a call: what the clock says, or the moment of the last call where that is later
abbrev pub moment_of : (clock last : ℕ) → ℕ
moment_of clock last = max clock last

-- a station that knew this was called at a moment: its answers are those of the definition's transition, as its wire took them;
-- it stands for each past for which it stood before, with the transition behind it; where it is away, and stays, each packet leaves
-- from its care-of address; its wire sent the packets of its answers, and was called once for each packet of the definition's
-- answers, in order, and what became of a packet is what that very call answered. A packet that it drops, and an update that it
-- denies, changes no binding, no registration, no trial, no timer and no list
pub record Handles (gives : Put → Bool) (before : Known) (now : ℕ) (call : Call) (out : Told) (puts : Answered) (answers : List Answer) (after : Known) (left : Told) (puts_after : Answered) : Type 0 where
  pub taken : PutsAll gives (answers_of (transition_of before now call).steps) answers
  pub known : after ≡ (transition_of before now call).known
  pub stands : (home : Address) (declared : Option Address) (numbers : ℕ) (secrets : Life) (past : List (Stamped Step)) → Stands home declared numbers secrets past before
      → Stands home declared numbers secrets (with_transition past (transition_of before now call)) after
  pub away : (careof : Address) → before.standing ≡ Away careof → IsElsewhere before → stays_put call ≡ true → AreFrom careof answers
  pub sent : left ≡ option_map (λ items. items ++ sends_of answers) out
  pub answered : puts_after ≡ puts ++ puts_of (answers_of (transition_of before now call).steps) answers
  pub refused : (number : ℕ) (shield : Option Shield) (packet : List ℕ) → call ≡ Take number shield packet → list_any refuses answers ≡ true → tables_of after ≡ tables_of before

-- a station that knew this was called at a moment, and answered a fault: its wire took a front of the answers of the
-- definition's transition, and sent their packets and no others; where it was away, and stays, each left from its care-of address; and
-- the wire was called once for each packet of that front, and once more at most: that call failed, and no call came after it
pub record BreaksOff (gives : Put → Bool) (before : Known) (now : ℕ) (call : Call) (out : Told) (puts : Answered) (left : Told) (puts_after : Answered) : Type 0 where
  pub count : ℕ
  pub answers : List Answer
  pub taken : PutsAll gives (take count (answers_of (transition_of before now call).steps)) answers
  pub away : (careof : Address) → before.standing ≡ Away careof → IsElsewhere before → stays_put call ≡ true → AreFrom careof answers
  pub sent : left ≡ option_map (λ items. items ++ sends_of answers) out
  pub failed : List PutFault
  pub few : length failed ≤ 1
  pub answered : puts_after ≡ puts ++ (puts_of (take count (answers_of (transition_of before now call).steps)) answers ++ map Err failed)

-- what a station that knew this and was called at a moment keeps once its call is over: what the definition's transition leaves known,
-- and the moment of the call
abbrev pub IsLeft : ContextSeen → (before : Known) (now : ℕ) (call : Call) → Type 0
IsLeft context before now call = (context.known ≡ (transition_of before now call).known) × (context.moment ≡ now)
