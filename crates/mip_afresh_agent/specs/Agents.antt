-- A home agent of a run, as contracts see it: what it was made with, and its past in its present life.
use Rattle.std.specs.Prelude.{ℕ, List, [], fold}
use Rattle.mip_words.specs.declared.address.Address.{Address}
use Rattle.mip_entries.specs.Stamped.{Stamped}
use Rattle.mip_rules_agent.specs.declared.identity.Identity.{Identity}
use Rattle.mip_rules_agent.specs.Known.{Known}
use Rattle.mip_rules_agent.specs.Calls as calls
use Rattle.mip_rules_agent.specs.Calls.{Call}
use Rattle.mip_rules_agent.specs.Steps.{Step}
use Rattle.mip_rules_agent.specs.Questions.{known}
use Rattle.mip_rules_agent.specs.Transitions.{Transition, with_transition}
use Rattle.mip_rules_agent.specs.Doing.{transition_of}
use Rattle.mip_afresh_agent.specs.declared.asked.Asked.{Asked}
use Rattle.mip_afresh_agent.specs.declared.question.Question.{Question}
use Rattle.mip_afresh_agent.specs.declared.question.Question.TheVariants.{Take, Tick, Plan, Hear}

pub record AgentSeen : Type 0 where
  pub me : Identity
  pub serves : List Address
  pub past : List (Stamped Step)

-- what it knows
abbrev pub known_to : AgentSeen → Known
known_to a = known a.serves a.past

-- what a call is to it
abbrev pub transition_at : AgentSeen → ℕ → Call → Transition
transition_at a now call = transition_of a.me (known_to a) now call

-- with this past
abbrev pub with_past : List (Stamped Step) → AgentSeen → AgentSeen
with_past past a = record { me = a.me; serves = a.serves; past = past }

-- and behind a call
abbrev pub after_call : AgentSeen → ℕ → Call → AgentSeen
after_call a now call = with_past (with_transition a.past (transition_at a now call)) a

-- a call as the log has it
abbrev pub call_of : Question → Call
call_of (Take number shield packet claim) = calls.Take number shield packet claim
call_of Tick = calls.Tick
call_of (Plan valid preferred) = calls.Plan valid preferred
call_of (Hear agent preference life) = calls.Hear agent preference life

-- a call makes the past longer by its transition
abbrev pub one_more : Identity → List Address → List (Stamped Step) → Asked → List (Stamped Step)
one_more me serves past asked = with_transition past (transition_of me (known serves past) asked.at.0 (call_of asked.question))

-- the past of these calls
abbrev pub past_of : Identity → List Address → List Asked → List (Stamped Step)
past_of me serves log = fold (one_more me serves) [] log
