-- The steps of a home agent: what it was called for, and what it does about it.
use Rattle.std.specs.Prelude.{ℕ, List, [], ◌∷◌, Option, Bool, true, false}
use Rattle.mip_words.specs.declared.address.Address.{Address}
use Rattle.mip_words.specs.declared.ids.LinkId.{LinkId}
use Rattle.mip_words.specs.declared.shield.Shield.{Shield}
use Rattle.mip_words.specs.declared.why.Why.{Why}
use Rattle.mip_entries.specs.declared.answer.Answer.{Answer}
use Rattle.mip_entries.specs.declared.answer.Answer.TheVariants.{Send, Note}
use Rattle.mip_entries.specs.declared.entry.Entry.TheVariants as entries
use Rattle.mip_entries.specs.Shows.{answers_by}
pub use Rattle.mip_entries.specs.Completed.{myself}
use Rattle.mip_rules_agent.specs.declared.home_binding.HomeBinding.{HomeBinding}
use Rattle.mip_rules_agent.specs.Calls.{Call}

pub data Step : Type 0 where
  -- it was called; leaves no entry
  Called : (call : Call) → Step
  -- it sends a packet
  Sends : (shield : Option Shield) (packet : List ℕ) → Step
  -- it accepts the home registration in a packet, or the deregistration
  Registers : (number : ℕ) (home : Address) (binding : HomeBinding) → Step
  -- it has an address from here on
  Claims : (home : Address) → Step
  -- and gives it up
  Releases : (home : Address) → Step
  -- it denies the update in a packet
  Denies : (number status : ℕ) → Step
  -- it drops a packet
  Drops : (number : ℕ) (why : Why) → Step
  -- the ends that were due are done; leaves no entry
  Rang : Step

-- a role writes 0 for a link
abbrev pub here : LinkId
here = record { 0 = 0 }

-- what shows of a step
abbrev pub answer_of : Step → List Answer
answer_of (Called call) = []
answer_of (Sends shield packet) = Send shield packet ∷ []
answer_of (Registers number home b) = Note (entries.Home myself home b.careof b.sequence b.end) ∷ []
answer_of (Claims home) = Note (entries.Claimed 0 here home) ∷ []
answer_of (Releases home) = Note (entries.Released 0 here home) ∷ []
answer_of (Denies number status) = Note (entries.Denied myself number status) ∷ []
answer_of (Drops number why) = Note (entries.Dropped myself number why) ∷ []
answer_of Rang = []

abbrev pub answers_of : List Step → List Answer
answers_of steps = answers_by answer_of steps

-- a call
abbrev pub is_call : Step → Bool
is_call (Called call) = true
is_call _ = false
