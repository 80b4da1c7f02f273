-- The steps of a correspondent: what it was called for, and what it does about it.
use Rattle.std.specs.Prelude.{ℕ, List, [], ◌∷◌, None, option_map, Bool, true, false}
use Rattle.mip_words.specs.declared.address.Address.{Address}
use Rattle.mip_words.specs.declared.why.Why.{Why}
use Rattle.mip_nonce.specs.Window.{index_of}
use Rattle.mip_bcache.specs.declared.accepted.Accepted.{Accepted}
use Rattle.mip_entries.specs.declared.answer.Answer.{Answer}
use Rattle.mip_entries.specs.declared.answer.Answer.TheVariants.{Send, Note}
use Rattle.mip_entries.specs.declared.entry.Entry.TheVariants as entries
use Rattle.mip_entries.specs.Shows.{answers_by}
pub use Rattle.mip_entries.specs.Completed.{myself}
use Rattle.mip_rules_correspondent.specs.Calls.{Call}

pub data Step : Type 0 where
  -- it was called; leaves no entry
  Called : (call : Call) → Step
  -- it sends a packet, unshielded
  Sends : (packet : List ℕ) → Step
  -- it accepts the update in a packet, for a home and under a binding number
  Accepts : (number : ℕ) (home : Address) (binding : ℕ) (accepted : Accepted) → Step
  -- it denies the update in a packet
  Denies : (number status : ℕ) → Step
  -- it drops a packet
  Drops : (number : ℕ) (why : Why) → Step
  -- it hands up data, with home addresses restored
  HandsUp : (number : ℕ) (source destination : Address) (proto : ℕ) (payload : List ℕ) → Step
  -- it was asked for something that can't be
  Idles : Step

-- what shows of a step
abbrev pub answer_of : Step → List Answer
answer_of (Called call) = []
answer_of (Sends packet) = Send None packet ∷ []
answer_of (Accepts number home binding a) =
    Note (entries.Accepted myself number home binding a.careof a.sequence a.end (index_of a.home_nonce) (option_map index_of a.careof_nonce)) ∷ []
answer_of (Denies number status) = Note (entries.Denied myself number status) ∷ []
answer_of (Drops number why) = Note (entries.Dropped myself number why) ∷ []
answer_of (HandsUp number source destination proto payload) = Note (entries.Up myself number source destination proto payload) ∷ []
answer_of Idles = Note entries.Idle ∷ []

abbrev pub answers_of : List Step → List Answer
answers_of steps = answers_by answer_of steps

-- a call
abbrev pub is_call : Step → Bool
is_call (Called call) = true
is_call _ = false
