-- The steps of a mobile: what it was called for, and what it does about it. Those that leave no entry are silent.
use Rattle.std.specs.Prelude.{ℕ, List, [], ◌∷◌, None, Bool, true, false}
use Rattle.mip_words.specs.declared.address.Address.{Address}
use Rattle.mip_words.specs.declared.moment.Moment.{Moment}
use Rattle.mip_words.specs.declared.ids.LinkId.{LinkId}
use Rattle.mip_words.specs.declared.why.Why.{Why}
use Rattle.mip_nonce.specs.Secrets.{Life}
use Rattle.mip_bulist.specs.declared.work.Work.{Work}
use Rattle.mip_entries.specs.declared.answer.Answer.{Answer}
use Rattle.mip_entries.specs.declared.answer.Answer.TheVariants.{Send, Note}
use Rattle.mip_entries.specs.declared.entry.Entry.{Entry}
use Rattle.mip_entries.specs.declared.entry.Entry.TheVariants as entries
use Rattle.mip_entries.specs.Shows.{answers_by}
pub use Rattle.mip_entries.specs.Completed.{myself}
use Rattle.mip_rules_correspondent.specs.Calls as parts
use Rattle.mip_rules_mobile.specs.Calls.{Call}
use Rattle.mip_rules_mobile.specs.Trials.{Change}
use Rattle.mip_rules_mobile.specs.Sendings.{Sending, PeerUpdate, packet_of_sending, shield_of, update_packet}

pub data Step : Type 0 where
  -- it was called; silent
  Called : (call : Call) → Step
  -- its correspondent part is called; silent
  Parts : (call : parts.Call) → Step
  -- an entry of its correspondent part
  Notes : (entry : Entry) → Step
  -- it hands a packet to its wire
  Sends : (sending : Sending) → Step
  -- it can't send
  Unsends : (why : Why) → Step
  -- it drops a packet
  Drops : (number : ℕ) (why : Why) → Step
  -- it claims an address, gives one up, or finds it taken
  Claims : (address : Address) → Step
  Releases : (address : Address) → Step
  FindsTaken : (address : Address) (holder : ℕ) → Step
  -- it uses an address
  Arrives : (address : Address) → Step
  -- it uses none any more; silent
  Detaches : Step
  -- it loses all that it keeps
  Restarts : (secrets : Life) → Step
  -- its registration is acknowledged, until an end, to be renewed at a moment
  Registers : (agent : Address) (end renew : Moment) → Step
  -- its registration ends
  Unregisters : (agent : Address) → Step
  -- its agent refuses
  IsRefused : (status : ℕ) → Step
  -- its agent's last accepted sequence was this one; silent
  Resequences : (agent : Address) (last : ℕ) → Step
  -- a discovery of agents begins, is tried again, and is over; silent
  Seeks : Step
  SeeksAgain : Step
  GivesUp : Step
  -- it heard of these agents; silent
  Finds : (agents : List Address) → Step
  -- it turns to an agent
  Chooses : (agent : Address) → Step
  -- it learns how long its home prefix is valid and preferred, in seconds
  Learns : (valid preferred : ℕ) → Step
  -- a peer gets a row, if there is room; silent
  Meets : (peer : Address) → Step
  -- the trial of a row is changed; silent
  Tries : (row : ℕ) (change : Change) → Step
  -- the trial of a row makes an update, and it is handed to the wire
  Updates : (row : ℕ) (update : PeerUpdate) → Step
  -- a deletion of a row's binding was acknowledged; silent
  Forgets : (row : ℕ) → Step
  -- a row's binding is acknowledged, until an end, to be renewed at a moment
  Binds : (row : ℕ) (peer : Address) (end renew : Moment) → Step
  -- a row's binding ends
  Unbinds : (row : ℕ) (peer : Address) → Step
  -- work is set for so many milliseconds later, is stopped, and is begun; silent
  Waits : (work : Work) (wait : ℕ) → Step
  Stops : (work : Work) → Step
  Rings : (work : Work) → Step

-- a role writes 0 for a link, and for the number of a packet that it sends next
abbrev pub some_link : LinkId
some_link = record { 0 = 0 }

-- what shows of a step
abbrev pub answer_of : Step → List Answer
answer_of (Called call) = []
answer_of (Parts call) = []
answer_of (Notes entry) = Note entry ∷ []
answer_of (Sends sending) = Send (shield_of sending) (packet_of_sending sending) ∷ []
answer_of (Unsends why) = Note (entries.Unsent myself why) ∷ []
answer_of (Drops number why) = Note (entries.Dropped myself number why) ∷ []
answer_of (Claims address) = Note (entries.Claimed 0 some_link address) ∷ []
answer_of (Releases address) = Note (entries.Released 0 some_link address) ∷ []
answer_of (FindsTaken address holder) = Note (entries.Taken 0 some_link address holder) ∷ []
answer_of (Arrives address) = Note (entries.Careof myself address) ∷ []
answer_of Detaches = []
answer_of (Restarts secrets) = Note (entries.Restarted myself) ∷ []
answer_of (Registers agent end renew) = Note (entries.Registered myself agent end) ∷ []
answer_of (Unregisters agent) = Note (entries.Unregistered myself agent) ∷ []
answer_of (IsRefused status) = Note (entries.Refused myself status) ∷ []
answer_of (Resequences agent last) = []
answer_of Seeks = []
answer_of SeeksAgain = []
answer_of GivesUp = []
answer_of (Finds agents) = []
answer_of (Chooses agent) = Note (entries.Chosen myself agent) ∷ []
answer_of (Learns valid preferred) = Note (entries.Prefixes myself valid preferred) ∷ []
answer_of (Meets peer) = []
answer_of (Tries row change) = []
answer_of (Updates row update) = Note (entries.Made myself update.peer 0 update.made.home update.made.careof) ∷ Send None (update_packet update) ∷ []
answer_of (Forgets row) = []
answer_of (Binds row peer end renew) = Note (entries.Bound myself peer end) ∷ []
answer_of (Unbinds row peer) = Note (entries.Unbound myself peer) ∷ []
answer_of _ = []

abbrev pub answers_of : List Step → List Answer
answers_of steps = answers_by answer_of steps

-- a call
abbrev pub is_call : Step → Bool
is_call (Called call) = true
is_call _ = false
