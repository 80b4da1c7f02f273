-- What becomes of a node's answers once its wire took its packets.
use Rattle.std.specs.Prelude.{◌≡◌, ◌≤◌, ℕ, Bool, IsTrue, List, [], ◌∷◌, ◌++◌, take, length, map, Option, option_map, Result, Ok, Err}
use Rattle.mip_words.specs.declared.shield.Shield.{Shield}
use Rattle.mip_words.specs.declared.why.Why.{Why}
use Rattle.mip_words.specs.declared.why.Why.TheVariants as whys
use Rattle.mip_outside.specs.declared.put.Put.{Put}
use Rattle.mip_outside.specs.declared.put.Put.TheVariants.{Sent, NoRoute, Oversize}
use Rattle.mip_outside.specs.declared.put_fault.PutFault.{PutFault}
use Rattle.mip_outside.specs.declared.put_fault.PutFault.TheVariants as puts
use Rattle.mip_transmission.specs.declared.fault.StationFault.{StationFault}
use Rattle.mip_transmission.specs.declared.fault.StationFault.TheVariants as faults
use Rattle.mip_entries.specs.declared.answer.Answer.{Answer}
use Rattle.mip_entries.specs.declared.answer.Answer.TheVariants.{Send, Note}
use Rattle.mip_entries.specs.declared.entry.Entry.{Entry}
use Rattle.mip_entries.specs.declared.entry.Entry.TheVariants as entries
use Rattle.mip_entries.specs.Completed.{myself}

-- a packet that the wire sent is a `Send`; one that it did not send is an entry that says why
abbrev pub after_put : Put → Option Shield → List ℕ → Answer
after_put Sent shield packet = Send shield packet
after_put NoRoute shield packet = Note (entries.Unsent myself whys.NoRoute)
after_put Oversize shield packet = Note (entries.Unsent myself whys.Size)

-- what one answer becomes, over a wire that may give these
abbrev pub Puts : (Put → Bool) → Answer → Answer → Type 0
Puts gives (Note entry) b = b ≡ Note entry
Puts gives (Send shield packet) b = (put : Put) × IsTrue (gives put) × (b ≡ after_put put shield packet)

-- what all of them become, one by one
abbrev pub PutsAll : (Put → Bool) → List Answer → List Answer → Type 0
PutsAll gives [] [] = Unit {0}
PutsAll gives [] (b ∷ bs) = ⊥
PutsAll gives (a ∷ more) [] = ⊥
PutsAll gives (a ∷ more) (b ∷ bs) = Puts gives a b × PutsAll gives more bs

abbrev pub sends_in : Answer → List (Option Shield × List ℕ)
sends_in (Send shield packet) = (shield, packet) ∷ []
sends_in (Note entry) = []

-- the packets that were sent, each with its shield
abbrev pub sends_of : List Answer → List (Option Shield × List ℕ)
sends_of [] = []
sends_of (a ∷ more) = sends_in a ++ sends_of more

-- the packets that a wire sent, each with its shield, where they are told
abbrev pub Told : Type 0
Told = Option (List (Option Shield × List ℕ))

-- what the calls of a wire answered, oldest first
abbrev pub Answered : Type 0
Answered = List (Result Put PutFault)

-- what a wire answered to a packet, as what became of the packet tells
abbrev pub put_for_why : Why → Put
put_for_why whys.NoRoute = NoRoute
put_for_why _ = Oversize

abbrev pub put_for_entry : Entry → Put
put_for_entry (entries.Unsent node why) = put_for_why why
put_for_entry _ = Oversize

abbrev pub put_told : Answer → Put
put_told (Send shield packet) = Sent
put_told (Note entry) = put_for_entry entry

-- the calls of the wire for one answer: one for a packet, and none for an entry
abbrev pub puts_for : Answer → Answer → Answered
puts_for (Send shield packet) b = Ok (put_told b) ∷ []
puts_for (Note entry) b = []

-- the calls of the wire for all of them: one for each packet, in order, and each answered as what became of its packet tells
abbrev pub puts_of : List Answer → List Answer → Answered
puts_of [] bs = []
puts_of (a ∷ more) [] = []
puts_of (a ∷ more) (b ∷ bs) = puts_for a b ++ puts_of more bs

-- a wire took so many of these answers, from the first one on, and sent the packets of those that came of them; of the others
-- it sent nothing. It was called once for each packet of those that it took, and once more at most: that call failed
pub record PutsFront (gives : Put → Bool) (asked : List Answer) (out left : Told) (before after : Answered) : Type 0 where
  pub count : ℕ
  pub answers : List Answer
  pub taken : PutsAll gives (take count asked) answers
  pub sent : left ≡ option_map (λ items. items ++ sends_of answers) out
  pub failed : List PutFault
  pub few : length failed ≤ 1
  pub answered : after ≡ before ++ (puts_of (take count asked) answers ++ map Err failed)

-- what a fault of the wire is to the station, and which fault of the wire that was
abbrev pub station_fault : PutFault → StationFault
station_fault puts.Failed = faults.Failed
station_fault puts.Memory = faults.Memory

abbrev pub put_fault : StationFault → PutFault
put_fault faults.Failed = puts.Failed
put_fault faults.Memory = puts.Memory
