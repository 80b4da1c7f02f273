-- Every schedule's spelling is read as what the schedule holds.
use Rattle.std.proofs.Common.{◌≡◌, ℕ, List, true, ap}
use Rattle.std.specs.Prelude.{Result, Ok, Err}
use Rattle.mip_words.specs.declared.moment.Moment.{Moment}
use Rattle.mip_schedule.specs.Accepted.{is_read, held}
use Rattle.mip_schedule.specs.Contents.{Content, holding}
use Rattle.mip_schedule.specs.Faults.{Wrong}
use Rattle.mip_schedule.specs.Reading.{reading}
use Rattle.mip_schedule.specs.Schedules.{content}
use Rattle.mip_schedule.specs.Spelling.{spelling}
use Rattle.mip_symbols.specs.declared.declaration.Declaration.{Declaration}
use Rattle.mip_schedule.specs.declared.event.Event.{Event}
use Rattle.mip_schedule.specs.declared.schedule.Schedule.{Schedule}

pub read_is : (r : Result Content Wrong) (c : Content) → r ≡ Ok c → is_read r ≡ true
read_is r c e = ap is_read e

pub held_is : (r : Result Content Wrong) (c : Content) → r ≡ Ok c → held r ≡ c
held_is r c e = ap held e

-- what was read, from its parts
from_parts : (r : Result Content Wrong) (version : ℕ) (seed : List ℕ) (start : Moment) (ds : List Declaration) (es : List Event)
    → is_read r ≡ true → (held r).version ≡ version → (held r).seed ≡ seed → (held r).start ≡ start → (held r).declarations ≡ ds → (held r).events ≡ es → r ≡ Ok (holding version seed start ds es)
from_parts (Err w) version seed start ds es ok v a b c d = absurd cc
from_parts (Ok t) version seed start ds es ok v a b c d = ap (λ (x : Content). Ok x) (λ i. record { version = v i; seed = a i; start = b i; declarations = c i; events = d i })

pub accepted : (s : Schedule) → reading (spelling (content s)) ≡ Ok (content s)
accepted s = from_parts (reading (spelling (content s))) s.version s.seed s.start s.declarations s.events s.accepted s.same_version s.same_seed s.same_start s.same_declarations s.same_events
