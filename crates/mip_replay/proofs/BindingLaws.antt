-- The bindings of a permitted history, and its repeated updates.
use Rattle.std.proofs.Common.{◌≡◌, ℕ, ◌≤◌, List, ◌∷◌, ◌++◌, true, sym, subst}
use Rattle.std.specs.Prelude.{Some, Ok}
use Rattle.std.specs.List.{sum_by}
use Rattle.mip_schedule.specs.Contents.{Content}
use Rattle.mip_schedule.specs.EventTimes.{waited}
use Rattle.mip_schedule.specs.Reading.{reading}
use Rattle.mip_schedule.specs.Spelling.{spelling}
use Rattle.mip_entries.specs.declared.entry.Entry.{Entry}
use Rattle.mip_history.specs.Setup.{setup_of}
use Rattle.mip_history.specs.Permitted.{permitted}
use Rattle.mip_history.specs.Passing.{waited_by}
use Rattle.mip_history.specs.Bound.{held_in, held_under_in, is_accepted, HasAccepted, IsBound, IsBoundUnder}
use Rattle.mip_history.specs.Again.{RepeatsAfterRounds}
use Rattle.mip_replay.specs.Bindings.{EachIsBound, EachRepeatIsLate}
use Rattle.mip_replay.proofs.ReadyLaws.{waits_are}

pub record AreHeld : Type 0 where
  pub held : (c : Content) (before after : List Entry) (n home careof : ℕ) → permitted c ≡ before ++ after → held_in (setup_of c) before n home ≡ Some careof → IsBound (setup_of c) before n home careof
  pub under : (c : Content) (before after : List Entry) (n home number careof : ℕ) → permitted c ≡ before ++ after → held_under_in (setup_of c) before n home number ≡ Some careof → IsBoundUnder (setup_of c) before n home number careof

abbrev pub AreHanded : Type 0
AreHanded = (c : Content) (before : List Entry) (e : Entry) (after : List Entry) → permitted c ≡ before ++ e ∷ after → is_accepted e ≡ true → HasAccepted (setup_of c) before e

pub bound_of_content : AreHeld → AreHanded → (c : Content) → EachIsBound (setup_of c) (permitted c)
bound_of_content held handed c = record { held = held.held c; under = held.under c; accepted = handed c }

pub bound_of : AreHeld → AreHanded → (c : Content) (h : List Entry) → h ≡ permitted c → EachIsBound (setup_of c) h
bound_of held handed c h is = subst (EachIsBound (setup_of c)) (sym is) (bound_of_content held handed c)

abbrev pub AreRounds : Type 0
AreRounds = (c : Content) → sum_by waited_by c.events ≤ 36000000 → RepeatsAfterRounds (setup_of c) (permitted c)

abbrev pub AreShort : Type 0
AreShort = (text : List ℕ) (c : Content) → reading text ≡ Ok c → waited c.events ≤ 36000000

pub repeats_of_text : AreRounds → AreShort → (text : List ℕ) (c : Content) → reading text ≡ Ok c → EachRepeatIsLate (setup_of c) (permitted c)
unfolding EachRepeatIsLate waited
repeats_of_text rounds short text c read = rounds c (subst (λ (n : ℕ). n ≤ 36000000) (sym (waits_are c.events)) (short text c read))

pub repeats_of : AreRounds → AreShort → (c : Content) (h : List Entry) → reading (spelling c) ≡ Ok c → h ≡ permitted c → EachRepeatIsLate (setup_of c) h
repeats_of rounds short c h read is = subst (EachRepeatIsLate (setup_of c)) (sym is) (repeats_of_text rounds short (spelling c) c read)
