-- What stands behind the bindings of a history, and when an update is accepted again.
use Rattle.std.specs.Prelude.{◌≡◌, ℕ, List, ◌∷◌, ◌++◌, true, Some}
use Rattle.mip_entries.specs.declared.entry.Entry.{Entry}
use Rattle.mip_history.specs.Setup.{Setup}
use Rattle.mip_history.specs.Bound.{held_in, held_under_in, is_accepted, HasAccepted, IsBound, IsBoundUnder}
use Rattle.mip_history.specs.Again.{RepeatsAfterRounds}

-- at each place of a history, each care-of address that a node holds, other than home, has its accepted update, the one to which
-- it sends and the one under each number of the home: a correspondent, or a mobile in its correspondent part; and each update that was ever accepted, whatever its mark, had just been handed over, with
-- the verdict Accept on its bytes: authentic under nonces that were valid then, and in sequence. RFC 6275 section 9.5.1
pub record EachIsBound (s : Setup) (past : List Entry) : Type 0 where
  pub held : (before after : List Entry) (n home careof : ℕ) → past ≡ before ++ after → held_in s before n home ≡ Some careof → IsBound s before n home careof
  pub under : (before after : List Entry) (n home number careof : ℕ) → past ≡ before ++ after → held_under_in s before n home number ≡ Some careof → IsBoundUnder s before n home number careof
  pub accepted : (before : List Entry) (e : Entry) (after : List Entry) → past ≡ before ++ e ∷ after → is_accepted e ≡ true → HasAccepted s before e

-- a node accepts the same update again in one life only where its sequences have gone round. RFC 6275 section 9.5.1
unfoldable pub EachRepeatIsLate : Setup → List Entry → Type 0
EachRepeatIsLate s past = RepeatsAfterRounds s past
