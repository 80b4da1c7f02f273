-- What became of an answer: what was written of it, and the status that was given in the end.
use Rattle.std.specs.Prelude.{◌≡◌, ◌≢◌, ℕ, ◌<◌, ◌≤◌, ◌⊎◌, List, length, take}
use Rattle.std.specs.declared.option.Option.{Option}
use Rattle.std.specs.Io.KnownBytes.{prepend_known, append_known, IsAtEnd}
use Rattle.mip_replies.specs.Answers.{Answer}

-- the status is neither a fault's nor want of memory
pub record IsConclusive (status : ℕ) : Type 0 where
  pub no_read_fault : status ≢ 3
  pub no_write_fault : status ≢ 4
  pub no_want_of_memory : status ≢ 5
  pub no_link_fault : status ≢ 7

-- the statuses that there are
abbrev pub IsStatus : ℕ → Type 0
IsStatus status = status ≤ 9

-- the whole answer was given
abbrev pub Says : Answer → ℕ → Option (List ℕ) → Option (List ℕ) → Type 0
Says answer given old new = (given ≡ answer.status) × (new ≡ append_known old answer.text)

-- a part of the text was written, and not all of it
abbrev pub HasWrittenPart : Answer → Option (List ℕ) → Option (List ℕ) → Type 0
HasWrittenPart answer old new = (count : ℕ) × (count < length answer.text) × (new ≡ append_known old (take count answer.text))

-- nothing but a front of the text was written
abbrev pub HasWrittenFront : Answer → Option (List ℕ) → Option (List ℕ) → Type 0
HasWrittenFront answer old new = (count : ℕ) × (new ≡ append_known old (take count answer.text))

-- what the sink held before and holds now, where it tells, and the status that was given
pub record Told (answer : Answer) (given : ℕ) (old new : Option (List ℕ)) : Type 0 where
  -- where no call failed and memory sufficed, the answer's status, and its whole text is written
  pub conclusive : IsConclusive given → Says answer given old new
  -- after a write fault some of the text is missing
  pub part : given ≡ 4 → HasWrittenPart answer old new
  -- whatever comes, nothing else is written
  pub front : HasWrittenFront answer old new

-- the input was read as far as these bytes, and they were answered
pub record IsAnswered (answer : List ℕ → Answer) (bytes : List ℕ) (given : ℕ) (left_old left_new held_old held_new : Option (List ℕ)) : Type 0 where
  pub most : length bytes ≤ 16777217
  pub taken : left_old ≡ prepend_known bytes left_new
  pub told : Told (answer bytes) given held_old held_new
  -- either all bytes within the bound were read, or reading stopped and nothing was written
  pub read : (length bytes ≤ 16777216 → IsAtEnd left_new) ⊎ (((given ≡ 3) ⊎ (given ≡ 5)) × (held_new ≡ held_old))
