-- What the calls on an object tell that C holds by a handle, and what they make of it.
use Rattle.std.specs.Prelude.{◌≡◌, ◌⊎◌, ℕ, Bool, true, false, Option, Some, None, IsSomeAnd}

-- 12 where the moment is late, 14 where what is asked for can't be, 5 where memory has run out, each with nothing changed;
-- else the call is done
abbrev pub Does : {S : Type 0} → (late fit : Bool) → (old new : S) → (status : ℕ) → (done : Type 0) → Type 0
Does true fit old new status done = (status ≡ 12) × (new ≡ old)
Does false false old new status done = (status ≡ 14) × (new ≡ old)
Does false true old new status done = ((status ≡ 5) × (new ≡ old)) ⊎ ((status ≡ 0) × done)

-- 12 where the moment is late, 15 where there is none, else what there is
abbrev pub TellsIf : {A : Type 0} → (late : Bool) → (found : Option A) → (status : ℕ) → (old new : A) → Type 0
TellsIf true found status old new = (status ≡ 12) × (new ≡ old)
TellsIf false None status old new = (status ≡ 15) × (new ≡ old)
TellsIf false (Some a) status old new = (status ≡ 0) × (new ≡ a)

-- by its handle: 11 where that is closed, and else what the call does on the object
abbrev pub ByHandle : {S : Type 0} → (old new : Option S) → (status : ℕ) → (call : S → S → Type 0) → Type 0
ByHandle None new status call = (status ≡ 11) × (new ≡ None)
ByHandle (Some s) new status call = IsSomeAnd new (call s)

-- it is closed, 11 where it was so
abbrev pub close_status : {S : Type 0} → Option S → ℕ
close_status None = 11
close_status (Some s) = 0
