-- A text, a packet or a message in the caller's memory: what is written there, and what the call tells of it.
use Rattle.std.specs.Prelude.{◌≡◌, ℕ, suc, ◌⊎◌, List, length, ◌++◌, drop, Bool, true, false, nat_lt, if◌then◌else◌}

-- the memory behind the call: the text stands at its beginning where it has room, and else nothing has changed
abbrev pub placed : List ℕ → List ℕ → List ℕ
placed text old = if nat_lt (length old) (length text) then old else text ++ drop (length text) old

-- the status, 10 where there is too little room
abbrev pub room_status : ℕ → List ℕ → List ℕ → ℕ
room_status status text old = if nat_lt (length old) (length text) then 10 else status

-- nothing has changed
abbrev pub Keeps : List ℕ → List ℕ → ℕ → ℕ → Type 0
Keeps old new size_old size_new = (new ≡ old) × (size_new ≡ size_old)

-- a text is told with a status: it is written where it has room, and its size is told in any case
abbrev pub Tells : ℕ → List ℕ → ℕ → List ℕ → List ℕ → ℕ → Type 0
Tells told text status old new size_new =
    (status ≡ room_status told text old) × (new ≡ placed text old) × (size_new ≡ length text)

-- a text is told, or memory has run out
abbrev pub Writes : List ℕ → ℕ → List ℕ → List ℕ → ℕ → ℕ → Type 0
Writes text status old new size_old size_new =
    ((status ≡ 5) × Keeps old new size_old size_new) ⊎ Tells 0 text status old new size_new

-- so it is where an argument is in its range; else the call tells so, and nothing has changed
abbrev pub WritesIf : Bool → List ℕ → ℕ → List ℕ → List ℕ → ℕ → ℕ → Type 0
WritesIf true text status old new size_old size_new = Writes text status old new size_old size_new
WritesIf false text status old new size_old size_new = (status ≡ 14) × Keeps old new size_old size_new

-- how many answers were fetched after one that had room, or had not
abbrev pub given_after : List ℕ → List ℕ → ℕ → ℕ
given_after text room given = if nat_lt (length room) (length text) then given else suc given
