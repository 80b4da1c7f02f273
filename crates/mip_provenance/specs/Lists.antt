-- Words on lists: the first answer, what stands before a place, an item with those before it, the least number.
use Rattle.std.specs.Prelude.{ℕ, List, [], ◌∷◌, ◌++◌, fold, Bool, ◌&&◌, nat_lt, if◌then◌else◌, Option, Some, None}
use Rattle.std.specs.List.{cons_option}
use Rattle.std.specs.Option.{option_or}

-- what the first item says that says something
abbrev pub first_some : {X Y : Type 0} → (X → Option Y) → List X → Option Y
first_some says [] = None
first_some says (x ∷ xs) = option_or (says x) (first_some says xs)

-- the items before the first one that passes the test; all of them where none does
abbrev pub until : {X : Type 0} → (X → Bool) → List X → List X
until p [] = []
until p (x ∷ xs) = if p x then [] else x ∷ until p xs

-- what the items say, each seen with all that stands before it, the front included
abbrev pub along : {X Y : Type 0} → (List X → X → Option Y) → List X → List X → List Y
along says front [] = []
along says front (x ∷ xs) = cons_option (says front x) (along says (front ++ x ∷ []) xs)

-- an item where it passes the test
abbrev pub if_passes : {X : Type 0} → (X → Bool) → X → Option X
if_passes p x = if p x then Some x else None

abbrev pub lesser : (ℕ → Bool) → Option ℕ → ℕ → Option ℕ
lesser p None k = if p k then Some k else None
lesser p (Some best) k = if p k && nat_lt k best then Some k else Some best

-- the least number that passes the test
abbrev pub least : (ℕ → Bool) → List ℕ → Option ℕ
least p ks = fold (lesser p) None ks
