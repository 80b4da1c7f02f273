-- The last item of a kind, and what came since.
use Rattle.std.specs.Prelude.{List, [], ◌∷◌, Option, Some, None, Bool, if◌then◌else◌}

abbrev pub or_else : {X : Type 0} → Option X → Option X → Option X
or_else (Some x) o = Some x
or_else None o = o

-- the last item that passes the test
abbrev pub last_where : {X : Type 0} → (X → Bool) → List X → Option X
last_where p [] = None
last_where p (x ∷ xs) = or_else (last_where p xs) (if p x then Some x else None)
