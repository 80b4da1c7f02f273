-- A fact of each item about the items before it.
use Rattle.std.specs.Prelude.{List, [], ◌∷◌, ◌++◌}

-- each item of a list meets P of all that stands before it, the front included
abbrev pub EachAfter : {X : Type 0} → (List X → X → Type 0) → List X → List X → Type 0
EachAfter P front [] = Unit {0}
EachAfter P front (x ∷ xs) = P front x × EachAfter P (front ++ x ∷ []) xs
