-- Laws and invariants of Last: only proofs stand on them.
use Rattle.std.specs.Prelude.{◌≡◌, List, [], ◌∷◌, ◌++◌, Bool, true, false, if◌then◌else◌}
use Rattle.std.specs.List.{list_any}

-- the items behind the last one that passes the test; all of them where none does
abbrev pub since : {X : Type 0} → (X → Bool) → List X → List X
since p [] = []
since p (x ∷ xs) = if list_any p xs then since p xs else (if p x then xs else x ∷ xs)

-- where the last item that passes the test stands
pub record StandsLast {X : Type 0} (p : X → Bool) (xs : List X) (x : X) : Type 0 where
  pub before : List X
  pub after : List X
  pub whole : xs ≡ before ++ x ∷ after
  pub passes : p x ≡ true
  pub none_after : list_any p after ≡ false

-- where the first item that passes the test stands
pub record StandsFirst {X : Type 0} (p : X → Bool) (xs : List X) : Type 0 where
  pub here : X
  pub before : List X
  pub after : List X
  pub whole : xs ≡ before ++ here ∷ after
  pub passes : p here ≡ true
  pub none_before : list_any p before ≡ false
