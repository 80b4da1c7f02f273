-- What a past says of a question.
use Rattle.std.specs.Prelude.{List, Option, unwrap_or, fold}

-- what the last item that says something says; d where none does
abbrev pub asked : {X S : Type 0} → (X → Option S) → S → List X → S
asked says d past = fold (λ s x. unwrap_or (says x) s) d past
