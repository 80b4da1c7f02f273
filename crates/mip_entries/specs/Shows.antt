-- What shows of a transition: the answers of its visible steps.
use Rattle.std.specs.Prelude.{◌≡◌, ℕ, List}
use Rattle.std.specs.List.{flat_map}
use Rattle.mip_entries.specs.declared.answer.Answer.{Answer}
use Rattle.mip_entries.specs.Transitions.{Transition}

-- the answers of steps, where each step shows these
abbrev pub answers_by : {S : Type 0} → (S → List Answer) → List S → List Answer
answers_by show steps = flat_map show steps

-- a transition at a moment: this is known as it stands, and these are its answers so far
unfoldable pub ShowsBy : {K S : Type 0} → (S → List Answer) → (now : ℕ) (known : K) (answers : List Answer) → Transition K S → Type 0
ShowsBy show now known answers t = (t.now ≡ now) × (t.known ≡ known) × (answers_by show t.steps ≡ answers)
