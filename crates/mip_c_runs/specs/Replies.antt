-- What the program replies to an input, in the caller's memory.
use Rattle.std.specs.Prelude.{◌≡◌, ◌⊎◌, ℕ, List}
use Rattle.mip_replies.specs.Answers.{Answer}
use Rattle.mip_c_words.specs.Giving.{Keeps, Tells}

-- the whole answer was written, with its status
abbrev pub IsReplied : Answer → ℕ → List ℕ → Type 0
IsReplied answer status written = (status ≡ answer.status) × (written ≡ answer.text)

-- memory has run out and nothing has changed, or the answer is told with its status
abbrev pub Replies : Answer → ℕ → List ℕ → List ℕ → ℕ → ℕ → Type 0
Replies answer status old new size_old size_new =
    ((status ≡ 5) × Keeps old new size_old size_new) ⊎ Tells answer.status answer.text status old new size_new
