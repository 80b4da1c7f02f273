-- The answers of a call, as C fetches them.
use Rattle.std.specs.Prelude.{◌≡◌, ℕ, List, slice_get, Option, Some, None, IsSomeAnd}
use Rattle.mip_entries.specs.declared.answer.Answer.{Answer}
use Rattle.mip_c_words.specs.declared.answer_fields.AnswerFields.{AnswerFields}
use Rattle.mip_c_words.specs.declared.answer_queue.AnswerQueue.{AnswerQueue}
use Rattle.mip_c_words.specs.Answered.{fields_of, bytes_of}
use Rattle.mip_c_words.specs.Giving.{Keeps, Tells, given_after}

-- the answers of a call, of which none was fetched yet
abbrev pub IsFilled : AnswerQueue → List Answer → Type 0
IsFilled o answers = (o.answers ≡ answers) × (o.given ≡ 0)

-- the same answers, but for how many were fetched
abbrev pub HasGiven : AnswerQueue → AnswerQueue → ℕ → Type 0
HasGiven o p given = (p.answers ≡ o.answers) × (p.given ≡ given)

-- the next answer is told, or that none is left
abbrev pub TellsNext : Option Answer → AnswerQueue → AnswerQueue → ℕ → AnswerFields → AnswerFields → List ℕ → List ℕ → ℕ → ℕ → Type 0
TellsNext None o p status fields_old fields_new old new size_old size_new =
    (status ≡ 15) × (p ≡ o) × (fields_new ≡ fields_old) × Keeps old new size_old size_new
TellsNext (Some a) o p status fields_old fields_new old new size_old size_new =
    (fields_new ≡ fields_of a) × Tells 0 (bytes_of a) status old new size_new
    × HasGiven o p (given_after (bytes_of a) old o.given)

-- the next answer is asked for by a handle: 11 where that is closed, and nothing has changed
abbrev pub NextAt : Option AnswerQueue → Option AnswerQueue → ℕ → AnswerFields → AnswerFields → List ℕ → List ℕ → ℕ → ℕ → Type 0
NextAt None after status fields_old fields_new old new size_old size_new =
    (status ≡ 11) × (after ≡ None) × (fields_new ≡ fields_old) × Keeps old new size_old size_new
NextAt (Some o) after status fields_old fields_new old new size_old size_new =
    IsSomeAnd after (λ p. TellsNext (slice_get o.answers o.given) o p status fields_old fields_new old new size_old size_new)
