-- Packets are posted, and outsiders hear them.
use Rattle.std.specs.Prelude.{ℕ, zero, suc, List, [], ◌∷◌, ◌++◌, length, Bool, true, not, ◌&&◌, ◌==◌, if◌then◌else◌, Option, Some, None, is_some}
use Rattle.mip_words.specs.declared.shield.Shield.{Shield}
use Rattle.mip_entries.specs.declared.entry.Entry.{Entry}
use Rattle.mip_entries.specs.declared.entry.Entry.TheVariants.{Heard}
use Rattle.mip_links.specs.Table.{Post}
use Rattle.mip_history.specs.Setup.{Setup}
use Rattle.mip_history.specs.Runs.{Run, note, notes, entered}
use Rattle.mip_history.specs.Questions.{hears_in}

-- the `heard` of each of the first outsiders that hears, in order of declaration
abbrev pub heards : (ℕ → Bool) → ℕ → ℕ → List Entry
heards hears k zero = []
heards hears k (suc o) = heards hears k o ++ (if hears o then Heard k o ∷ [] else [])

abbrev pub is_other : Option ℕ → ℕ → Bool
is_other None o = true
is_other (Some by) o = not (by == o)

-- who listens on a link hears an unshielded packet there, but for the one that injected it
abbrev pub overheard : Setup → ℕ → Option Shield → Option ℕ → ℕ → Run → Run
overheard s link shield by k run =
    if is_some shield then run else notes (heards (λ o. is_other by o && hears_in run.past o link) k s.outsiders) run

-- a packet is posted: it enters the pool, its entry is left, and it is heard on the link that it is sent from
abbrev pub posted : Setup → Post → Option ℕ → Entry → Run → Run
posted s post by entry run = overheard s post.from post.shield by (length run.posts) (entered post (note entry run))
