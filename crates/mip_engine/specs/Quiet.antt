-- Entries that say nothing to the questions of a run.
use Rattle.std.specs.Prelude.{◌≡◌, ℕ, None, true}
use Rattle.mip_entries.specs.declared.entry.Entry.{Entry}
use Rattle.mip_roles.specs.RolesLaws.{is_apart}
use Rattle.mip_history.specs.Questions.{moment_says, holder_says, claims, listen_says, restarts, moved_says}

-- an entry that says nothing of who holds what
pub record IsNoClaim (x : Entry) : Type 0 where
  pub holder : (a : ℕ) → holder_says a x ≡ None
  pub declared : (by : ℕ) → claims by x ≡ None

-- an entry that says nothing of lives and of where a mobile stands
pub record IsUnmoved (x : Entry) : Type 0 where
  pub life : (n count : ℕ) → restarts n count x ≡ count
  pub spot : (n : ℕ) → moved_says n x ≡ None

-- an entry that says nothing of moments, lives and places
pub record IsTimeless (x : Entry) : Type 0 where
  pub moment : moment_says x ≡ None
  pub unmoved : IsUnmoved x

pub record IsSilent (x : Entry) : Type 0 where
  pub claim : IsNoClaim x
  pub timeless : IsTimeless x
  pub listening : (o l : ℕ) → listen_says o l x ≡ None

-- and nothing of packets that are posted, heard or handed over
pub record IsQuiet (x : Entry) : Type 0 where
  pub silent : IsSilent x
  pub apart : is_apart x ≡ true
