-- Laws and invariants of Marked: only proofs stand on them.
use Rattle.std.specs.Prelude.{◌≡◌, List, [], ◌∷◌, ◌++◌, Option, Some, None}
use Rattle.mip_entries.specs.declared.entry.Entry.{Entry}
use Rattle.mip_provenance.specs.declared.accepted_update.AcceptedUpdate.{AcceptedUpdate}
use Rattle.mip_provenance.specs.Entries.{update_accepted, mark_entry}
use Rattle.mip_provenance.specs.Marks.{mark_in}

-- behind these entries an update was accepted, and its mark comes next
abbrev pub IsFollowed : List Entry → Option AcceptedUpdate → List Entry → Type 0
IsFollowed front None rest = Unit {0}
IsFollowed front (Some a) rest = (more : List Entry) × (rest ≡ mark_entry (mark_in front a) ∷ more)

-- so is each of them
abbrev pub EachIsFollowed : List Entry → List Entry → Type 0
EachIsFollowed front [] = Unit {0}
EachIsFollowed front (e ∷ rest) = IsFollowed front (update_accepted e) rest × EachIsFollowed (front ++ e ∷ []) rest
