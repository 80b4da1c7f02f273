-- Each `accepted` of a history is followed by its mark.
use Rattle.std.specs.Prelude.{◌≡◌, List, ◌∷◌, ◌++◌, true, Some, ⊤}
use Rattle.mip_entries.specs.declared.entry.Entry.{Entry}
use Rattle.mip_provenance.specs.declared.accepted_update.AcceptedUpdate.{AcceptedUpdate}
use Rattle.mip_provenance.specs.declared.mark.Mark.{Mark}
use Rattle.mip_provenance.specs.declared.mark.Mark.TheVariants.{Origin, Forged}
use Rattle.mip_provenance.specs.Entries.{update_accepted, mark_entry}
use Rattle.mip_provenance.specs.Marks.{mark_in}
use Rattle.mip_provenance.specs.Origins.{HasOrigin}
use Rattle.mip_history.specs.Setup.{Setup}
use Rattle.mip_history.specs.Bound.{is_accepted}
use Rattle.mip_law_origin.specs.Origins.{IsOriginOf}

-- what the mark says: an origin stands in the history, and its tokens are those of the nonces that were valid; a forged one says
-- no more than its definition
abbrev pub Means : Setup → List Entry → Entry → AcceptedUpdate → Mark → Type 0
Means s past e a (Origin hot cot update) =
    HasOrigin past a hot cot update × IsOriginOf s past e a hot cot update
Means s past e a (Forged cause) = ⊤

-- behind this history an update was accepted; its mark comes next, and this is what it means
pub record IsMarked (s : Setup) (past : List Entry) (e : Entry) (rest : List Entry) : Type 0 where
  pub update : AcceptedUpdate
  pub is : update_accepted e ≡ Some update
  pub more : List Entry
  pub next : rest ≡ mark_entry (mark_in past update) ∷ more
  pub means : Means s past e update (mark_in past update)

-- each accepted update of a history is marked
unfoldable pub EachIsMarked : Setup → List Entry → Type 0
EachIsMarked s past = (before : List Entry) (e : Entry) (after : List Entry) → past ≡ before ++ e ∷ after → is_accepted e ≡ true → IsMarked s before e after
