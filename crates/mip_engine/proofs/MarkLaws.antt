-- An entry is left, and behind an `accepted` the mark of its origin.
use Rattle.std.proofs.Common.{◌≡◌, List, [], ◌∷◌, refl, sym, ap, ◌∙◌, subst}
use Rattle.std.specs.Prelude.{Option, Some, None, option_map}
use Rattle.std.specs.List.{AllByRecursion}
use Rattle.mip_entries.specs.declared.entry.Entry.{Entry}
use Rattle.mip_provenance.specs.declared.accepted_update.AcceptedUpdate.{AcceptedUpdate}
use Rattle.mip_provenance.specs.declared.mark.Mark.{Mark}
use Rattle.mip_provenance.specs.declared.mark.Mark.TheVariants.{Origin, Forged}
use Rattle.mip_provenance.specs.Entries.{update_accepted, mark_entry}
use Rattle.mip_provenance.specs.Marks.{mark_in}
use Rattle.mip_history.specs.Setup.{Setup}
use Rattle.mip_history.specs.Runs.{Run}
use Rattle.mip_history.specs.Nodes.{marks_of, marked}
use Rattle.mip_engine.specs.Engines.{EngineSeen, with_entries, with_entry}
use Rattle.mip_engine.specs.Quiet.{IsQuiet}
use Rattle.mip_engine.specs.Standing.{IsAt}
use Rattle.mip_engine.proofs.QuietLaws.{quiet_by}
use Rattle.mip_engine.proofs.PostingLaws.{with_more, at_quiets}

-- what is left where there is no mark, and where there is one
pub marks_none : (past : List Entry) (o : Option AcceptedUpdate) → None ≡ option_map (mark_in past) o → marks_of past o ≡ []
marks_none past None is = refl
marks_none past (Some a) is = absurd cc

pub marks_one : (entry : Entry) (e : EngineSeen) (o : Option AcceptedUpdate) (m : Mark) → Some m ≡ option_map (mark_in e.past) o
    → with_entry (mark_entry m) (with_entry entry e) ≡ with_entries (entry ∷ marks_of e.past o) e
marks_one entry e None m is = absurd cc
marks_one entry e (Some a) m is =
    let same : m ≡ mark_in e.past a = cc in
    with_more (entry ∷ []) (mark_entry m ∷ []) e ∙ ap (λ (x : Mark). with_entries (entry ∷ mark_entry x ∷ []) e) same

quiet_mark : (m : Mark) → IsQuiet (mark_entry m)
quiet_mark (Origin hot cot update) = quiet_by (mark_entry (Origin hot cot update)) refl refl
quiet_mark (Forged cause) = quiet_by (mark_entry (Forged cause)) refl refl

quiet_marks : (past : List Entry) (o : Option AcceptedUpdate) → AllByRecursion IsQuiet (marks_of past o)
quiet_marks past None = tt
quiet_marks past (Some a) = (quiet_mark (mark_in past a), tt)

-- the engine stands for the run with both
pub at_marked : (e : EngineSeen) (s : Setup) (run : Run) (x : Entry) → IsQuiet x → IsAt e s run → IsAt (with_entries (x ∷ marks_of e.past (update_accepted x)) e) s (marked x run)
at_marked e s run x quiet at =
    subst (λ (past : List Entry). IsAt (with_entries (x ∷ marks_of past (update_accepted x)) e) s (marked x run)) (sym at.history)
    (at_quiets (x ∷ marks_of run.past (update_accepted x)) e s run (quiet, quiet_marks run.past (update_accepted x)) at)
