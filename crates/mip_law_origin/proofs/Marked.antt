-- Each accepted update of a permitted history is marked, and the mark means what it says.
use Rattle.std.proofs.Common.{◌≡◌, ◌≤◌, List, [], ◌∷◌, ◌++◌, true, refl, sym, subst}
use Rattle.std.specs.Prelude.{Option, Some}
use Rattle.std.specs.List.{sum_by}
use Rattle.std.proofs.lemmas.List.{append_assoc, append-nil}
use Rattle.mip_entries.specs.declared.entry.Entry.{Entry}
use Rattle.mip_entries.specs.declared.entry.Entry.TheVariants as entries
use Rattle.mip_schedule.specs.Contents.{Content}
use Rattle.mip_provenance.specs.declared.accepted_update.AcceptedUpdate.{AcceptedUpdate}
use Rattle.mip_provenance.specs.declared.mark.Mark.{Mark}
use Rattle.mip_provenance.specs.declared.mark.Mark.TheVariants.{Origin, Forged}
use Rattle.mip_provenance.specs.Entries.{update_accepted}
use Rattle.mip_provenance.specs.Marks.{mark_in}
use Rattle.mip_history.specs.Setup.{setup_of}
use Rattle.mip_history.specs.Passing.{waited_by}
use Rattle.mip_history.specs.Permitted.{permitted}
use Rattle.mip_history.specs.Bound.{is_accepted}
use Rattle.mip_law_origin.specs.OwnHistoriesLaws.{ArePlain}
use Rattle.mip_law_origin.specs.Marked.{Means, EachIsMarked}
use Rattle.mip_law_origin.specs.MarkedLaws.{IsFollowed, EachIsFollowed}
use Rattle.mip_law_origin.proofs.Histories.{followed_permitted}
use Rattle.mip_law_origin.proofs.Origins.{permitted_stands, permitted_origin}

-- what follows an entry in the middle
followed_at : (front before : List Entry) (e : Entry) (after : List Entry) → EachIsFollowed front (before ++ e ∷ after) → IsFollowed (front ++ before) (update_accepted e) after
followed_at front [] e after each = subst (λ (f : List Entry). IsFollowed f (update_accepted e) after) (sym (append-nil front)) each.0
followed_at front (x ∷ before) e after each =
    subst (λ (f : List Entry). IsFollowed f (update_accepted e) after) (append_assoc front (x ∷ []) before) (followed_at (front ++ x ∷ []) before e after each.1)

an_update : (e : Entry) → is_accepted e ≡ true → (a : AcceptedUpdate) × (update_accepted e ≡ Some a)
an_update (entries.Accepted node number home binding careof sequence end i j) is = (_, refl)
an_update _ is = absurd cc

pub permitted_marked : (c : Content) → ArePlain c → sum_by waited_by c.events ≤ 36000000 → EachIsMarked (setup_of c) (permitted c)
unfolding EachIsMarked
permitted_marked c plain short before e after whole is =
    let found = an_update e is in
    let a : AcceptedUpdate = found.0 in
    let next : IsFollowed before (Some a) after =
    subst (λ (o : Option AcceptedUpdate). IsFollowed before o after) found.1
    (followed_at [] before e after (subst (λ (l : List Entry). EachIsFollowed [] l) whole (followed_permitted c))) in
    record { update = a; is = found.1; more = next.0; next = next.1; means = by a found.1 (mark_in before a) refl }
  where
    by : (a : AcceptedUpdate) → update_accepted e ≡ Some a → (m : Mark) → mark_in before a ≡ m → Means (setup_of c) before e a m
    by a told (Origin hot cot update) mark = (
      permitted_stands c plain before e after whole a hot cot update mark,
      permitted_origin c plain short before e after whole a told hot cot update mark,
    )
    by a told (Forged cause) mark = tt
