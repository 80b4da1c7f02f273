-- Entries that tell of no claim, and what a fact owes that they keep.
use Rattle.std.proofs.Common.{◌≡◌, ℕ, zero, suc, List, [], ◌∷◌, Bool, true, false, length, refl, sym, subst}
use Rattle.std.specs.Prelude.{Option, Some, None, is_some, ◌&&◌, if◌then◌else◌}
use Rattle.std.specs.List.{AllByRecursion}
use Rattle.std.proofs.lemmas.List.{append_assoc, append-nil}
use Rattle.mip_words.specs.declared.shield.Shield.{Shield}
use Rattle.mip_entries.specs.declared.answer.Answer.TheVariants.{Send}
use Rattle.mip_entries.specs.declared.entry.Entry.{Entry}
use Rattle.mip_entries.specs.declared.entry.Entry.TheVariants as entries
use Rattle.mip_entries.specs.Completed.{node_id, named}
use Rattle.mip_provenance.specs.declared.accepted_update.AcceptedUpdate.{AcceptedUpdate}
use Rattle.mip_provenance.specs.declared.mark.Mark.{Mark}
use Rattle.mip_provenance.specs.declared.mark.Mark.TheVariants.{Origin, Forged}
use Rattle.mip_provenance.specs.Entries.{update_accepted, mark_entry}
use Rattle.mip_provenance.specs.Marks.{mark_in}
use Rattle.mip_links.specs.Table.{Post}
use Rattle.mip_history.specs.Setup.{Setup}
use Rattle.mip_history.specs.Runs.{Run, note, notes, entered}
use Rattle.mip_history.specs.Questions.{hears_in}
use Rattle.mip_history.specs.Nodes.{marks_of, marked, left_by, answered_one}
use Rattle.mip_history.specs.Posting.{heards, is_other, overheard}
use Rattle.mip_history.proofs.Reasons.{all_append}

-- an entry that tells of a claim
abbrev pub is_claiming : Entry → Bool
is_claiming (entries.Claimed who link address) = true
is_claiming (entries.Released who link address) = true
is_claiming (entries.Taken who link address holder) = true
is_claiming _ = false

-- several entries, none of which does
abbrev pub AreOther : List Entry → Type 0
AreOther es = AllByRecursion (λ e. is_claiming e ≡ false) es

heards_other : (hears : ℕ → Bool) (k o : ℕ) → AreOther (heards hears k o)
heards_other hears k zero = tt
heards_other hears k (suc o) =
    all_append (λ (e : Entry). is_claiming e ≡ false) (heards hears k o) (if hears o then entries.Heard k o ∷ [] else []) (heards_other hears k o) (by (hears o))
  where
    by : (b : Bool) → AreOther (if b then entries.Heard k o ∷ [] else [])
    by true = (refl, tt)
    by false = tt

mark_other : (m : Mark) → is_claiming (mark_entry m) ≡ false
mark_other (Origin hot cot update) = refl
mark_other (Forged cause) = refl

-- a fact that one such entry keeps
module _ (s : Setup) (P : Run → Type 0) (one : (run : Run) (e : Entry) → is_claiming e ≡ false → P run → P (note e run)) where
  pub others_kept : (es : List Entry) (run : Run) → AreOther es → P run → P (notes es run)
  others_kept [] run none p = subst (λ (l : List Entry). P (record run { past = l })) (sym (append-nil run.past)) p
  others_kept (e ∷ es) run none p =
      subst (λ (l : List Entry). P (record run { past = l })) (append_assoc run.past (e ∷ []) es) (others_kept es (note e run) none.1 (one run e none.0 p))

  pub overheard_kept : (link : ℕ) (shield : Option Shield) (by : Option ℕ) (k : ℕ) (run : Run) → P run → P (overheard s link shield by k run)
  overheard_kept link shield by k run p = at (is_some shield)
    where
      hears : ℕ → Bool
      hears o = is_other by o && hears_in run.past o link

      at : (b : Bool) → P (if b then run else notes (heards hears k s.outsiders) run)
      at true = p
      at false = others_kept (heards hears k s.outsiders) run (heards_other hears k s.outsiders) p

  pub marked_kept : (e : Entry) (run : Run) → is_claiming e ≡ false → P run → P (marked e run)
  marked_kept e run other p = by (update_accepted e)
    where
      by : (o : Option AcceptedUpdate) → P (notes (e ∷ marks_of run.past o) run)
      by None = others_kept (e ∷ []) run (other, tt) p
      by (Some a) = others_kept (e ∷ mark_entry (mark_in run.past a) ∷ []) run (other, (mark_other (mark_in run.past a), tt)) p

  -- what a node leaves that tells of no claim
  pub left_kept : (n : ℕ) (e : Entry) (run : Run) → is_claiming e ≡ false → P run → P (left_by s n run e)
  left_kept n (entries.Claimed who link address) run other p = absurd cc
  left_kept n (entries.Taken who link address holder) run other p = absurd cc
  left_kept n (entries.Released who link address) run other p = absurd cc
  left_kept n (entries.Restarted node) run other p = p
  left_kept n e run other p = marked_kept (named n 0 (length run.posts) e) run refl p

  -- a packet that it sends
  pub sent_kept : (enters : (run : Run) (post : Post) → P run → P (entered post run)) (n from : ℕ) (shield : Option Shield) (packet : List ℕ) (run : Run)
      → P run → P (answered_one s n from run (Send shield packet))
  sent_kept enters n from shield packet run p =
      let post : Post = record { from = from; shield = shield; packet = packet } in
      let e : Entry = entries.Sent (length run.posts) (node_id n) (is_some shield) packet in
      overheard_kept from shield None (length run.posts) (entered post (note e run)) (enters (note e run) post (one run e refl p))
