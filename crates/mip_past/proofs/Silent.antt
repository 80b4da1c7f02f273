-- What is kept by each entry that tells a node nothing of itself is kept by claims, by what outsiders hear and by a packet that is posted.
use Rattle.std.proofs.Common.{◌≡◌, ℕ, zero, suc, List, [], ◌∷◌, Bool, true, false, length, refl, sym, ap, ◌∙◌, subst}
use Rattle.std.specs.Prelude.{Option, Some, None, is_some, ◌==◌, ◌&&◌, ◌||◌, if◌then◌else◌}
use Rattle.std.specs.List.{list_any}
use Rattle.std.proofs.lemmas.List.{append_assoc, append-nil}
use Rattle.std.proofs.lemmas.List.Folds.{list_any-append}
use Rattle.std.proofs.lemmas.Bool.{or_parts}
use Rattle.mip_words.specs.declared.address.Address.{Address}
use Rattle.mip_words.specs.declared.shield.Shield.{Shield}
use Rattle.mip_entries.specs.declared.entry.Entry.{Entry}
use Rattle.mip_entries.specs.declared.entry.Entry.TheVariants as entries
use Rattle.mip_links.specs.Table.{Post, link_of}
use Rattle.mip_links.specs.Nets.{is_held_by}
use Rattle.mip_history.specs.Setup.{Setup}
use Rattle.mip_history.specs.Runs.{Run, note, notes, entered}
use Rattle.mip_history.specs.Questions.{moment_says, holder_in, hears_in}
use Rattle.mip_history.specs.Claims.{link_id, claim_entry, claimed_on, claims}
use Rattle.mip_history.specs.Homes.{resident, passes_to, left_on, given_up_on, gives_up}
use Rattle.mip_history.specs.Posting.{heards, is_other, overheard, posted}

-- an entry that tells of time, of a life, of a place, of a registration or of another agent
abbrev pub is_loud : Entry → Bool
is_loud (entries.At moment) = true
is_loud (entries.Advertised node link router) = true
is_loud (entries.Careof node address) = true
is_loud (entries.Home node home careof sequence end) = true
is_loud (entries.Restarted node) = true
is_loud _ = false

pub no_moment : (e : Entry) → is_loud e ≡ false → moment_says e ≡ None
no_moment (entries.At moment) quiet = absurd cc
no_moment _ quiet = refl

heards_quiet : (hears : ℕ → Bool) (k o : ℕ) → list_any is_loud (heards hears k o) ≡ false
heards_quiet hears k zero = refl
heards_quiet hears k (suc o) =
    list_any-append is_loud (heards hears k o) (if hears o then entries.Heard k o ∷ [] else [])
    ∙ ap (λ (b : Bool). b || list_any is_loud (if hears o then entries.Heard k o ∷ [] else [])) (heards_quiet hears k o)
    ∙ by (hears o)
  where
    by : (b : Bool) → (false || list_any is_loud (if b then entries.Heard k o ∷ [] else [])) ≡ false
    by true = refl
    by false = refl

module _ (s : Setup) (P : Run → Type 0) (silent : (run : Run) (e : Entry) → is_loud e ≡ false → P run → P (note e run)) where
  pub s-notes : (es : List Entry) (run : Run) → list_any is_loud es ≡ false → P run → P (notes es run)
  s-notes [] run none p = subst (λ (l : List Entry). P (record run { past = l })) (sym (append-nil run.past)) p
  s-notes (e ∷ es) run none p =
      let parts = or_parts (is_loud e) (list_any is_loud es) none in
      subst (λ (l : List Entry). P (record run { past = l })) (append_assoc run.past (e ∷ []) es) (s-notes es (note e run) parts.1 (silent run e parts.0 p))

  pub s-claims : (who : ℕ) (address : Address) (run : Run) → P run → P (claims s who address run)
  s-claims who address run p = by (link_of s.links address.0)
    where
      of_other : (link other : ℕ) (mine : Bool) → P (note (if mine then entries.Claimed who (link_id link) address else entries.Taken who (link_id link) address other) run)
      of_other link other true = silent run (entries.Claimed who (link_id link) address) refl p
      of_other link other false = silent run (entries.Taken who (link_id link) address other) refl p

      claim : (link : ℕ) (holder : Option ℕ) → P (note (claim_entry who address link holder) run)
      claim link None = silent run (entries.Claimed who (link_id link) address) refl p
      claim link (Some other) = of_other link other (other == who)

      by : (link : Option ℕ) → P (claimed_on who address run link)
      by None = silent run entries.Idle refl p
      by (Some link) = claim link (holder_in run.past address.0)

  s-passes : (who : ℕ) (address : Address) (link : ℕ) (run : Run) (o : Option ℕ) → P run → P (passes_to who address link run o)
  s-passes who address link run None p = p
  s-passes who address link run (Some m) p = by (m == who)
    where
      by : (same : Bool) → P (if same then run else note (entries.Claimed m (link_id link) address) run)
      by true = p
      by false = silent run (entries.Claimed m (link_id link) address) refl p

  pub s-gives_up : (who : ℕ) (address : Address) (run : Run) → P run → P (gives_up s who address run)
  s-gives_up who address run p = by (link_of s.links address.0)
    where
      held : (link : ℕ) (b : Bool) → P (if b then left_on s who address link run else note entries.Idle run)
      held link true =
          s-passes who address link (note (entries.Released who (link_id link) address) run) (resident s run address.0)
          (silent run (entries.Released who (link_id link) address) refl p)
      held link false = silent run entries.Idle refl p

      by : (link : Option ℕ) → P (given_up_on s who address run link)
      by None = silent run entries.Idle refl p
      by (Some link) = held link (is_held_by (holder_in run.past address.0) who)

  s-overheard : (link : ℕ) (shield : Option Shield) (by : Option ℕ) (k : ℕ) (run : Run) → P run → P (overheard s link shield by k run)
  s-overheard link shield by k run p = at (is_some shield)
    where
      hears : ℕ → Bool
      hears o = is_other by o && hears_in run.past o link

      at : (b : Bool) → P (if b then run else notes (heards hears k s.outsiders) run)
      at true = p
      at false = s-notes (heards hears k s.outsiders) run (heards_quiet hears k s.outsiders) p

  module _ (put : (run : Run) (post : Post) → P run → P (entered post run)) where
    pub s-posted : (post : Post) (by : Option ℕ) (e : Entry) (run : Run) → is_loud e ≡ false → P run → P (posted s post by e run)
    s-posted post by e run quiet p = s-overheard post.from post.shield by (length run.posts) (entered post (note e run)) (put (note e run) post (silent run e quiet p))
