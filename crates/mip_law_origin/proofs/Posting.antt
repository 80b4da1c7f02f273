-- A packet is posted, overheard, and an address is claimed and given up: the run goes on by entries that are right.
use Rattle.std.proofs.Common.{◌≡◌, ℕ, zero, suc, List, [], ◌∷◌, ◌++◌, Bool, true, false, length, refl, sym, ap, ◌∙◌, subst}
use Rattle.std.specs.Prelude.{Option, Some, None, is_some, ◌==◌, if◌then◌else◌, ◌||◌, ◌&&◌}
use Rattle.std.specs.List.{list_any, cons_option}
use Rattle.std.proofs.lemmas.List.{map-append}
use Rattle.std.proofs.lemmas.List.Elements.{filter_map-append}
use Rattle.std.proofs.lemmas.List.Folds.{list_any-append}
use Rattle.mip_words.specs.declared.address.Address.{Address}
use Rattle.mip_words.specs.declared.shield.Shield.{Shield}
use Rattle.mip_entries.specs.declared.entry.Entry.{Entry}
use Rattle.mip_entries.specs.declared.entry.Entry.TheVariants as entries
use Rattle.mip_links.specs.Table.{Post, link_of}
use Rattle.mip_links.specs.Nets.{is_held_by}
use Rattle.mip_provenance.specs.declared.accepted_update.AcceptedUpdate.{AcceptedUpdate}
use Rattle.mip_provenance.specs.Entries.{update_accepted}
use Rattle.mip_history.specs.Setup.{Setup}
use Rattle.mip_history.specs.Runs.{Run, note, notes, entered, mobile_past_at}
use Rattle.mip_history.specs.Questions.{holder_in, hears_in}
use Rattle.mip_history.specs.Posting.{heards, is_other, overheard, posted}
use Rattle.mip_history.specs.Claims.{link_id, claim_entry, claimed_on, claims}
use Rattle.mip_history.specs.Homes.{resident, passes_to, left_on, given_up_on, gives_up}
use Rattle.mip_history.specs.BoundLaws.{packet_posted, packets_of}
use Rattle.mip_law_origin.specs.MarkedLaws.{IsFollowed}
use Rattle.mip_law_origin.specs.OwnHistoriesLaws.{IsOwnEntry}
use Rattle.mip_law_origin.proofs.Coming.{all_given_more}
use Rattle.mip_law_origin.proofs.Following.{is_busy}
use Rattle.mip_law_origin.proofs.Adding.{is_timed, IsGood, secrets_stay, Adds, untimed_life, adds_same, adds_then, adds_notes, adds_one, adds_either}

-- what outsiders hear
heards_idle : (hears : ℕ → Bool) (k o : ℕ) → list_any is_busy (heards hears k o) ≡ false
heards_idle hears k zero = refl
heards_idle hears k (suc o) =
    list_any-append is_busy (heards hears k o) (if hears o then entries.Heard k o ∷ [] else [])
    ∙ ap (λ (b : Bool). b || list_any is_busy (if hears o then entries.Heard k o ∷ [] else [])) (heards_idle hears k o)
    ∙ by (hears o)
  where
    by : (b : Bool) → (false || list_any is_busy (if b then entries.Heard k o ∷ [] else [])) ≡ false
    by true = refl
    by false = refl

good_entered : (post : Post) (e : Entry) (run : Run) → packet_posted e ≡ Some post.packet → IsGood run → IsGood (entered post (note e run))
good_entered post e run posts good = record {
  packets =
      filter_map-append packet_posted run.past (e ∷ [])
      ∙ ap (λ (o : Option (List ℕ)). packets_of run.past ++ cons_option o []) posts
      ∙ ap (λ (l : List (List ℕ)). l ++ post.packet ∷ []) good.packets
      ∙ sym (map-append (λ (p : Post). p.packet) run.posts (post ∷ []));
  mobiles = λ n. all_given_more run.past (e ∷ []) n (mobile_past_at run n) (good.mobiles n);
}

module _ (s : Setup) (Q : Type 0) where
  pub adds_overheard : (link : ℕ) (shield : Option Shield) (by : Option ℕ) (k : ℕ) (run : Run) → IsGood run → Adds s Q run (overheard s link shield by k run)
  adds_overheard link shield by k run good = at (is_some shield)
    where
      hears : ℕ → Bool
      hears o = is_other by o && hears_in run.past o link

      at : (b : Bool) → Adds s Q run (if b then run else notes (heards hears k s.outsiders) run)
      at true = adds_same s Q run run refl refl good
      at false = adds_notes s Q (heards hears k s.outsiders) run (heards_idle hears k s.outsiders) good

  pub adds_entered : (post : Post) (e : Entry) (run : Run) → IsGood run → packet_posted e ≡ Some post.packet → (Q → IsOwnEntry s run.past e)
      → update_accepted e ≡ None → is_timed e ≡ false → Adds s Q run (entered post (note e run))
  adds_entered post e run good posts own none steady = record {
    es = e ∷ [];
    whole = refl;
    own = λ q h. (own q, tt);
    secrets = secrets_stay s run (entered post (note e run)) refl (λ n. untimed_life s run.past (e ∷ []) n (ap (λ (x : Bool). x || false) steady));
    followed = (subst (λ (o : Option AcceptedUpdate). IsFollowed run.past o []) (sym none) tt, tt);
    steady = ap (λ (x : Bool). x || false) steady;
    good = good_entered post e run posts good;
  }

  pub adds_posted : (post : Post) (by : Option ℕ) (e : Entry) (run : Run) → IsGood run → packet_posted e ≡ Some post.packet → (Q → IsOwnEntry s run.past e)
      → update_accepted e ≡ None → is_timed e ≡ false → Adds s Q run (posted s post by e run)
  adds_posted post by e run good posts own none steady =
      let one : Adds s Q run (entered post (note e run)) = adds_entered post e run good posts own none steady in
      adds_then s Q run (entered post (note e run)) _ one (adds_overheard post.from post.shield by (length run.posts) (entered post (note e run)) one.good)

  -- an address is claimed, and given up
  pub adds_claims : (who : ℕ) (address : Address) (run : Run) → IsGood run → Adds s Q run (claims s who address run)
  adds_claims who address run good = by (link_of s.links address.0)
    where
      claim : (link : ℕ) (holder : Option ℕ) → Adds s Q run (note (claim_entry who address link holder) run)
      claim link None = adds_one s Q (entries.Claimed who (link_id link) address) run refl good
      claim link (Some other) = adds_either s Q (other == who) (entries.Claimed who (link_id link) address) (entries.Taken who (link_id link) address other) run refl refl good

      by : (link : Option ℕ) → Adds s Q run (claimed_on who address run link)
      by None = adds_one s Q entries.Idle run refl good
      by (Some link) = claim link (holder_in run.past address.0)

  adds_passes : (who : ℕ) (address : Address) (link : ℕ) (run : Run) (o : Option ℕ) → IsGood run → Adds s Q run (passes_to who address link run o)
  adds_passes who address link run None good = adds_same s Q run run refl refl good
  adds_passes who address link run (Some m) good = by (m == who)
    where
      by : (b : Bool) → Adds s Q run (if b then run else note (entries.Claimed m (link_id link) address) run)
      by true = adds_same s Q run run refl refl good
      by false = adds_one s Q (entries.Claimed m (link_id link) address) run refl good

  adds_left_on : (who : ℕ) (address : Address) (link : ℕ) (run : Run) → IsGood run → Adds s Q run (left_on s who address link run)
  adds_left_on who address link run good =
      let next : Run = note (entries.Released who (link_id link) address) run in
      let one : Adds s Q run next = adds_one s Q (entries.Released who (link_id link) address) run refl good in
      adds_then s Q run next _ one (adds_passes who address link next (resident s run address.0) one.good)

  pub adds_gives_up : (who : ℕ) (address : Address) (run : Run) → IsGood run → Adds s Q run (gives_up s who address run)
  adds_gives_up who address run good = by (link_of s.links address.0)
    where
      held : (link : ℕ) (b : Bool) → Adds s Q run (if b then left_on s who address link run else note entries.Idle run)
      held link true = adds_left_on who address link run good
      held link false = adds_one s Q entries.Idle run refl good

      by : (link : Option ℕ) → Adds s Q run (given_up_on s who address run link)
      by None = adds_one s Q entries.Idle run refl good
      by (Some link) = held link (is_held_by (holder_in run.past address.0) who)
