-- What a history tells of the addresses that a mobile gives up, and what changes nothing of it.
use Rattle.std.proofs.Common.{◌≡◌, ℕ, List, [], ◌∷◌, ◌++◌, Bool, true, false, refl, ap, ◌∙◌}
use Rattle.std.specs.Prelude.{Option, Some, None, not, ◌==◌, ◌&&◌, if◌then◌else◌}
use Rattle.std.specs.List.{filter_map}
use Rattle.std.proofs.lemmas.List.{append-nil}
use Rattle.std.proofs.lemmas.List.Elements.{filter_map-append}
use Rattle.mip_words.specs.declared.address.Address.{Address}
use Rattle.mip_words.specs.declared.ids.LinkId.{LinkId}
use Rattle.mip_entries.specs.declared.answer.Answer.{Answer}
use Rattle.mip_entries.specs.declared.answer.Answer.TheVariants.{Send, Note}
use Rattle.mip_entries.specs.declared.entry.Entry.{Entry}
use Rattle.mip_entries.specs.declared.entry.Entry.TheVariants as entries
use Rattle.mip_links.specs.Table.{Post, link_of}
use Rattle.mip_links.specs.Nets.{is_held_by}
use Rattle.mip_history.specs.Setup.{Setup}
use Rattle.mip_history.specs.Runs.{Run, note, entered}
use Rattle.mip_history.specs.Questions.{holder_in}
use Rattle.mip_history.specs.Claims.{link_id, claim_entry, claimed_on, claims}
use Rattle.mip_history.specs.Homes.{resident, passes_to, left_on, given_up_on, gives_up}
use Rattle.mip_history.specs.Nodes.{left_by, answered_one, answered}
use Rattle.mip_law_claims.specs.Claimings.{Claiming, release_told, releases_told}
use Rattle.mip_law_claims.specs.Claimings.Claiming.{Releases}
use Rattle.mip_law_claims.proofs.Noting.{is_claiming, left_kept, sent_kept}

-- an entry that tells of no address that the mobile gave up
module _ (own : Address) (m : ℕ) where
  pub release_push : (past : List Entry) (e : Entry) → releases_told own m (past ++ e ∷ []) ≡ releases_told own m past ++ releases_told own m (e ∷ [])
  release_push past e = filter_map-append (release_told own m) past (e ∷ [])

  pub release_same : (past : List Entry) (e : Entry) → release_told own m e ≡ None → releases_told own m (past ++ e ∷ []) ≡ releases_told own m past
  release_same past e none = release_push past e ∙ by (release_told own m e) none
    where
      by : (o : Option Claiming) → o ≡ None → releases_told own m past ++ filter_map (λ (x : Option Claiming). x) (o ∷ []) ≡ releases_told own m past
      by None is = append-nil (releases_told own m past)
      by (Some c) is = absurd cc

  pub untold_other : (e : Entry) → is_claiming e ≡ false → release_told own m e ≡ None
  untold_other (entries.Claimed who link address) other = refl
  untold_other (entries.Released who link address) other = absurd cc
  untold_other (entries.Taken who link address holder) other = refl
  untold_other _ other = refl

  pub untold_apart : (who : ℕ) (address : Address) (link : LinkId) → (m == who) ≡ false → release_told own m (entries.Released who link address) ≡ None
  untold_apart who address link apart = ap (λ (b : Bool). if b && not (address.0 == own.0) then Some (Releases address) else None) apart

  pub untold_home : (who : ℕ) (address : Address) (link : LinkId) → (address.0 == own.0) ≡ true → release_told own m (entries.Released who link address) ≡ None
  untold_home who address link home = ap (λ (b : Bool). if (m == who) && not b then Some (Releases address) else None) home ∙ by (m == who)
    where
      by : (b : Bool) → (if b && not true then Some (Releases address) else None) ≡ None
      by true = refl
      by false = refl

module _ (s : Setup) (m : ℕ) (own : Address) (P : Run → Type 0) (untold : (run : Run) (e : Entry) → release_told own m e ≡ None → P run → P (note e run)) where
  pub plain_untold : (run : Run) (e : Entry) → is_claiming e ≡ false → P run → P (note e run)
  plain_untold run e other p = untold run e (untold_other own m e other) p

  -- whoever claims an address
  pub claims_untold : (who : ℕ) (address : Address) (run : Run) → P run → P (claims s who address run)
  claims_untold who address run p = by (link_of s.links address.0)
    where
      of_other : (link other : ℕ) (mine : Bool) → P (note (if mine then entries.Claimed who (link_id link) address else entries.Taken who (link_id link) address other) run)
      of_other link other true = untold run (entries.Claimed who (link_id link) address) refl p
      of_other link other false = untold run (entries.Taken who (link_id link) address other) refl p

      claim : (link : ℕ) (holder : Option ℕ) → P (note (claim_entry who address link holder) run)
      claim link None = untold run (entries.Claimed who (link_id link) address) refl p
      claim link (Some other) = of_other link other (other == who)

      by : (link : Option ℕ) → P (claimed_on who address run link)
      by None = untold run entries.Idle refl p
      by (Some link) = claim link (holder_in run.past address.0)

  pub passes_untold : (who : ℕ) (address : Address) (link : ℕ) (next : Run) (o : Option ℕ) → P next → P (passes_to who address link next o)
  passes_untold who address link next None p = p
  passes_untold who address link next (Some x) p = by (x == who)
    where
      by : (b : Bool) → P (if b then next else note (entries.Claimed x (link_id link) address) next)
      by true = p
      by false = untold next (entries.Claimed x (link_id link) address) refl p

  -- whoever gives one up whose release is not told
  pub gives_up_untold : (who : ℕ) (address : Address) → ((link : LinkId) → release_told own m (entries.Released who link address) ≡ None) → (run : Run) → P run → P (gives_up s who address run)
  gives_up_untold who address none run p = by (link_of s.links address.0)
    where
      held : (link : ℕ) (b : Bool) → P (if b then left_on s who address link run else note entries.Idle run)
      held link true =
          passes_untold who address link (note (entries.Released who (link_id link) address) run) (resident s run address.0)
          (untold run (entries.Released who (link_id link) address) (none (link_id link)) p)
      held link false = untold run entries.Idle refl p

      by : (link : Option ℕ) → P (given_up_on s who address run link)
      by None = untold run entries.Idle refl p
      by (Some link) = held link (is_held_by (holder_in run.past address.0) who)

  -- another node, or an outsider
  module _ (who : ℕ) (apart : (m == who) ≡ false) where
    pub other_gives_up_untold : (address : Address) (run : Run) → P run → P (gives_up s who address run)
    other_gives_up_untold address run p = gives_up_untold who address (λ link. untold_apart own m who address link apart) run p

    left_untold : (e : Entry) (run : Run) → P run → P (left_by s who run e)
    left_untold (entries.Claimed by link address) run p = claims_untold who address run p
    left_untold (entries.Taken by link address holder) run p = claims_untold who address run p
    left_untold (entries.Released by link address) run p = other_gives_up_untold address run p
    left_untold e run p = left_kept s P plain_untold who e run refl p

    module _ (enters : (run : Run) (post : Post) → P run → P (entered post run)) (from : ℕ) where
      answer_untold : (answer : Answer) (run : Run) → P run → P (answered_one s who from run answer)
      answer_untold (Send shield packet) run p = sent_kept s P plain_untold enters who from shield packet run p
      answer_untold (Note e) run p = left_untold e run p

      pub answers_untold : (answers : List Answer) (run : Run) → P run → P (answered s who from run answers)
      unfolding answered
      answers_untold [] run p = p
      answers_untold (answer ∷ answers) run p = answers_untold answers (answered_one s who from run answer) (answer_untold answer run p)
