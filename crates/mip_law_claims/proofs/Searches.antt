-- What a history tells of a mobile's claims, and what changes nothing of it.
use Rattle.std.proofs.Common.{◌≡◌, ℕ, List, [], ◌∷◌, ◌++◌, Bool, true, false, refl, sym, ap, ◌∙◌, subst}
use Rattle.std.specs.Prelude.{Option, Some, None, unwrap_or, not, ◌==◌, ◌&&◌, if◌then◌else◌, slice_get}
use Rattle.std.specs.List.{filter_map}
use Rattle.std.proofs.lemmas.List.{append-nil}
use Rattle.std.proofs.lemmas.List.Elements.{filter_map-append}
use Rattle.std.proofs.lemmas.Bool.{eqb-true, eq-eqb}
use Rattle.mip_words.specs.declared.address.Address.{Address}
use Rattle.mip_words.specs.declared.ids.LinkId.{LinkId}
use Rattle.mip_entries.specs.declared.answer.Answer.{Answer}
use Rattle.mip_entries.specs.declared.answer.Answer.TheVariants.{Send, Note}
use Rattle.mip_entries.specs.declared.entry.Entry.{Entry}
use Rattle.mip_entries.specs.declared.entry.Entry.TheVariants as entries
use Rattle.mip_links.specs.Table.{Post, link_of}
use Rattle.mip_links.specs.Nets.{is_held_by}
use Rattle.mip_history.specs.Setup.{Setup, Host}
use Rattle.mip_history.specs.Setup.Kind.{Mobile}
use Rattle.mip_history.specs.Runs.{Run, note, entered}
use Rattle.mip_history.specs.Questions.{holder_in}
use Rattle.mip_history.specs.Claims.{link_id, claim_entry, claimed_on, claims}
use Rattle.mip_history.specs.Homes.{is_at_home, lives_by_host, lives_at, resident, passes_to, left_on, given_up_on, gives_up}
use Rattle.mip_history.specs.Knowing.{mobile_known_in}
use Rattle.mip_history.specs.Nodes.{left_by, answered_one, answered}
use Rattle.mip_law_claims.specs.Claimings.{Claiming, search_told, searches_told}
use Rattle.mip_law_claims.specs.Claimings.Claiming.{Claims as OfClaim, FindsTaken as OfTaken}
use Rattle.mip_law_claims.proofs.Noting.{is_claiming, left_kept, sent_kept}
use Rattle.mip_law_claims.proofs.Tables.{holder_push, resident_lives}

-- an entry that tells of no claim of the mobile
module _ (own : Address) (m : ℕ) where
  pub search_push : (past : List Entry) (e : Entry) → searches_told own m (past ++ e ∷ []) ≡ searches_told own m past ++ searches_told own m (e ∷ [])
  search_push past e = filter_map-append (search_told own m) past (e ∷ [])

  pub search_same : (past : List Entry) (e : Entry) → search_told own m e ≡ None → searches_told own m (past ++ e ∷ []) ≡ searches_told own m past
  search_same past e none = search_push past e ∙ by (search_told own m e) none
    where
      by : (o : Option Claiming) → o ≡ None → searches_told own m past ++ filter_map (λ (x : Option Claiming). x) (o ∷ []) ≡ searches_told own m past
      by None is = append-nil (searches_told own m past)
      by (Some c) is = absurd cc

  pub silent_other : (e : Entry) → is_claiming e ≡ false → search_told own m e ≡ None
  silent_other (entries.Claimed who link address) other = absurd cc
  silent_other (entries.Released who link address) other = refl
  silent_other (entries.Taken who link address holder) other = absurd cc
  silent_other _ other = refl

  pub silent_claimed : (who : ℕ) (link : LinkId) (address : Address) → (m == who) ≡ false → search_told own m (entries.Claimed who link address) ≡ None
  silent_claimed who link address apart = ap (λ (b : Bool). if b && not (address.0 == own.0) then Some (OfClaim address) else None) apart

  pub silent_home : (who : ℕ) (link : LinkId) (address : Address) → (address.0 == own.0) ≡ true → search_told own m (entries.Claimed who link address) ≡ None
  silent_home who link address home = ap (λ (b : Bool). if (m == who) && not b then Some (OfClaim address) else None) home ∙ by (m == who)
    where
      by : (b : Bool) → (if b && not true then Some (OfClaim address) else None) ≡ None
      by true = refl
      by false = refl

  silent_taken : (who : ℕ) (link : LinkId) (address : Address) (holder : ℕ) → (m == who) ≡ false → search_told own m (entries.Taken who link address holder) ≡ None
  silent_taken who link address holder apart = ap (λ (b : Bool). if b then Some (OfTaken address holder) else None) apart

module _ (s : Setup) (m : ℕ) (own : Address) (agent : Option Address) (host : slice_get s.hosts m ≡ Some (record { address = own; kind = Mobile agent }))
    (P : Run → Type 0) (silent : (run : Run) (e : Entry) → search_told own m e ≡ None → P run → P (note e run)) where
  -- a home address passes to its mobile alone
  passed_silent : (run : Run) (address : Address) (link x : ℕ) → resident s run address.0 ≡ Some x → search_told own m (entries.Claimed x (link_id link) address) ≡ None
  passed_silent run address link x is = by (m == x) refl
    where
      first : (a b : Bool) → (a && b) ≡ true → a ≡ true
      first true b is = refl
      first false b is = absurd cc

      at_home : lives_at s run address.0 m ≡ true → (own.0 == address.0) ≡ true
      at_home lives =
          first (own.0 == address.0) (is_at_home (mobile_known_in s run m own agent).standing) (sym (ap (λ (o : Option Host). lives_by_host s run address.0 m o) host) ∙ lives)

      by : (b : Bool) → (m == x) ≡ b → search_told own m (entries.Claimed x (link_id link) address) ≡ None
      by true same =
          silent_home own m x (link_id link) address
          (eq-eqb address.0 own.0 (sym (eqb-true own.0 address.0 (at_home (subst (λ (k : ℕ). lives_at s run address.0 k ≡ true) (sym (eqb-true m x same)) (resident_lives s run address.0 x is))))))
      by false apart = silent_claimed own m x (link_id link) address apart

  passes_silent : (who : ℕ) (address : Address) (link : ℕ) (run next : Run) (o : Option ℕ) → resident s run address.0 ≡ o → P next → P (passes_to who address link next o)
  passes_silent who address link run next None is p = p
  passes_silent who address link run next (Some x) is p = by (x == who)
    where
      by : (b : Bool) → P (if b then next else note (entries.Claimed x (link_id link) address) next)
      by true = p
      by false = silent next (entries.Claimed x (link_id link) address) (passed_silent run address link x is) p

  -- whoever gives an address up, and another node or an outsider that claims one
  pub gives_up_silent : (who : ℕ) (address : Address) (run : Run) → P run → P (gives_up s who address run)
  gives_up_silent who address run p = by (link_of s.links address.0)
    where
      held : (link : ℕ) (b : Bool) → P (if b then left_on s who address link run else note entries.Idle run)
      held link true =
          passes_silent who address link run (note (entries.Released who (link_id link) address) run) (resident s run address.0) refl
          (silent run (entries.Released who (link_id link) address) refl p)
      held link false = silent run entries.Idle refl p

      by : (link : Option ℕ) → P (given_up_on s who address run link)
      by None = silent run entries.Idle refl p
      by (Some link) = held link (is_held_by (holder_in run.past address.0) who)

  module _ (who : ℕ) (apart : (m == who) ≡ false) where
    pub claims_silent : (address : Address) (run : Run) → P run → P (claims s who address run)
    claims_silent address run p = by (link_of s.links address.0)
      where
        of_other : (link other : ℕ) (mine : Bool) → P (note (if mine then entries.Claimed who (link_id link) address else entries.Taken who (link_id link) address other) run)
        of_other link other true = silent run (entries.Claimed who (link_id link) address) (silent_claimed own m who (link_id link) address apart) p
        of_other link other false = silent run (entries.Taken who (link_id link) address other) (silent_taken own m who (link_id link) address other apart) p

        claim : (link : ℕ) (holder : Option ℕ) → P (note (claim_entry who address link holder) run)
        claim link None = silent run (entries.Claimed who (link_id link) address) (silent_claimed own m who (link_id link) address apart) p
        claim link (Some other) = of_other link other (other == who)

        by : (link : Option ℕ) → P (claimed_on who address run link)
        by None = silent run entries.Idle refl p
        by (Some link) = claim link (holder_in run.past address.0)

    left_silent : (e : Entry) (run : Run) → P run → P (left_by s who run e)
    left_silent (entries.Claimed by link address) run p = claims_silent address run p
    left_silent (entries.Taken by link address holder) run p = claims_silent address run p
    left_silent (entries.Released by link address) run p = gives_up_silent who address run p
    left_silent e run p = left_kept s P (λ (r : Run) (x : Entry) other q. silent r x (silent_other own m x other) q) who e run refl p

    module _ (enters : (run : Run) (post : Post) → P run → P (entered post run)) (from : ℕ) where
      answer_silent : (answer : Answer) (run : Run) → P run → P (answered_one s who from run answer)
      answer_silent (Send shield packet) run p = sent_kept s P (λ (r : Run) (x : Entry) other q. silent r x (silent_other own m x other) q) enters who from shield packet run p
      answer_silent (Note e) run p = left_silent e run p

      pub answers_silent : (answers : List Answer) (run : Run) → P run → P (answered s who from run answers)
      unfolding answered
      answers_silent [] run p = p
      answers_silent (answer ∷ answers) run p = answers_silent answers (answered_one s who from run answer) (answer_silent answer run p)

-- an address other than the one that is given up keeps its holder
pub other_address : (s : Setup) (who : ℕ) (address : Address) (a : ℕ) (run : Run) → (a == address.0) ≡ false → holder_in (gives_up s who address run).past a ≡ holder_in run.past a
other_address s who address a run apart = by (link_of s.links address.0)
  where
    claimed : (past : List Entry) (x : ℕ) (link : LinkId) → holder_in (past ++ entries.Claimed x link address ∷ []) a ≡ holder_in past a
    claimed past x link = holder_push past (entries.Claimed x link address) a ∙ ap (λ (b : Bool). unwrap_or (if b then Some (Some x) else None) (holder_in past a)) apart

    idle : holder_in (run.past ++ entries.Idle ∷ []) a ≡ holder_in run.past a
    idle = holder_push run.past entries.Idle a

    released : (link : ℕ) → holder_in (run.past ++ entries.Released who (link_id link) address ∷ []) a ≡ holder_in run.past a
    released link = holder_push run.past (entries.Released who (link_id link) address) a ∙ ap (λ (b : Bool). unwrap_or (if b then Some None else None) (holder_in run.past a)) apart

    passes : (link : ℕ) (o : Option ℕ) → holder_in (let r : Run = passes_to who address link (note (entries.Released who (link_id link) address) run) o in r.past) a ≡ holder_in run.past a
    passes link None = released link
    passes link (Some x) = at (x == who)
      where
        at : (b : Bool) → holder_in (let next : Run = note (entries.Released who (link_id link) address) run in let r : Run = (if b then next else note (entries.Claimed x (link_id link) address) next) in r.past) a ≡ holder_in run.past a
        at true = released link
        at false = claimed (run.past ++ entries.Released who (link_id link) address ∷ []) x (link_id link) ∙ released link

    held : (link : ℕ) (b : Bool) → holder_in (let r : Run = (if b then left_on s who address link run else note entries.Idle run) in r.past) a ≡ holder_in run.past a
    held link true = passes link (resident s run address.0)
    held link false = idle

    by : (link : Option ℕ) → holder_in (let r : Run = given_up_on s who address run link in r.past) a ≡ holder_in run.past a
    by None = idle
    by (Some link) = held link (is_held_by (holder_in run.past address.0) who)
