-- What claims and releases leave of the addresses that a node holds, and of what is told of it.
use Rattle.std.proofs.Common.{◌≡◌, ℕ, zero, suc, List, [], ◌∷◌, ◌++◌, Bool, true, false, refl, sym, ap, ◌∙◌, subst}
use Rattle.std.specs.Prelude.{Option, Some, None, unwrap_or, ◌==◌, if◌then◌else◌, slice_get, length}
use Rattle.std.specs.List.{filter_map}
use Rattle.std.proofs.lemmas.List.{append-nil}
use Rattle.std.proofs.lemmas.List.Elements.{filter_map-append}
use Rattle.std.proofs.lemmas.List.Sums.{fold-append}
use Rattle.std.proofs.lemmas.Bool.{eqb-true, eq-eqb}
use Rattle.mip_words.specs.declared.address.Address.{Address}
use Rattle.mip_words.specs.declared.ids.LinkId.{LinkId}
use Rattle.mip_words.specs.Last.{or_else}
use Rattle.mip_entries.specs.declared.entry.Entry.{Entry}
use Rattle.mip_entries.specs.declared.entry.Entry.TheVariants as entries
use Rattle.mip_links.specs.Table.{link_of}
use Rattle.mip_links.specs.Nets.{is_held_by}
use Rattle.mip_history.specs.Setup.{Setup, Host, Kind, is_mobile_kind, is_mobile_host, is_mobile_at}
use Rattle.mip_history.specs.Setup.Kind.{Correspondent, Agent, Mobile}
use Rattle.mip_history.specs.Runs.{Run, note}
use Rattle.mip_history.specs.Questions.{holder_says, holder_in}
use Rattle.mip_history.specs.Claims.{link_id, claim_entry, claimed_on, claims}
use Rattle.mip_history.specs.Homes.{lives_by_kind, lives_by_host, lives_at, first_below, resident, passes_to, left_on, given_up_on, gives_up}
use Rattle.mip_law_claims.specs.Claimings.{Claiming, claiming_told, claimings_told}
use Rattle.mip_law_claims.specs.Claimings.Claiming.{Claims, Releases}
use Rattle.mip_entries.specs.declared.answer.Answer.{Answer}
use Rattle.mip_entries.specs.declared.answer.Answer.TheVariants.{Send, Note}
use Rattle.mip_links.specs.Table.{Post}
use Rattle.mip_history.specs.Runs.{entered}
use Rattle.mip_history.specs.Knowing.{other_than}
use Rattle.mip_history.specs.Nodes.{left_by, answered_one, answered}
use Rattle.mip_history.proofs.Effects.{released_holder, held_is}
use Rattle.mip_law_claims.proofs.Noting.{is_claiming, left_kept, sent_kept}

-- one entry more
pub holder_push : (past : List Entry) (e : Entry) (a : ℕ) → holder_in (past ++ e ∷ []) a ≡ unwrap_or (holder_says a e) (holder_in past a)
holder_push past e a = fold-append (λ (o : Option ℕ) (x : Entry). unwrap_or (holder_says a x) o) None past (e ∷ [])

pub told_push : (m : ℕ) (past : List Entry) (e : Entry) → claimings_told m (past ++ e ∷ []) ≡ claimings_told m past ++ claimings_told m (e ∷ [])
told_push m past e = filter_map-append (claiming_told m) past (e ∷ [])

told_same : (m : ℕ) (past : List Entry) (e : Entry) → claiming_told m e ≡ None → claimings_told m (past ++ e ∷ []) ≡ claimings_told m past
told_same m past e none = told_push m past e ∙ by (claiming_told m e) none
  where
    by : (o : Option Claiming) → o ≡ None → claimings_told m past ++ filter_map (λ (x : Option Claiming). x) (o ∷ []) ≡ claimings_told m past
    by None is = append-nil (claimings_told m past)
    by (Some c) is = absurd cc

-- an entry that tells nothing of a node and leaves it what it holds
pub record IsSafe (m : ℕ) (past : List Entry) (e : Entry) : Type 0 where
  pub told : claimings_told m (past ++ e ∷ []) ≡ claimings_told m past
  pub held : (a : ℕ) → holder_in past a ≡ Some m → holder_in (past ++ e ∷ []) a ≡ Some m

untold : (m : ℕ) (e : Entry) → is_claiming e ≡ false → claiming_told m e ≡ None
untold m (entries.Claimed who link address) other = absurd cc
untold m (entries.Released who link address) other = absurd cc
untold m (entries.Taken who link address holder) other = absurd cc
untold m _ other = refl

unheld : (a : ℕ) (e : Entry) → is_claiming e ≡ false → holder_says a e ≡ None
unheld a (entries.Claimed who link address) other = absurd cc
unheld a (entries.Released who link address) other = absurd cc
unheld a _ other = refl

pub same_holder : (past : List Entry) (e : Entry) (a : ℕ) → is_claiming e ≡ false → holder_in (past ++ e ∷ []) a ≡ holder_in past a
same_holder past e a other = holder_push past e a ∙ ap (λ (o : Option (Option ℕ)). unwrap_or o (holder_in past a)) (unheld a e other)

pub safe_other : (m : ℕ) (past : List Entry) (e : Entry) → is_claiming e ≡ false → IsSafe m past e
safe_other m past e other = record { told = told_same m past e (untold m e other); held = λ a is. same_holder past e a other ∙ is }

module _ (m who : ℕ) (apart : (m == who) ≡ false) where
  if_told : (c : Claiming) → (if m == who then Some c else None) ≡ None
  if_told c = ap (λ (b : Bool). if b then Some c else None) apart

  -- an address that the node does not hold
  elsewhere : (past : List Entry) (address a : ℕ) (new : Option ℕ) → (holder_in past address ≡ Some m → ⊥) → holder_in past a ≡ Some m
      → unwrap_or (if a == address then Some new else None) (holder_in past a) ≡ Some m
  elsewhere past address a new other is = by (a == address) refl
    where
      by : (b : Bool) → (a == address) ≡ b → unwrap_or (if b then Some new else None) (holder_in past a) ≡ Some m
      by true same = absurd (other (sym (ap (holder_in past) (eqb-true a address same)) ∙ is))
      by false same = is

  pub safe_claimed : (past : List Entry) (link : LinkId) (address : Address) → (holder_in past address.0 ≡ Some m → ⊥) → IsSafe m past (entries.Claimed who link address)
  safe_claimed past link address other = record {
    told = told_same m past (entries.Claimed who link address) (if_told _);
    held = λ a is. holder_push past (entries.Claimed who link address) a ∙ elsewhere past address.0 a (Some who) other is;
  }

  pub safe_released : (past : List Entry) (link : LinkId) (address : Address) → (holder_in past address.0 ≡ Some m → ⊥) → IsSafe m past (entries.Released who link address)
  safe_released past link address other = record {
    told = told_same m past (entries.Released who link address) (if_told _);
    held = λ a is. holder_push past (entries.Released who link address) a ∙ elsewhere past address.0 a None other is;
  }

  safe_taken : (past : List Entry) (link : LinkId) (address : Address) (holder : ℕ) → IsSafe m past (entries.Taken who link address holder)
  safe_taken past link address holder = record {
    told = told_same m past (entries.Taken who link address holder) (if_told _);
    held = λ a is. holder_push past (entries.Taken who link address holder) a ∙ is;
  }

  -- what somebody else claims
  pub other_holder : (past : List Entry) (a other : ℕ) → holder_in past a ≡ Some other → (other == who) ≡ true → holder_in past a ≡ Some m → ⊥
  other_holder past a other is mine again =
      let same : Some other ≡ Some m = sym is ∙ again in
      let here : other ≡ m = cc in
      let both : true ≡ false = sym (eq-eqb m who (sym here ∙ eqb-true other who mine)) ∙ apart in
      cc

  module _ (s : Setup) (P : Run → Type 0) (safe : (run : Run) (e : Entry) → IsSafe m run.past e → P run → P (note e run)) where
    pub other_claims : (address : Address) (run : Run) → P run → P (claims s who address run)
    other_claims address run p = by (link_of s.links address.0)
      where
        of_other : (link other : ℕ) → holder_in run.past address.0 ≡ Some other → (mine : Bool) → (other == who) ≡ mine
            → P (note (if mine then entries.Claimed who (link_id link) address else entries.Taken who (link_id link) address other) run)
        of_other link other is true mine =
            safe run (entries.Claimed who (link_id link) address) (safe_claimed run.past (link_id link) address (other_holder run.past address.0 other is mine)) p
        of_other link other is false mine = safe run (entries.Taken who (link_id link) address other) (safe_taken run.past (link_id link) address other) p

        claim : (link : ℕ) (holder : Option ℕ) → holder_in run.past address.0 ≡ holder → P (note (claim_entry who address link holder) run)
        claim link None is =
            safe run (entries.Claimed who (link_id link) address) (safe_claimed run.past (link_id link) address (λ again. absurd (let both : None ≡ Some m = sym is ∙ again in cc))) p
        claim link (Some other) is = of_other link other is (other == who) refl

        by : (link : Option ℕ) → P (claimed_on who address run link)
        by None = safe run entries.Idle (safe_other m run.past entries.Idle refl) p
        by (Some link) = claim link (holder_in run.past address.0) refl

-- who lives at a home address does so, and is a mobile
pub resident_lives : (s : Setup) (run : Run) (address x : ℕ) → resident s run address ≡ Some x → lives_at s run address x ≡ true
resident_lives s run address x = found (length s.hosts)
  where
    last : (n : ℕ) (b : Bool) → lives_at s run address n ≡ b → (if b then Some n else None) ≡ Some x → lives_at s run address x ≡ true
    last n true lives is =
        let same : n ≡ x = cc in
        subst (λ (k : ℕ). lives_at s run address k ≡ true) same lives
    last n false lives is = absurd cc

    by : (n : ℕ) (o : Option ℕ) → (o ≡ Some x → lives_at s run address x ≡ true) → or_else o (if lives_at s run address n then Some n else None) ≡ Some x → lives_at s run address x ≡ true
    by n None more is = last n (lives_at s run address n) refl is
    by n (Some y) more is = more is

    found : (n : ℕ) → first_below (lives_at s run address) n ≡ Some x → lives_at s run address x ≡ true
    found zero is = absurd cc
    found (suc n) is = by n (first_below (lives_at s run address) n) (found n) is

pub resident_mobile : (s : Setup) (run : Run) (address x : ℕ) → resident s run address ≡ Some x → is_mobile_at s x ≡ true
resident_mobile s run address x is = of_host (slice_get s.hosts x) (resident_lives s run address x is)
  where
    of_kind : (host : Host) (kind : Kind) → lives_by_kind s run address x host.address kind ≡ true → is_mobile_kind kind ≡ true
    of_kind host (Correspondent room) is = absurd cc
    of_kind host (Agent preference life room serves) is = absurd cc
    of_kind host (Mobile agent) is = refl

    of_host : (o : Option Host) → lives_by_host s run address x o ≡ true → is_mobile_host o ≡ true
    of_host None is = absurd cc
    of_host (Some host) is = of_kind host host.kind is

claimed_holder : (past : List Entry) (who : ℕ) (link : LinkId) (address : Address) → holder_in (past ++ entries.Claimed who link address ∷ []) address.0 ≡ Some who
claimed_holder past who link address =
    holder_push past (entries.Claimed who link address) address.0
    ∙ ap (λ (b : Bool). unwrap_or (if b then Some (Some who) else None) (holder_in past address.0)) (eq-eqb address.0 address.0 refl)

pub not_held : (past : List Entry) (m a : ℕ) → holder_in past a ≡ None → holder_in past a ≡ Some m → ⊥
not_held past m a none is = let both : None ≡ Some m = sym none ∙ is in cc

pub apart_from : (s : Setup) (m x : ℕ) → is_mobile_at s m ≡ false → is_mobile_at s x ≡ true → (m == x) ≡ false
apart_from s m x none is = by (m == x) refl
  where
    by : (b : Bool) → (m == x) ≡ b → b ≡ false
    by true same = absurd (let both : true ≡ false = sym is ∙ ap (λ (n : ℕ). is_mobile_at s n) (sym (eqb-true m x same)) ∙ none in cc)
    by false same = refl

-- a node that is no mobile, and what other nodes and outsiders do
module _ (s : Setup) (m : ℕ) (none : is_mobile_at s m ≡ false) (P : Run → Type 0) (safe : (run : Run) (e : Entry) → IsSafe m run.past e → P run → P (note e run)) where
  passes_kept : (who : ℕ) (address : Address) (link : ℕ) (run next : Run) (o : Option ℕ) → resident s run address.0 ≡ o → holder_in next.past address.0 ≡ None → P next
      → P (passes_to who address link next o)
  passes_kept who address link run next None is free p = p
  passes_kept who address link run next (Some x) is free p = by (x == who)
    where
      by : (b : Bool) → P (if b then next else note (entries.Claimed x (link_id link) address) next)
      by true = p
      by false =
          safe next (entries.Claimed x (link_id link) address)
          (safe_claimed m x (apart_from s m x none (resident_mobile s run address.0 x is)) next.past (link_id link) address (not_held next.past m address.0 free)) p

  module _ (who : ℕ) (apart : (m == who) ≡ false) where
    pub other_gives_up : (address : Address) (run : Run) → P run → P (gives_up s who address run)
    other_gives_up address run p = by (link_of s.links address.0)
      where
        held : (link : ℕ) (b : Bool) → is_held_by (holder_in run.past address.0) who ≡ b → P (if b then left_on s who address link run else note entries.Idle run)
        held link true is =
            passes_kept who address link run (note (entries.Released who (link_id link) address) run) (resident s run address.0) refl (released_holder run.past who (link_id link) address)
            (safe run (entries.Released who (link_id link) address)
            (safe_released m who apart run.past (link_id link) address (other_holder m who apart run.past address.0 who (held_is (holder_in run.past address.0) who is) (eq-eqb who who refl))) p)
        held link false is = safe run entries.Idle (safe_other m run.past entries.Idle refl) p

        by : (link : Option ℕ) → P (given_up_on s who address run link)
        by None = safe run entries.Idle (safe_other m run.past entries.Idle refl) p
        by (Some link) = held link (is_held_by (holder_in run.past address.0) who) refl

    other_left : (e : Entry) (run : Run) → P run → P (left_by s who run e)
    other_left (entries.Claimed by link address) run p = other_claims m who apart s P safe address run p
    other_left (entries.Taken by link address holder) run p = other_claims m who apart s P safe address run p
    other_left (entries.Released by link address) run p = other_gives_up address run p
    other_left e run p = left_kept s P (λ (r : Run) (x : Entry) other q. safe r x (safe_other m r.past x other) q) who e run refl p

    module _ (enters : (run : Run) (post : Post) → P run → P (entered post run)) (from : ℕ) where
      other_answer : (answer : Answer) (run : Run) → P run → P (answered_one s who from run answer)
      other_answer (Send shield packet) run p = sent_kept s P (λ (r : Run) (x : Entry) other q. safe r x (safe_other m r.past x other) q) enters who from shield packet run p
      other_answer (Note e) run p = other_left e run p

      pub other_answers : (answers : List Answer) (run : Run) → P run → P (answered s who from run answers)
      unfolding answered
      other_answers [] run p = p
      other_answers (answer ∷ answers) run p = other_answers answers (answered_one s who from run answer) (other_answer answer run p)

-- what a node claims that nobody else holds, and what it gives up that it holds
module _ (s : Setup) (m : ℕ) (address : Address) (run : Run) where
  pub off_link_claim : link_of s.links address.0 ≡ None → claims s m address run ≡ note entries.Idle run
  off_link_claim off = ap (claimed_on m address run) off

  pub off_link_release : link_of s.links address.0 ≡ None → gives_up s m address run ≡ note entries.Idle run
  off_link_release off = ap (given_up_on s m address run) off

  module _ (link : ℕ) (on : link_of s.links address.0 ≡ Some link) where
    pub free_claim_is : other_than m (holder_in run.past address.0) ≡ None → claims s m address run ≡ note (entries.Claimed m (link_id link) address) run
    free_claim_is free = ap (claimed_on m address run) on ∙ ap (λ (e : Entry). note e run) (by (holder_in run.past address.0) free)
      where
        of_other : (other : ℕ) (mine : Bool) → (if mine then None else Some other) ≡ None
            → (if mine then entries.Claimed m (link_id link) address else entries.Taken m (link_id link) address other) ≡ entries.Claimed m (link_id link) address
        of_other other true is = refl
        of_other other false is = absurd cc

        by : (o : Option ℕ) → other_than m o ≡ None → claim_entry m address link o ≡ entries.Claimed m (link_id link) address
        by None is = refl
        by (Some other) is = of_other other (other == m) is

    pub held_release_is : holder_in run.past address.0 ≡ Some m
        → gives_up s m address run ≡ passes_to m address link (note (entries.Released m (link_id link) address) run) (resident s run address.0)
    held_release_is held =
        ap (given_up_on s m address run) on
        ∙ ap (λ (b : Bool). let r : Run = (if b then left_on s m address link run else note entries.Idle run) in r)
        (ap (λ (o : Option ℕ). is_held_by o m) held ∙ eq-eqb m m refl)

-- what such a claim and such a release leave
pub record IsClaimed (m : ℕ) (address : Address) (past new : List Entry) : Type 0 where
  pub told : claimings_told m new ≡ claimings_told m past ++ Claims address ∷ []
  pub held : holder_in new address.0 ≡ Some m
  pub others : (a : ℕ) → (a == address.0) ≡ false → holder_in new a ≡ holder_in past a

pub record IsReleased (m : ℕ) (address : Address) (past new : List Entry) : Type 0 where
  pub told : claimings_told m new ≡ claimings_told m past ++ Releases address ∷ []
  pub others : (a : ℕ) → (a == address.0) ≡ false → holder_in new a ≡ holder_in past a

told_mine : (m : ℕ) (c : Claiming) → filter_map (λ (o : Option Claiming). o) ((if m == m then Some c else None) ∷ []) ≡ c ∷ []
told_mine m c = ap (λ (b : Bool). filter_map (λ (o : Option Claiming). o) ((if b then Some c else None) ∷ [])) (eq-eqb m m refl)

pub claimed_is : (m : ℕ) (link : LinkId) (address : Address) (past : List Entry) → IsClaimed m address past (past ++ entries.Claimed m link address ∷ [])
claimed_is m link address past = record {
  told = told_push m past (entries.Claimed m link address) ∙ ap (λ (l : List Claiming). claimings_told m past ++ l) (told_mine m (Claims address));
  held = claimed_holder past m link address;
  others = λ a apart. holder_push past (entries.Claimed m link address) a ∙ ap (λ (b : Bool). unwrap_or (if b then Some (Some m) else None) (holder_in past a)) apart;
}

pub released_is : (m : ℕ) (link : LinkId) (address : Address) (past : List Entry) → IsReleased m address past (past ++ entries.Released m link address ∷ [])
released_is m link address past = record {
  told = told_push m past (entries.Released m link address) ∙ ap (λ (l : List Claiming). claimings_told m past ++ l) (told_mine m (Releases address));
  others = λ a apart. holder_push past (entries.Released m link address) a ∙ ap (λ (b : Bool). unwrap_or (if b then Some None else None) (holder_in past a)) apart;
}

-- what passes on to another node adds nothing of this one
pub passed_is : (m x : ℕ) (link : LinkId) (address : Address) (past new : List Entry) → (m == x) ≡ false → IsReleased m address past new
    → IsReleased m address past (new ++ entries.Claimed x link address ∷ [])
passed_is m x link address past new apart is = record {
  told = told_same m new (entries.Claimed x link address) (if_told m x apart (Claims address)) ∙ is.told;
  others = λ a other.
      holder_push new (entries.Claimed x link address) a ∙ ap (λ (b : Bool). unwrap_or (if b then Some (Some x) else None) (holder_in new a)) other ∙ is.others a other;
}
