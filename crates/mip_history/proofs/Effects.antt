-- What a run becomes by whatever happens in it, however that came about: an entry is left, a packet is posted, one leaves the
-- pool, or a node has learnt something. A call is many of these.
use Rattle.std.proofs.Common.{◌≡◌, ℕ, zero, suc, List, [], ◌∷◌, ◌++◌, Bool, true, false, length, refl, sym, ap, ◌∙◌, subst}
use Rattle.std.specs.Prelude.{fold, Option, Some, None, unwrap_or, is_some, ◌==◌, ◌&&◌, if◌then◌else◌, slice_get}
use Rattle.std.specs.List.{AllByRecursion}
use Rattle.std.proofs.lemmas.Bool.{eqb-true, eq-eqb}
use Rattle.std.proofs.lemmas.List.{append_assoc, append-nil}
use Rattle.std.proofs.lemmas.List.Sums.{fold-append}
use Rattle.mip_words.specs.declared.address.Address.{Address}
use Rattle.mip_words.specs.declared.ids.LinkId.{LinkId}
use Rattle.mip_words.specs.declared.shield.Shield.{Shield}
use Rattle.mip_entries.specs.declared.answer.Answer.{Answer}
use Rattle.mip_entries.specs.declared.answer.Answer.TheVariants.{Send, Note}
use Rattle.mip_entries.specs.declared.entry.Entry.{Entry}
use Rattle.mip_entries.specs.declared.entry.Entry.TheVariants as entries
use Rattle.mip_entries.specs.Completed.{node_id, named}
use Rattle.mip_provenance.specs.declared.accepted_update.AcceptedUpdate.{AcceptedUpdate}
use Rattle.mip_provenance.specs.declared.mark.Mark.{Mark}
use Rattle.mip_provenance.specs.declared.mark.Mark.TheVariants as marks
use Rattle.mip_provenance.specs.Entries.{update_accepted, mark_entry}
use Rattle.mip_provenance.specs.Marks.{mark_in}
use Rattle.mip_links.specs.Table.{Post, link_of}
use Rattle.mip_links.specs.Nets.{is_held_by}
use Rattle.mip_history.specs.Setup.{Setup, Host, Kind}
use Rattle.mip_history.specs.Setup.Kind.{Correspondent, Agent, Mobile}
use Rattle.mip_history.specs.Runs.{Run, note, notes, entered, without}
use Rattle.mip_history.specs.Questions.{moment_says, holder_says, holder_in, hears_in, restarts, life_in}
use Rattle.mip_history.specs.Calls.{Call, for_correspondent, for_agent, for_mobile}
use Rattle.mip_history.specs.Knowing.{now_in, around_in}
use Rattle.mip_history.specs.Claims.{link_id, claim_entry, claimed_on, claims}
use Rattle.mip_history.specs.ClaimsLaws.{is_free_for}
use Rattle.mip_history.specs.Homes.{resident, passes_to, left_on, given_up_on, gives_up}
use Rattle.mip_history.specs.Posting.{heards, is_other, overheard, posted}
use Rattle.mip_history.specs.Nodes.{marks_of, left_by, answered_one, answered, asks, by_kind, by_host, acts}
use Rattle.mip_history.specs.Receivers.{IsForIt}
use Rattle.mip_history.proofs.Reasons.{all_append}

-- an outsider hears a packet that was posted without a shield
pub record IsBare (run : Run) (k : ℕ) : Type 0 where
  pub post : Post
  pub posted : slice_get run.posts k ≡ Some post
  pub bare : post.shield ≡ None

-- an entry that posts nothing and tells of no time and no life: who claims, gives up or finds an address taken, and which packets are heard and handed over
abbrev pub IsSeen : Run → Entry → Type 0
IsSeen run (entries.Claimed who link address) = is_free_for (holder_in run.past address.0) who ≡ true
IsSeen run (entries.Released who link address) = holder_in run.past address.0 ≡ Some who
IsSeen run (entries.Taken who link address holder) = holder_in run.past address.0 ≡ Some holder
IsSeen run (entries.Heard number outsider) = IsBare run number
IsSeen run (entries.Handed number node) = IsForIt run.posts run.past number node
IsSeen run (entries.Sent number node shielded packet) = ⊥
IsSeen run (entries.Injected number outsider link packet) = ⊥
IsSeen run (entries.At moment) = ⊥
IsSeen run (entries.Restarted node) = ⊥
IsSeen run _ = Unit {0}

-- the entry of a packet that is posted: its number is its place
abbrev pub IsPosting : Run → Post → Entry → Type 0
IsPosting run post (entries.Sent number node shielded packet) = (number ≡ length run.posts) × (packet ≡ post.packet) × (shielded ≡ is_some post.shield)
IsPosting run post (entries.Injected number outsider link packet) = (number ≡ length run.posts) × (packet ≡ post.packet) × (post.shield ≡ None)
IsPosting run post _ = ⊥

pub data Effect (s : Setup) : Run → Run → Type 0 where
  notes-it : (run : Run) (e : Entry) → IsSeen run e → Effect s run (note e run)
  enters : (run : Run) (post : Post) (e : Entry) → IsPosting run post e → Effect s run (entered post (note e run))
  goes : (run : Run) (k : ℕ) → Effect s run (without k run)
  learns : (run next : Run) → next.past ≡ run.past → next.posts ≡ run.posts → next.flying ≡ run.flying → Effect s run next

-- behind its release nobody holds an address
pub released_holder : (past : List Entry) (who : ℕ) (link : LinkId) (address : Address) → holder_in (past ++ entries.Released who link address ∷ []) address.0 ≡ None
released_holder past who link address =
    fold-append (λ (h : Option ℕ) (e : Entry). unwrap_or (holder_says address.0 e) h) None past (entries.Released who link address ∷ [])
    ∙ ap (λ (b : Bool). unwrap_or (if b then Some None else None) (holder_in past address.0)) (eq-eqb address.0 address.0 refl)

pub held_is : (holder : Option ℕ) (who : ℕ) → is_held_by holder who ≡ true → holder ≡ Some who
held_is None who e = absurd cc
held_is (Some other) who e = ap (λ (n : ℕ). Some n) (eqb-true other who e)

-- the last of several
pub get_last : {X : Type 0} (xs : List X) (x : X) → slice_get (xs ++ x ∷ []) (length xs) ≡ Some x
get_last [] x = refl
get_last (y ∷ xs) x = get_last xs x

-- an entry of which nothing is asked but of the packets that were posted
abbrev pub IsSeenOf : List Post → Entry → Type 0
IsSeenOf posts e = (r : Run) → r.posts ≡ posts → IsSeen r e

-- what is kept by an entry and by a post, is kept by claims, by what outsiders hear and by what a node leaves
module _ (s : Setup) (P : Run → Type 0) (noted : (run : Run) (e : Entry) → IsSeen run e → P run → P (note e run))
    (put : (run : Run) (post : Post) (e : Entry) → IsPosting run post e → P run → P (entered post (note e run))) where
  h-note : (e : Entry) (run : Run) → IsSeen run e → P run → P (note e run)
  h-note e run seen p = noted run e seen p

  pub h-notes : (es : List Entry) (run : Run) → AllByRecursion (IsSeenOf run.posts) es → P run → P (notes es run)
  h-notes [] run all p = subst (λ (l : List Entry). P (record run { past = l })) (sym (append-nil run.past)) p
  h-notes (e ∷ es) run all p =
      subst (λ (l : List Entry). P (record run { past = l })) (append_assoc run.past (e ∷ []) es) (h-notes es (note e run) all.1 (h-note e run (all.0 run refl) p))

  -- outsiders hear
  heards_seen : (posts : List Post) (hears : ℕ → Bool) (k o : ℕ) (post : Post) → slice_get posts k ≡ Some post → post.shield ≡ None → AllByRecursion (IsSeenOf posts) (heards hears k o)
  heards_seen posts hears k zero post posted bare = tt
  heards_seen posts hears k (suc o) post posted bare =
      all_append (IsSeenOf posts) (heards hears k o) (if hears o then entries.Heard k o ∷ [] else []) (heards_seen posts hears k o post posted bare) (by (hears o))
    where
      by : (b : Bool) → AllByRecursion (IsSeenOf posts) (if b then entries.Heard k o ∷ [] else [])
      by true = (λ r same. record { post = post; posted = ap (λ (l : List Post). slice_get l k) same ∙ posted; bare = bare }, tt)
      by false = tt

  pub h-overheard : (link : ℕ) (post : Post) (by : Option ℕ) (k : ℕ) (run : Run) → slice_get run.posts k ≡ Some post → P run → P (overheard s link post.shield by k run)
  h-overheard link post by k run posted p = at post.shield refl
    where
      hears : ℕ → Bool
      hears o = is_other by o && hears_in run.past o link

      at : (shield : Option Shield) → post.shield ≡ shield → P (if is_some shield then run else notes (heards hears k s.outsiders) run)
      at (Some shield) is = p
      at None is = h-notes (heards hears k s.outsiders) run (heards_seen run.posts hears k s.outsiders post posted is) p

  -- a packet is posted
  pub h-posted : (post : Post) (by : Option ℕ) (e : Entry) (run : Run) → IsPosting run post e → P run → P (posted s post by e run)
  h-posted post by e run is p = h-overheard post.from post by (length run.posts) (entered post (note e run)) (get_last run.posts post) (put run post e is p)

  -- an address is claimed, and given up
  c-claims : (who : ℕ) (address : Address) (run : Run) → P run → P (claims s who address run)
  c-claims who address run p = by (link_of s.links address.0)
    where
      of_other : (link other : ℕ) (mine : Bool) → (other == who) ≡ mine → holder_in run.past address.0 ≡ Some other
          → P (note (if mine then entries.Claimed who (link_id link) address else entries.Taken who (link_id link) address other) run)
      of_other link other true test is = h-note (entries.Claimed who (link_id link) address) run (ap (λ (h : Option ℕ). is_free_for h who) is ∙ test) p
      of_other link other false test is = h-note (entries.Taken who (link_id link) address other) run is p

      claim : (link : ℕ) (holder : Option ℕ) → holder_in run.past address.0 ≡ holder → P (note (claim_entry who address link holder) run)
      claim link None is = h-note (entries.Claimed who (link_id link) address) run (ap (λ (h : Option ℕ). is_free_for h who) is) p
      claim link (Some other) is = of_other link other (other == who) refl is

      by : (link : Option ℕ) → P (claimed_on who address run link)
      by None = h-note entries.Idle run tt p
      by (Some link) = claim link (holder_in run.past address.0) refl

  h-passes : (who : ℕ) (address : Address) (link : ℕ) (run : Run) (o : Option ℕ) → holder_in run.past address.0 ≡ None → P run → P (passes_to who address link run o)
  h-passes who address link run None free p = p
  h-passes who address link run (Some m) free p = by (m == who)
    where
      by : (same : Bool) → P (if same then run else note (entries.Claimed m (link_id link) address) run)
      by true = p
      by false = h-note (entries.Claimed m (link_id link) address) run (ap (λ (h : Option ℕ). is_free_for h m) free) p

  c-gives_up : (who : ℕ) (address : Address) (run : Run) → P run → P (gives_up s who address run)
  c-gives_up who address run p = by (link_of s.links address.0)
    where
      held : (link : ℕ) (b : Bool) → is_held_by (holder_in run.past address.0) who ≡ b → P (if b then left_on s who address link run else note entries.Idle run)
      held link true is =
          h-passes who address link (note (entries.Released who (link_id link) address) run) (resident s run address.0)
          (released_holder run.past who (link_id link) address)
          (h-note (entries.Released who (link_id link) address) run (held_is (holder_in run.past address.0) who is) p)
      held link false is = h-note entries.Idle run tt p

      by : (link : Option ℕ) → P (given_up_on s who address run link)
      by None = h-note entries.Idle run tt p
      by (Some link) = held link (is_held_by (holder_in run.past address.0) who) refl

  -- what a node does
  mark_seen : (posts : List Post) (m : Mark) → IsSeenOf posts (mark_entry m)
  mark_seen posts (marks.Origin hot cot update) = λ r same. tt
  mark_seen posts (marks.Forged why) = λ r same. tt

  marks_seen : (posts : List Post) (past : List Entry) (o : Option AcceptedUpdate) → AllByRecursion (IsSeenOf posts) (marks_of past o)
  marks_seen posts past None = tt
  marks_seen posts past (Some a) = (mark_seen posts (mark_in past a), tt)

  h-left : (n : ℕ) (run : Run) (e : Entry) → P run → P (left_by s n run e)
  h-left n run (entries.Claimed who link address) p = c-claims n address run p
  h-left n run (entries.Taken who link address holder) p = c-claims n address run p
  h-left n run (entries.Released who link address) p = c-gives_up n address run p
  h-left n run (entries.Restarted node) p = p
  h-left n run e p =
      h-notes (named n 0 (length run.posts) e ∷ marks_of run.past (update_accepted (named n 0 (length run.posts) e))) run
      (λ r same. tt, marks_seen run.posts run.past (update_accepted (named n 0 (length run.posts) e))) p

  h-answer : (n from : ℕ) (run : Run) (answer : Answer) → P run → P (answered_one s n from run answer)
  h-answer n from run (Send shield packet) p =
      h-posted (record { from = from; shield = shield; packet = packet }) None (entries.Sent (length run.posts) (node_id n) (is_some shield) packet) run (refl, refl, refl) p
  h-answer n from run (Note entry) p = h-left n run entry p

  pub h-answers : (n from : ℕ) (run : Run) (answers : List Answer) → P run → P (answered s n from run answers)
  unfolding answered
  h-answers n from run [] p = p
  h-answers n from run (answer ∷ answers) p = h-answers n from (answered_one s n from run answer) answers (h-answer n from run answer p)

-- what each effect keeps
module _ (s : Setup) (P : Run → Type 0) (step : (a b : Run) → Effect s a b → P a → P b) where
  noted : (run : Run) (e : Entry) → IsSeen run e → P run → P (note e run)
  noted run e seen p = step run (note e run) (notes-it run e seen) p

  put : (run : Run) (post : Post) (e : Entry) → IsPosting run post e → P run → P (entered post (note e run))
  put run post e is p = step run (entered post (note e run)) (enters run post e is) p

  pub h-claims : (who : ℕ) (address : Address) (run : Run) → P run → P (claims s who address run)
  h-claims who address run p = c-claims s P noted put who address run p

  pub h-gives_up : (who : ℕ) (address : Address) (run : Run) → P run → P (gives_up s who address run)
  h-gives_up who address run p = c-gives_up s P noted put who address run p

  h-asks : {C : Type 0} (does : C → Run → Run) (call : Option C) (run : Run) → ((c : C) → P (does c run)) → P run → P (asks does call run)
  h-asks does None run each p = noted run entries.Idle tt p
  h-asks does (Some c) run each p = each c

  pub h-acts : (n : ℕ) (call : Call) (run : Run) → P run → P (acts s n call run)
  h-acts n call run p = by_node (slice_get s.hosts n)
    where
      kinds : (own : Address) (kind : Kind) → P (by_kind s n own call run kind)
      kinds own (Correspondent room) = h-asks _ (for_correspondent call) run (λ c. h-answers s P noted put n _ _ _ (step run _ (learns run _ refl refl refl) p)) p
      kinds own (Agent preference life room serves) = h-asks _ (for_agent (around_in run n None) call) run (λ c. h-answers s P noted put n _ _ _ (step run _ (learns run _ refl refl refl) p)) p
      kinds own (Mobile agent) = h-asks _ (for_mobile (around_in run n (Some own.0)) own call) run (λ c. h-answers s P noted put n _ _ _ (step run _ (learns run _ refl refl refl) p)) p

      by_node : (o : Option Host) → P (by_host s n call run o)
      by_node None = noted run entries.Idle tt p
      by_node (Some host) = kinds host.address host.kind

-- what a node leaves is no past of a node
abbrev pub HasPasts : Run → Run → Type 0
HasPasts before run = (run.pasts ≡ before.pasts) × (run.agent_pasts ≡ before.agent_pasts) × (run.mobile_pasts ≡ before.mobile_pasts)

pub answers_pasts : (s : Setup) (n from : ℕ) (answers : List Answer) (run : Run) → HasPasts run (answered s n from run answers)
answers_pasts s n from answers run = h-answers s (HasPasts run) (λ r e seen has. has) (λ r post e is has. has) n from run answers (refl, refl, refl)

pub answers_mobiles : (s : Setup) (n from : ℕ) (answers : List Answer) (run : Run) → (answered s n from run answers).mobile_pasts ≡ run.mobile_pasts
answers_mobiles s n from answers run = let has = answers_pasts s n from answers run in has.2

-- no effect moves the moment, and none begins a life
life_seen : (run : Run) (e : Entry) (n count : ℕ) → IsSeen run e → restarts n count e ≡ count
life_seen run (entries.Restarted node) n count seen = absurd seen
life_seen run _ n count seen = refl

life_posting : (run : Run) (post : Post) (e : Entry) (n count : ℕ) → IsPosting run post e → restarts n count e ≡ count
life_posting run post (entries.Sent number node shielded packet) n count is = refl
life_posting run post (entries.Injected number outsider link packet) n count is = refl
life_posting run post _ n count is = absurd is

pub effect_life : (s : Setup) (n : ℕ) (a b : Run) → Effect s a b → life_in b.past n ≡ life_in a.past n
effect_life s n _ _ (notes-it run e seen) = fold-append (restarts n) 0 run.past (e ∷ []) ∙ life_seen run e n (life_in run.past n) seen
effect_life s n _ _ (enters run post e is) = fold-append (restarts n) 0 run.past (e ∷ []) ∙ life_posting run post e n (life_in run.past n) is
effect_life s n _ _ (goes run k) = refl
effect_life s n _ _ (learns run next past posts flying) = ap (λ (l : List Entry). life_in l n) past

moment_seen : (run : Run) (e : Entry) (at : ℕ) → IsSeen run e → unwrap_or (moment_says e) at ≡ at
moment_seen run (entries.At moment) at seen = absurd seen
moment_seen run _ at seen = refl

moment_posting : (run : Run) (post : Post) (e : Entry) (at : ℕ) → IsPosting run post e → unwrap_or (moment_says e) at ≡ at
moment_posting run post (entries.Sent number node shielded packet) at is = refl
moment_posting run post (entries.Injected number outsider link packet) at is = refl
moment_posting run post _ at is = absurd is

pub effect_now : (s : Setup) (a b : Run) → Effect s a b → now_in s b ≡ now_in s a
effect_now s _ _ (notes-it run e seen) =
    fold-append (λ (at : ℕ) (x : Entry). unwrap_or (moment_says x) at) s.start run.past (e ∷ []) ∙ moment_seen run e (now_in s run) seen
effect_now s _ _ (enters run post e is) =
    fold-append (λ (at : ℕ) (x : Entry). unwrap_or (moment_says x) at) s.start run.past (e ∷ []) ∙ moment_posting run post e (now_in s run) is
effect_now s _ _ (goes run k) = refl
effect_now s _ _ (learns run next past posts flying) = ap (λ (l : List Entry). fold (λ (at : ℕ) (x : Entry). unwrap_or (moment_says x) at) s.start l) past

pub now_acts : (s : Setup) (n : ℕ) (call : Call) (run : Run) → now_in s (acts s n call run) ≡ now_in s run
now_acts s n call run = h-acts s (λ (r : Run). now_in s r ≡ now_in s run) (λ a b effect same. effect_now s a b effect ∙ same) n call run refl
