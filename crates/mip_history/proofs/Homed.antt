-- What every run keeps of the homes of its agents: each registration has its update, each packet under a shield was sent by the
-- mobile that the shield names or has no update, and each agent keeps of a home what the history says. Entries keep it.
use Rattle.std.proofs.Common.{◌≡◌, ℕ, List, [], ◌∷◌, ◌++◌, Bool, true, false, length, ◌⊎◌, inl, inr, refl, sym, ap, ◌∙◌, subst}
use Rattle.std.specs.Prelude.{Option, Some, None, unwrap_or, is_some, ◌==◌, ◌&&◌, if◌then◌else◌, slice_get, slice_index_or}
use Rattle.std.specs.List.{AllByRecursion}
use Rattle.std.proofs.lemmas.List.{append_assoc}
use Rattle.std.proofs.lemmas.List.Sums.{fold-append}
use Rattle.std.proofs.lemmas.Bool.{eqb-true}
use Rattle.mip_words.specs.declared.address.Address.{Address}
use Rattle.mip_words.specs.declared.shield.Shield.{Shield}
use Rattle.mip_words.specs.Last.{or_else}
use Rattle.mip_words.specs.EachAfter.{EachAfter}
use Rattle.mip_words.proofs.EachLaws.{each-append}
use Rattle.mip_entries.specs.declared.answer.Answer.{Answer}
use Rattle.mip_entries.specs.declared.answer.Answer.TheVariants.{Send, Note}
use Rattle.mip_entries.specs.declared.entry.Entry.{Entry}
use Rattle.mip_entries.specs.declared.entry.Entry.TheVariants as entries
use Rattle.mip_entries.specs.Completed.{node_id, named}
use Rattle.mip_entries.specs.Stamped.{Stamped}
use Rattle.mip_provenance.specs.declared.accepted_update.AcceptedUpdate.{AcceptedUpdate}
use Rattle.mip_provenance.specs.declared.mark.Mark.{Mark}
use Rattle.mip_provenance.specs.declared.mark.Mark.TheVariants.{Origin, Forged}
use Rattle.mip_provenance.specs.Entries.{mark_entry}
use Rattle.mip_provenance.specs.Marks.{mark_in}
use Rattle.mip_rules_agent.specs.declared.home_binding.HomeBinding.{HomeBinding}
use Rattle.mip_rules_agent.specs.Steps as agents
use Rattle.mip_rules_agent.specs.Questions.{known, binding_of}
use Rattle.mip_rules_agent.specs.Shielding.{HasNoUpdate}
use Rattle.mip_links.specs.Table.{Post}
use Rattle.mip_history.specs.Setup.{Setup, Host, Kind}
use Rattle.mip_history.specs.Setup.Kind.{Agent, Mobile}
use Rattle.mip_history.specs.Runs.{Run, note, notes, entered}
use Rattle.mip_history.specs.Claims.{link_id}
use Rattle.mip_history.specs.Nodes.{left_by, answered_one, answered}
use Rattle.mip_history.specs.Posting.{posted}
use Rattle.mip_history.specs.Registered.{is_agent_kind, is_agent_host, is_agent_at, registration_says, last_registration, IsSentFrom, IsRegistration}
use Rattle.mip_history.proofs.Numbered.{slice_get_push}
use Rattle.mip_history.proofs.Keeping.{is_busy, keeps_overheard, keeps_claims, keeps_gives_up}

-- a registration of an agent has its update
abbrev pub MeetsHome : Setup → List Entry → Entry → Type 0
MeetsHome s front (entries.Home node home careof sequence end) =
    is_agent_at s node.0 ≡ true → IsRegistration s front node.0 home (record { careof = careof; sequence = sequence; end = end })
MeetsHome s front _ = Unit {0}

-- a packet under a shield
abbrev pub IsUnder : Setup → List Entry → ℕ → Shield → List ℕ → Type 0
IsUnder s past k shield packet = IsSentFrom s past k shield.from packet ⊎ HasNoUpdate packet

abbrev pub AreUnder : Setup → List Entry → List Post → Type 0
AreUnder s past posts = (k : ℕ) (post : Post) (shield : Shield) → slice_get posts k ≡ Some post → post.shield ≡ Some shield → IsUnder s past k shield post.packet

-- the homes that a node serves, where it is an agent
abbrev pub serves_by_kind : Kind → Option (List Address)
serves_by_kind (Agent preference life room serves) = Some serves
serves_by_kind _ = None

abbrev pub serves_by_host : Option Host → Option (List Address)
serves_by_host None = None
serves_by_host (Some host) = serves_by_kind host.kind

abbrev pub serves_in : Setup → ℕ → Option (List Address)
serves_in s n = serves_by_host (slice_get s.hosts n)

-- each agent keeps what the history says
abbrev pub AreHomes : Setup → List Entry → List (List (Stamped agents.Step)) → Type 0
AreHomes s past pasts =
    (n : ℕ) (serves : List Address) → serves_in s n ≡ Some serves → (home : Address) → binding_of (known serves (slice_index_or pasts n [])) home ≡ last_registration past n home

pub record IsHomed (s : Setup) (run : Run) : Type 0 where
  pub agents : length run.agent_pasts ≡ length s.hosts
  pub each : EachAfter (MeetsHome s) [] run.past
  pub under : AreUnder s run.past run.posts
  pub homes : AreHomes s run.past run.agent_pasts

-- who serves homes is an agent
pub serves_agent : (s : Setup) (n : ℕ) (serves : List Address) → serves_in s n ≡ Some serves → is_agent_at s n ≡ true
serves_agent s n serves is = by (slice_get s.hosts n) refl is
  where
    of_kind : (host : Host) (kind : Kind) → host.kind ≡ kind → slice_get s.hosts n ≡ Some host → serves_by_kind kind ≡ Some serves → is_agent_at s n ≡ true
    of_kind host (Agent preference life room homes) same at e = ap is_agent_host at ∙ ap is_agent_kind same
    of_kind host _ same at e = absurd cc

    by : (o : Option Host) → slice_get s.hosts n ≡ o → serves_by_host o ≡ Some serves → is_agent_at s n ≡ true
    by None at e = absurd cc
    by (Some host) at e = of_kind host host.kind refl at e

-- what was sent stays sent
sent_more : (s : Setup) (past es : List Entry) (k : ℕ) (home : Address) (packet : List ℕ) → IsSentFrom s past k home packet → IsSentFrom s (past ++ es) k home packet
sent_more s past es k home packet is = record {
  mobile = is.mobile;
  agent = is.agent;
  is_mobile = is.is_mobile;
  before = is.before;
  after = is.after ++ es;
  sent = ap (λ (l : List Entry). l ++ es) is.sent ∙ append_assoc is.before (entries.Sent k (node_id is.mobile) true packet ∷ is.after) es;
}

pub under_more : (s : Setup) (past es : List Entry) (k : ℕ) (shield : Shield) (packet : List ℕ) → IsUnder s past k shield packet → IsUnder s (past ++ es) k shield packet
under_more s past es k shield packet (inl sent) = inl (sent_more s past es k shield.from packet sent)
under_more s past es k shield packet (inr none) = inr none

-- one entry more
pub registration_push : (past : List Entry) (e : Entry) (n : ℕ) (home : Address) → last_registration (past ++ e ∷ []) n home ≡ unwrap_or (registration_says n home e) (last_registration past n home)
registration_push past e n home = fold-append (λ (b : Option HomeBinding) (x : Entry). unwrap_or (registration_says n home x) b) None past (e ∷ [])

pub homed_entry : (s : Setup) (e : Entry) (run : Run) → MeetsHome s run.past e → ((n : ℕ) (home : Address) → is_agent_at s n ≡ true → registration_says n home e ≡ None)
    → IsHomed s run → IsHomed s (note e run)
homed_entry s e run meets silent h = record {
  agents = h.agents;
  each = each-append (MeetsHome s) [] run.past (e ∷ []) h.each (meets, tt);
  under = λ k post shield at is. under_more s run.past (e ∷ []) k shield post.packet (h.under k post shield at is);
  homes = λ n serves is home.
      h.homes n serves is home
      ∙ sym (registration_push run.past e n home ∙ ap (λ (o : Option (Option HomeBinding)). unwrap_or o (last_registration run.past n home)) (silent n home (serves_agent s n serves is)));
}

-- a registration
abbrev pub is_home : Entry → Bool
is_home (entries.Home node home careof sequence end) = true
is_home _ = false

-- an entry that tells of one, or of the end of a life
abbrev pub is_homely : Entry → Bool
is_homely (entries.Home node home careof sequence end) = true
is_homely (entries.Restarted node) = true
is_homely _ = false

meets_other : (s : Setup) (front : List Entry) (e : Entry) → is_homely e ≡ false → MeetsHome s front e
meets_other s front (entries.Home node home careof sequence end) other = absurd cc
meets_other s front _ other = tt

says_nothing : (n : ℕ) (home : Address) (e : Entry) → is_homely e ≡ false → registration_says n home e ≡ None
says_nothing n home (entries.Home node h careof sequence end) other = absurd cc
says_nothing n home (entries.Restarted node) other = absurd cc
says_nothing n home _ other = refl

idle_other : (e : Entry) → is_busy e ≡ false → is_homely e ≡ false
idle_other (entries.Home node home careof sequence end) idle = absurd cc
idle_other (entries.Restarted node) idle = absurd cc
idle_other _ idle = refl

module _ (s : Setup) where
  pub homed_other : (e : Entry) (run : Run) → is_homely e ≡ false → IsHomed s run → IsHomed s (note e run)
  homed_other e run other h = homed_entry s e run (meets_other s run.past e other) (λ n home mine. says_nothing n home e other) h

  pub homed_idle : (run : Run) (e : Entry) → is_busy e ≡ false → IsHomed s run → IsHomed s (note e run)
  homed_idle run e idle h = homed_other e run (idle_other e idle) h

  mark_other : (m : Mark) → is_homely (mark_entry m) ≡ false
  mark_other (Origin hot cot update) = refl
  mark_other (Forged cause) = refl

  -- an entry with its mark
  homed_two : (e : Entry) (m : Mark) (run : Run) → is_homely e ≡ false → IsHomed s run → IsHomed s (notes (e ∷ mark_entry m ∷ []) run)
  homed_two e m run other h =
      subst (λ (l : List Entry). IsHomed s (record run { past = l })) (append_assoc run.past (e ∷ []) (mark_entry m ∷ []))
      (homed_other (mark_entry m) (note e run) (mark_other m) (homed_other e run other h))

  -- what a node registers that is no agent counts nowhere
  no_agent : (n m : ℕ) → is_agent_at s n ≡ false → is_agent_at s m ≡ true → (m == n) ≡ false
  no_agent n m other mine = by (m == n) refl
    where
      by : (b : Bool) → (m == n) ≡ b → b ≡ false
      by true is = absurd (let same : m ≡ n = eqb-true m n is in let both : true ≡ false = sym mine ∙ ap (λ (k : ℕ). is_agent_at s k) same ∙ other in cc)
      by false is = refl

  clash : {Q : Type 0} → true ≡ false → Q
  clash e = absurd cc

  homed_left : (n : ℕ) (e : Entry) (run : Run) → (is_home e && is_agent_at s n) ≡ false → IsHomed s run → IsHomed s (left_by s n run e)
  homed_left n (entries.Claimed who link address) run fine h = keeps_claims s (IsHomed s) homed_idle n address run (λ on other. homed_other (entries.Taken n on address other) run refl h) h
  homed_left n (entries.Taken who link address holder) run fine h = keeps_claims s (IsHomed s) homed_idle n address run (λ on other. homed_other (entries.Taken n on address other) run refl h) h
  homed_left n (entries.Released who link address) run fine h = keeps_gives_up s (IsHomed s) homed_idle n address run h
  homed_left n (entries.Restarted node) run fine h = h
  homed_left n (entries.Home node home careof sequence end) run fine h =
      homed_entry s (entries.Home (node_id n) home careof sequence end) run (λ mine. clash (sym mine ∙ fine))
      (λ m other mine. ap (λ (b : Bool). if b && (home.0 == other.0) then Some (Some (record { careof = careof; sequence = sequence; end = end })) else None) (no_agent n m fine mine)) h
  homed_left n (entries.Accepted node number home binding careof sequence end i j) run fine h =
      let update : AcceptedUpdate = record { node = node_id n; number = number; home = home; careof = careof; home_index = i; careof_index = j } in
      homed_two (entries.Accepted (node_id n) number home binding careof sequence end i j) (mark_in run.past update) run refl h
  homed_left n e run fine h = homed_other (named n 0 (length run.posts) e) run refl h

  -- a packet is posted
  homed_entered : (post : Post) (run : Run) → ((shield : Shield) → post.shield ≡ Some shield → IsUnder s run.past (length run.posts) shield post.packet) → IsHomed s run
      → IsHomed s (entered post run)
  homed_entered post run fresh h = record { agents = h.agents; each = h.each; under = under; homes = h.homes }
    where
      last : (k : ℕ) (q : Post) (shield : Shield) (b : Bool) → (length run.posts == k) ≡ b → (if b then Some post else None) ≡ Some q → q.shield ≡ Some shield → IsUnder s run.past k shield q.packet
      last k q shield true is e mark =
          let same : post ≡ q = cc in
          subst (λ (p : Post). IsUnder s run.past k shield p.packet) same
          (subst (λ (i : ℕ). IsUnder s run.past i shield post.packet) (eqb-true (length run.posts) k is) (fresh shield (ap (λ (p : Post). p.shield) same ∙ mark)))
      last k q shield false is e mark = absurd cc

      at : (k : ℕ) (q : Post) (shield : Shield) (o : Option Post) → slice_get run.posts k ≡ o → or_else o (if length run.posts == k then Some post else None) ≡ Some q
          → q.shield ≡ Some shield → IsUnder s run.past k shield q.packet
      at k q shield (Some p) is e mark = h.under k q shield (is ∙ e) mark
      at k q shield None is e mark = last k q shield (length run.posts == k) refl e mark

      under : AreUnder s run.past (run.posts ++ post ∷ [])
      under k q shield is e = at k q shield (slice_get run.posts k) refl (sym (slice_get_push run.posts post k) ∙ is) e

  homed_posted : (post : Post) (by : Option ℕ) (e : Entry) (run : Run) → is_homely e ≡ false
      → ((shield : Shield) → post.shield ≡ Some shield → IsUnder s (run.past ++ e ∷ []) (length run.posts) shield post.packet) → IsHomed s run → IsHomed s (posted s post by e run)
  homed_posted post by e run other fresh h =
      keeps_overheard s (IsHomed s) homed_idle post.from post.shield by (length run.posts) (entered post (note e run))
      (homed_entered post (note e run) fresh (homed_other e run other h))

  pub homed_injected : (run : Run) (o link : ℕ) (packet : List ℕ) → IsHomed s run
      → IsHomed s (entered (record { from = link; shield = None; packet = packet }) (note (entries.Injected (length run.posts) o (link_id link) packet) run))
  homed_injected run o link packet h =
      let e : Entry = entries.Injected (length run.posts) o (link_id link) packet in
      homed_entered (record { from = link; shield = None; packet = packet }) (note e run) (λ shield is. absurd cc) (homed_other e run refl h)

  -- what a node answers that leaves no registration of an agent, and sends under the shield of a mobile's own home, or no update
  pub record IsMobileAt (n : ℕ) (home : Address) : Type 0 where
    pub agent : Option Address
    pub host : slice_get s.hosts n ≡ Some (record { address = home; kind = Mobile agent })

  abbrev pub IsFine : ℕ → Answer → Type 0
  IsFine n (Send None packet) = Unit {0}
  IsFine n (Send (Some shield) packet) = IsMobileAt n shield.from ⊎ HasNoUpdate packet
  IsFine n (Note e) = (is_home e && is_agent_at s n) ≡ false

  abbrev pub AreFine : ℕ → List Answer → Type 0
  AreFine n answers = AllByRecursion (IsFine n) answers

  fresh_under : (n k : ℕ) (past : List Entry) (packet : List ℕ) (shield : Shield) (o : Option Shield) → o ≡ Some shield → IsFine n (Send o packet)
      → IsUnder s (past ++ entries.Sent k (node_id n) (is_some o) packet ∷ []) k shield packet
  fresh_under n k past packet shield None is fine = absurd cc
  fresh_under n k past packet shield (Some x) is (inr none) = inr none
  fresh_under n k past packet shield (Some x) is (inl mine) =
      let same : x ≡ shield = cc in
      subst (λ (y : Shield). IsUnder s (past ++ entries.Sent k (node_id n) true packet ∷ []) k y packet) same
      (inl (record { mobile = n; agent = mine.agent; is_mobile = mine.host; before = past; after = []; sent = refl }))

  homed_answer : (n from : ℕ) (answer : Answer) (run : Run) → IsFine n answer → IsHomed s run → IsHomed s (answered_one s n from run answer)
  homed_answer n from (Send shield packet) run fine h =
      homed_posted (record { from = from; shield = shield; packet = packet }) None (entries.Sent (length run.posts) (node_id n) (is_some shield) packet) run refl
      (λ under is. fresh_under n (length run.posts) run.past packet under shield is fine) h
  homed_answer n from (Note e) run fine h = homed_left n e run fine h

  pub homed_answers : (n from : ℕ) (answers : List Answer) (run : Run) → AreFine n answers → IsHomed s run → IsHomed s (answered s n from run answers)
  unfolding answered
  homed_answers n from [] run fine h = h
  homed_answers n from (answer ∷ answers) run fine h =
      homed_answers n from answers (answered_one s n from run answer) fine.1 (homed_answer n from answer run fine.0 h)
