-- A mobile that is present somewhere all through a stretch finds no address taken there.
use Rattle.std.proofs.Common.{◌≡◌, ◌≢◌, ℕ, List, [], ◌∷◌, ◌++◌, Bool, true, false, length, inl, inr, refl, sym, ap, ◌∙◌, subst}
use Rattle.std.specs.Prelude.{fold, Option, Some, None, unwrap_or, ◌==◌, ◌||◌, if◌then◌else◌, slice_get}
use Rattle.std.specs.List.{list_any}
use Rattle.std.proofs.lemmas.Bool.{cases_eq, eq-eqb, ne_eqb, or_parts}
use Rattle.std.proofs.lemmas.List.Sums.{fold-append}
use Rattle.mip_words.specs.declared.address.Address.{Address}
use Rattle.mip_words.specs.declared.ids.LinkId.{LinkId}
use Rattle.mip_words.specs.Asked.{asked}
use Rattle.mip_nonce.specs.Secrets.{Life}
use Rattle.mip_outside.specs.declared.claim.Claim.{Claim}
use Rattle.mip_outside.specs.Places.{claim_in}
use Rattle.mip_entries.specs.declared.entry.Entry.{Entry}
use Rattle.mip_entries.specs.declared.entry.Entry.TheVariants as entries
use Rattle.mip_entries.specs.Completed.{node_id, named}
use Rattle.mip_entries.specs.Stamped.{Stamped}
use Rattle.mip_rules_correspondent.specs.Wholes.{is_own}
use Rattle.mip_rules_mobile.specs.declared.attachment.Attachment.{Attachment}
use Rattle.mip_rules_mobile.specs.declared.attachment.Attachment.TheVariants.{Detached}
use Rattle.mip_rules_mobile.specs.Calls as mobiles
use Rattle.mip_rules_mobile.specs.Known.{Known}
use Rattle.mip_rules_mobile.specs.Steps.{Step, Called, Notes, Arrives, FindsTaken, Detaches}
use Rattle.mip_rules_mobile.specs.Questions.{known}
use Rattle.mip_rules_mobile.specs.Transitions.{Transition, begun, noted}
use Rattle.mip_rules_mobile.specs.TrialRules.{each_row}
use Rattle.mip_rules_mobile.specs.MovingRules.{uses_prefix, releases, unbinds, leaves}
use Rattle.mip_rules_mobile.specs.Doing.{does, transition_of}
use Rattle.mip_rules_mobile.proofs.Steady.{standing-noted}
use Rattle.mip_rules_mobile.specs.Answering.{stays_put}
use Rattle.mip_rules_mobile.specs.PartLaws.{is_restart}
use Rattle.mip_links.specs.Table.{holder_outside}
use Rattle.mip_schedule.specs.declared.event.Event.{Event}
use Rattle.mip_history.specs.Setup.{Setup, is_mobile_host}
use Rattle.mip_history.specs.Setup.Kind.{Mobile}
use Rattle.mip_history.specs.Runs.{Run, note, mobile_past_at}
use Rattle.mip_history.specs.Calls.{Call, Leave, Restart}
use Rattle.mip_history.specs.Knowing.{now_in, secrets_in, mobile_known_in, stands_on, around_in}
use Rattle.mip_history.specs.Nodes.{by_host, acts}
use Rattle.mip_history.specs.Permitted.{moves, run_of}
use Rattle.mip_history.specs.Found.{address_of}
use Rattle.mip_history.proofs.Opening.{nothing}
use Rattle.mip_history.proofs.Keeping.{is_busy, IsThere, IsCall, is_leave, is_rebirth, emptied, Keeps}
use Rattle.mip_history.proofs.Folds.{emptied_keeps}
use Rattle.mip_history.proofs.Walking.{walk_run}
use Rattle.mip_settled.proofs.Answered.{IsQuiet, IsMute, tells, tells_push, tells_same}
use Rattle.mip_settled.proofs.MobileTransitions.{is_plain, entry_of, says_of, IsRightNote, IsKnown, Tells, arrived_at, staying_tells, restart_tells, using_tells, attaching_tells}
use Rattle.mip_settled.proofs.Questions.{IsHome, present_known}
use Rattle.mip_settled.proofs.Roaming.{IsNode, IsRoaming, acts_mute, others_acts, home, transition, then_, middle, known_then, acts_as, apart_standing, roaming_keeps, roaming_nothing, no_past}
use Rattle.mip_law_delivery.specs.Quiet.{Circle, has_node, is_loud}
use Rattle.mip_law_delivery.proofs.Silence.{is_loud_or_taken}

-- an address that mobile n uses; none as it leaves its link, or finds an address taken
abbrev pub found_says : ℕ → Entry → Option (Option Address)
found_says n (entries.Careof node address) = if n == node.0 then Some (Some address) else None
found_says n (entries.Moved node link) = if n == node.0 then Some None else None
found_says n (entries.Taken who link address holder) = if n == who then Some None else None
found_says n _ = None

found_quiet : (n : ℕ) → IsQuiet (found_says n)
found_quiet n = record { idle = idle; sent = λ number m shielded packet. refl }
  where
    idle : (e : Entry) → is_busy e ≡ false → found_says n e ≡ None
    idle (entries.Moved node link) is = absurd cc
    idle (entries.Careof node address) is = absurd cc
    idle (entries.Taken who link address holder) is = absurd cc
    idle _ is = refl

found_mute : (m n : ℕ) → m ≢ n → IsMute (found_says m) n
found_mute m n other link k (entries.Careof node address) = ap (λ (b : Bool). if b then Some (Some address) else None) (ne_eqb m n other)
found_mute m n other link k (entries.Taken who on address holder) = ap (λ (b : Bool). if b then Some None else None) (ne_eqb m n other)
found_mute m n other link k _ = refl

found_note : (n k : ℕ) (e : Entry) → is_own e ≡ true → found_says n (named n 0 k e) ≡ None
found_note n k (entries.Careof node address) is = absurd cc
found_note n k (entries.Taken who link address holder) is = absurd cc
found_note n k _ is = refl

found_own : (n k : ℕ) (step : Step) → is_plain step ≡ true → IsRightNote step → says_of (found_says n) n k (entry_of step) ≡ None
found_own n k (Notes entry) is right = found_note n k entry right
found_own n k (Arrives address) is right = absurd cc
found_own n k (FindsTaken address holder) is right = absurd cc
found_own n k _ is right = refl

found_known : (n : ℕ) (own : Address) → IsKnown n (IsHome n own) (found_says n) (λ (step : Step). None) (λ (k : Known). address_of own k.standing) (λ (o : Option Address). o)
found_known n own =
    let p = present_known n own in
    record { quiet = found_quiet n; own = found_own n; kept = p.kept; row = p.row; claims = p.claims; arrives = p.arrives; reborn = p.reborn }

-- as it leaves its link, it uses no address
left_standing : (k : Known) (now : ℕ) (of_home : Claim) → (transition_of k now (mobiles.Leave of_home)).known.standing ≡ Detached
unfolding does leaves
left_standing k now of_home =
    let t : Transition = noted (Called (mobiles.Leave of_home)) (begun now k) in
    standing-noted Detaches (each_row unbinds (releases t.known.standing of_home t))

module _ (s : Setup) (n : ℕ) (own : Address) (agent : Option Address) (host : slice_get s.hosts n ≡ Some (record { address = own; kind = Mobile agent })) (node : IsNode n) where
  abbrev knows : Run → Option Address
  knows run = address_of own (mobile_known_in s run n own agent).standing

  abbrev told : Run → Option Address
  told run = tells s (found_says n) (Some own) run

  -- the entries tell where the mobile is found, and so they do where what is found taken counts
  record IsSo (run : Run) : Type 0 where
    roaming : IsRoaming s run
    so : told run ≡ knows run

  past_same : (run later : Run) → mobile_past_at later n ≡ mobile_past_at run n → knows later ≡ knows run
  past_same run later same = ap (λ (l : List (Stamped Step)). address_of own (let k : Known = known own agent s.numbers (secrets_in s n 0) l in k.standing)) same

  entry_so : (run : Run) (e : Entry) → found_says n e ≡ None → told run ≡ knows run → told (note e run) ≡ knows (note e run)
  entry_so run e none so = tells_same s (found_says n) (Some own) run e none ∙ so

  other_so : (m : ℕ) (call : Call) (run : Run) → n ≢ m → told run ≡ knows run → told (acts s m call run) ≡ knows (acts s m call run)
  other_so m call run other so =
      let o = others_acts s m call run in
      acts_mute s (found_says n) (Some own) (found_quiet n) m (found_mute n m other) call run ∙ so ∙ sym (past_same run (acts s m call run) (o.others n other))

  ended : {x : Option Address} → x ≡ None → unwrap_or (if n == n then Some None else None) x ≡ x
  ended {x = x} is = ap (λ (b : Bool). unwrap_or (if b then Some None else None) x) (eq-eqb n n refl) ∙ sym is

  -- what the mobile itself does
  module _ (run : Run) (r : IsRoaming s run) (so : told run ≡ knows run) where
    abbrev k : Known
    k = mobile_known_in s run n own agent

    abbrev SoTells : mobiles.Call → Attachment → Type 0
    SoTells c st =
        Tells s n own (IsHome n own) (λ l is. is) (found_says n) (λ (step : Step). None) (λ (l : Known). address_of own l.standing) (λ (o : Option Address). o) (found_known n own) (Some own)
        (unwrap_or (stands_on s run n own) 0) (middle s n own agent host run r.long c) st (transition s n own agent host run r.long c)

    after_transition : (c : mobiles.Call) (st : Attachment) → SoTells c st → told (then_ s n own agent host run r.long c) ≡ knows (then_ s n own agent host run r.long c)
    after_transition c st p = p.so ∙ ap (λ (l : Known). address_of own l.standing) (sym (known_then s n own agent host run r.long c))

    staying : (c : mobiles.Call) → stays_put c ≡ true → is_restart c ≡ false → told (then_ s n own agent host run r.long c) ≡ knows (then_ s n own agent host run r.long c)
    staying c stays lives =
        after_transition c k.standing
        (staying_tells s n own (IsHome n own) (λ l is. is) (found_says n) (λ (step : Step). None) (λ (l : Known). address_of own l.standing) (λ (o : Option Address). o) (found_known n own) (Some own) _
        (middle s n own agent host run r.long c) k (now_in s run) c stays lives so (home s n own agent host run r.long))

    uses : (prefix : ℕ) → IsThere s run n prefix → (of_home of_address : Claim) → uses_prefix k.standing own prefix ≡ true
        → told (then_ s n own agent host run r.long (mobiles.Attach prefix of_home of_address)) ≡ knows (then_ s n own agent host run r.long (mobiles.Attach prefix of_home of_address))
    uses prefix there of_home of_address u =
        let c : mobiles.Call = mobiles.Attach prefix of_home of_address in
        after_transition c k.standing
        (using_tells s n own (IsHome n own) (λ l is. is) (found_says n) (λ (step : Step). None) (λ (l : Known). address_of own l.standing) (λ (o : Option Address). o) (found_known n own) (Some own) _
        (middle s n own agent host run r.long c) k (now_in s run) prefix of_home of_address (ap (λ (a : Address). uses_prefix k.standing a prefix) (home s n own agent host run r.long) ∙ u) so (home s n own agent host run r.long))

    apart : (prefix : ℕ) → IsThere s run n prefix → (of_home of_address : Claim) → k.standing ≡ Detached
        → told (then_ s n own agent host run r.long (mobiles.Attach prefix of_home of_address)) ≡ knows (then_ s n own agent host run r.long (mobiles.Attach prefix of_home of_address))
    apart prefix there of_home of_address is =
        let c : mobiles.Call = mobiles.Attach prefix of_home of_address in
        let nowhere : address_of own k.standing ≡ None = ap (address_of own) is in
        after_transition c (arrived_at of_address own prefix)
        (attaching_tells s n own (IsHome n own) (λ l is. is) (found_says n) (λ (step : Step). None) (λ (l : Known). address_of own l.standing) (λ (o : Option Address). o) (found_known n own) (Some own) _
        (middle s n own agent host run r.long c) k (now_in s run) prefix of_home of_address is so (home s n own agent host run r.long)
        (λ x same link address holder. ended (same ∙ nowhere)) (λ l at address holder same. apart_standing own l at address holder ∙ sym nowhere))

    acts_so : (call : Call) → IsCall s run n call → is_leave call ≡ false → is_rebirth call ≡ false → told (acts s n call run) ≡ knows (acts s n call run)
    acts_so call is stays lives =
        acts_as s n own agent host run r.long (r.found n own agent host) (λ (z : Run). told z ≡ knows z) (entry_so run entries.Idle refl so) staying uses apart call is stays lives

    moved_so : (link : Option LinkId) → told (moves s run n link) ≡ knows (moves s run n link)
    moved_so link =
        let of_home : Claim = claim_in (around_in run n (Some own.0)) own.0 in
        let c : mobiles.Call = mobiles.Leave of_home in
        let there : (mobile_known_in s (then_ s n own agent host run r.long c) n own agent).standing ≡ Detached =
        ap (λ (x : Known). x.standing) (known_then s n own agent host run r.long c) ∙ left_standing k (now_in s run) of_home in
        subst (λ (z : Run). told (note (entries.Moved (node_id n) link) z) ≡ knows (note (entries.Moved (node_id n) link) z)) (sym (ap (by_host s n Leave run) host))
        (tells_push s (found_says n) (Some own) (then_ s n own agent host run r.long c) (entries.Moved (node_id n) link)
        ∙ ap (λ (b : Bool). unwrap_or (if b then Some None else None) (told (then_ s n own agent host run r.long c))) (eq-eqb n n refl) ∙ sym (ap (address_of own) there))

  -- it begins its next life where it stands
  renewed_so : (run : Run) (r : IsRoaming s run) → told run ≡ knows run → (secrets : Life) → told (acts s n (Restart secrets) (note (entries.Restarted (node_id n)) run)) ≡ knows (acts s n (Restart secrets) (note (entries.Restarted (node_id n)) run))
  renewed_so run r so secrets =
      let next : Run = note (entries.Restarted (node_id n)) run in
      let c : mobiles.Call = mobiles.Restart secrets in
      subst (λ (z : Run). told z ≡ knows z) (sym (ap (by_host s n (Restart secrets) next) host))
      (let p = restart_tells s n own (IsHome n own) (λ l is. is) (found_says n) (λ (step : Step). None) (λ (l : Known). address_of own l.standing) (λ (o : Option Address). o) (found_known n own) (Some own)
      (unwrap_or (stands_on s next n own) 0) (middle s n own agent host next r.long c) (mobile_known_in s run n own agent) (now_in s next) secrets
      (tells_push s (found_says n) (Some own) run (entries.Restarted (node_id n)) ∙ so) (home s n own agent host run r.long) in
      p.so ∙ ap (λ (l : Known). address_of own l.standing) (sym (known_then s n own agent host next r.long c)))

  is_other : (m : ℕ) → is_mobile_host (slice_get s.hosts m) ≡ false → n ≢ m
  is_other m none same = absurd (let both : true ≡ false = sym (ap is_mobile_host host) ∙ ap (λ (x : ℕ). is_mobile_host (slice_get s.hosts x)) same ∙ none in cc)

  reborn_so : (run : Run) (m : ℕ) → told run ≡ knows run → told (note (entries.Restarted (node_id m)) (emptied s m run)) ≡ knows (note (entries.Restarted (node_id m)) (emptied s m run))
  reborn_so run m so =
      let same = tells_same s (found_says n) (Some own) run (entries.Restarted (node_id m)) refl ∙ so in
      emptied_keeps s m run (λ (r : Run). told (note (entries.Restarted (node_id m)) r) ≡ knows (note (entries.Restarted (node_id m)) r)) same same same

  acted_so : (run : Run) (m : ℕ) (call : Call) → IsCall s run m call → is_leave call ≡ false → is_rebirth call ≡ false → IsSo run → told (acts s m call run) ≡ knows (acts s m call run)
  acted_so run m call is stays lives p = elim (cases_eq n m) as (λ _. told (acts s m call run) ≡ knows (acts s m call run)) [
    | inl e ↦
        subst (λ (x : ℕ). told (acts s x call run) ≡ knows (acts s x call run)) e
        (acts_so run p.roaming p.so call (subst (λ (x : ℕ). IsCall s run x call) (sym e) is) stays lives)
    | inr other ↦ other_so m call run other p.so
  ]

  moves_so : (run : Run) (m : ℕ) (link : Option LinkId) → IsSo run → told (moves s run m link) ≡ knows (moves s run m link)
  moves_so run m link p = elim (cases_eq n m) as (λ _. told (moves s run m link) ≡ knows (moves s run m link)) [
    | inl e ↦ subst (λ (x : ℕ). told (moves s run x link) ≡ knows (moves s run x link)) e (moved_so run p.roaming p.so link)
    | inr other ↦ entry_so (acts s m Leave run) (entries.Moved (node_id m) link) (ap (λ (b : Bool). if b then Some None else None) (ne_eqb n m other)) (other_so m Leave run other p.so)
  ]

  renews_so : (run : Run) (m : ℕ) (secrets : Life) → IsSo run → told (acts s m (Restart secrets) (note (entries.Restarted (node_id m)) run)) ≡ knows (acts s m (Restart secrets) (note (entries.Restarted (node_id m)) run))
  renews_so run m secrets p =
      elim (cases_eq n m) as (λ _. told (acts s m (Restart secrets) (note (entries.Restarted (node_id m)) run)) ≡ knows (acts s m (Restart secrets) (note (entries.Restarted (node_id m)) run))) [
        | inl e ↦
            subst (λ (x : ℕ). told (acts s x (Restart secrets) (note (entries.Restarted (node_id x)) run)) ≡ knows (acts s x (Restart secrets) (note (entries.Restarted (node_id x)) run))) e
            (renewed_so run p.roaming p.so secrets)
        | inr other ↦ other_so m (Restart secrets) (note (entries.Restarted (node_id m)) run) other (entry_so run (entries.Restarted (node_id m)) refl p.so)
      ]

  keeps_so : Keeps s IsSo
  keeps_so =
      let q = roaming_keeps s in
      record {
        idle = λ run e idle p. record { roaming = q.idle run e idle p.roaming; so = (let f = found_quiet n in entry_so run e (f.idle e idle) p.so) };
        timed = λ run m p. record { roaming = q.timed run m p.roaming; so = entry_so run (entries.At (record { 0 = m })) refl p.so };
        injects = λ run o link packet p. record { roaming = q.injects run o link packet p.roaming; so = entry_so run (entries.Injected (length run.posts) o (record { 0 = link }) packet) refl p.so };
        leaves = λ run k p. record { roaming = q.leaves run k p.roaming; so = p.so };
        taken = λ run o link address holder p. record {
          roaming = q.taken run o link address holder p.roaming;
          so = entry_so run (entries.Taken (holder_outside o) link address holder) (ap (λ (b : Bool). if b then Some None else None) (ne_eqb n (holder_outside o) (node o))) p.so;
        };
        acted = λ run m call is stays lives p. record { roaming = q.acted run m call is stays lives p.roaming; so = acted_so run m call is stays lives p };
        moved = λ run m link is p. record { roaming = q.moved run m link is p.roaming; so = moves_so run m link p };
        reborn = λ run m none p. record { roaming = q.reborn run m none p.roaming; so = reborn_so run m p.so };
        renewed = λ run m secrets is p. record { roaming = q.renewed run m secrets is p.roaming; so = renews_so run m secrets p };
      }

  nothing_so : told (nothing s) ≡ knows (nothing s)
  unfolding known
  nothing_so = sym (ap (λ (l : List (Stamped Step)). address_of own (let k : Known = known own agent s.numbers (secrets_in s n 0) l in k.standing)) (no_past s s.hosts n))

  pub found_so : (events : List Event) → told (run_of s events) ≡ knows (run_of s events)
  found_so events = (walk_run s IsSo keeps_so events (record { roaming = roaming_nothing s; so = nothing_so })).so

-- it finds an address taken
abbrev is_taken_by : ℕ → Entry → Bool
is_taken_by n (entries.Taken who link address holder) = n == who
is_taken_by n _ = false

module _ (c : Circle) (n : ℕ) (inside : has_node c n ≡ true) where
  apart_node : (m : ℕ) → has_node c m ≡ false → (n == m) ≡ false
  apart_node m other = ne_eqb n m (λ same. absurd (let both : true ≡ false = sym inside ∙ ap (λ (x : ℕ). has_node c x) same ∙ other in cc))

  first_false : (a b : Bool) → (a || b) ≡ false → a ≡ false
  first_false true b is = absurd cc
  first_false false b is = refl

  found_quietly : (e : Entry) → is_loud c e ≡ false → found_says n e ≡ (if is_taken_by n e then Some None else None)
  found_quietly (entries.Careof node address) quiet = ap (λ (b : Bool). if b then Some (Some address) else None) (apart_node node.0 (first_false _ _ quiet))
  found_quietly (entries.Moved node link) quiet = ap (λ (b : Bool). if b then Some None else None) (apart_node node.0 quiet)
  found_quietly (entries.Taken who link address holder) quiet = refl
  found_quietly _ quiet = refl

  along_taken : (v : Option Address) (es : List Entry) → list_any (is_loud c) es ≡ false → fold (λ x e. unwrap_or (found_says n e) x) v es ≡ (if list_any (is_taken_by n) es then None else v)
  along_taken v [] quiet = refl
  along_taken v (e ∷ es) quiet =
      let parts = or_parts (is_loud c e) (list_any (is_loud c) es) quiet in
      ap (λ (o : Option (Option Address)). fold (λ (x : Option Address) (y : Entry). unwrap_or (found_says n y) x) (unwrap_or o v) es) (found_quietly e parts.0)
      ∙ along_taken (unwrap_or (if is_taken_by n e then Some None else None) v) es parts.1
      ∙ by (is_taken_by n e) (list_any (is_taken_by n) es)
    where
      by : (t any : Bool) → (let o : Option Address = (if any then None else unwrap_or (if t then Some None else None) v) in o) ≡ (if t || any then None else v)
      by true true = refl
      by true false = refl
      by false any = refl

  joined : (es : List Entry) → list_any (is_loud c) es ≡ false → list_any (is_taken_by n) es ≡ false → list_any (is_loud_or_taken c n inside) es ≡ false
  joined [] quiet none = refl
  joined (e ∷ es) quiet none =
      let a = or_parts (is_loud c e) (list_any (is_loud c) es) quiet in
      let b = or_parts (is_taken_by n e) (list_any (is_taken_by n) es) none in
      ap (λ (x : Bool). x || list_any (is_loud_or_taken c n inside) es) (at e a.0 b.0) ∙ joined es a.1 b.1
    where
      at : (e : Entry) → is_loud c e ≡ false → is_taken_by n e ≡ false → is_loud_or_taken c n inside e ≡ false
      at (entries.Taken who link address holder) quiet none = none
      at _ quiet none = quiet

  -- where it is present at the end, none was found taken
  pub untaken : (own present : Address) (past es : List Entry) → list_any (is_loud c) es ≡ false → asked (found_says n) (Some own) (past ++ es) ≡ Some present → list_any (is_loud_or_taken c n inside) es ≡ false
  untaken own present past es quiet is = joined es quiet (by (list_any (is_taken_by n) es) refl)
    where
      all : (if list_any (is_taken_by n) es then None else asked (found_says n) (Some own) past) ≡ Some present
      all = sym (along_taken (asked (found_says n) (Some own) past) es quiet) ∙ sym (fold-append (λ (x : Option Address) (y : Entry). unwrap_or (found_says n y) x) (Some own) past es) ∙ is

      by : (b : Bool) → list_any (is_taken_by n) es ≡ b → b ≡ false
      by true e = absurd (let both : (let o : Option Address = None in o) ≡ Some present = ap (λ (t : Bool). if t then None else asked (found_says n) (Some own) past) (sym e) ∙ all in cc)
      by false e = refl
