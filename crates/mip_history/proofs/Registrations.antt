-- What is known of the homes of agents in every permitted history.
use Rattle.std.proofs.Common.{◌≡◌, ◌≢◌, ℕ, ◌<◌, ◌≤◌, List, [], ◌∷◌, ◌++◌, Bool, true, false, ◌⊎◌, inl, inr, refl, sym, ap, ◌∙◌, subst, arith}
use Rattle.std.specs.Prelude.{fold, Option, Some, None, option_map, unwrap_or, not, nat_lt, ◌==◌, ◌&&◌, ◌||◌, if◌then◌else◌, slice_get}
use Rattle.std.specs.List.{list_any}
use Rattle.std.proofs.lemmas.List.Sums.{fold-append}
use Rattle.std.proofs.lemmas.Bool.{and_parts, eqb-true, eqb-false}
use Rattle.std.proofs.lemmas.Bool.Decides.{nat_tests}
use Rattle.mip_words.specs.declared.address.Address.{Address}
use Rattle.mip_words.specs.declared.moment.Moment.{Moment}
use Rattle.mip_words.specs.declared.ids.NodeId.{NodeId}
use Rattle.mip_words.specs.EachAfter.{EachAfter}
use Rattle.mip_words.proofs.EachLaws.{each_at}
use Rattle.mip_entries.specs.declared.entry.Entry.{Entry}
use Rattle.mip_entries.specs.declared.entry.Entry.TheVariants as entries
use Rattle.mip_schedule.specs.Contents.{Content}
use Rattle.mip_schedule.specs.declared.event.Event.{Event}
use Rattle.mip_rules_agent.specs.declared.home_binding.HomeBinding.{HomeBinding}
use Rattle.mip_rules_agent.specs.Questions.{is_standing, if_standing, careof_at, kept_of}
use Rattle.mip_history.specs.Setup.{Setup, setup_of}
use Rattle.mip_history.specs.Setup.Kind.{Agent}
use Rattle.mip_history.specs.Runs.{Run}
use Rattle.mip_history.specs.Questions.{moment_says, moment_in}
use Rattle.mip_history.specs.Knowing.{now_in, agent_known_in}
use Rattle.mip_history.specs.Permitted.{run_of, permitted}
use Rattle.mip_history.specs.Bound.{is_restart_of}
use Rattle.mip_history.specs.Registered.{is_agent_at, registration_entry, registration_says, last_registration, registered_in, IsRegistration, is_registration_for, IsRegistered, HomeChange, Stays, ByUpdate, AtEnd, ByRestart}
use Rattle.mip_history.proofs.Homed.{MeetsHome, serves_by_host, registration_push}
use Rattle.mip_history.proofs.HomedRuns.{homed_run}
use Rattle.mip_history.proofs.Histories.{permitted_at}

permitted_homes : (c : Content) → EachAfter (MeetsHome (setup_of c)) [] (permitted c)
unfolding permitted
permitted_homes c = let h = homed_run (setup_of c) c.events in h.each

home_at : (c : Content) (before : List Entry) (e : Entry) (after : List Entry) → permitted c ≡ before ++ e ∷ after → MeetsHome (setup_of c) before e
home_at c before e after whole =
    each_at (MeetsHome (setup_of c)) [] before e after (subst (λ (l : List Entry). EachAfter (MeetsHome (setup_of c)) [] l) whole (permitted_homes c))

-- each registration
pub permitted_registration : (c : Content) (before : List Entry) (n : ℕ) (home : Address) (b : HomeBinding) (after : List Entry)
    → permitted c ≡ before ++ registration_entry n home b ∷ after → is_agent_at (setup_of c) n ≡ true → IsRegistration (setup_of c) before n home b
permitted_registration c before n home b after whole mine = home_at c before (registration_entry n home b) after whole mine

-- an entry is the registration that it says
entry_is : (n : ℕ) (home : Address) (node : NodeId) (h careof : Address) (sequence : ℕ) (end : Moment) (b : HomeBinding) → ((n == node.0) && (h.0 == home.0)) ≡ true
    → (let x : HomeBinding = record { careof = careof; sequence = sequence; end = end } in x) ≡ b → entries.Home node h careof sequence end ≡ registration_entry n home b
entry_is n home node h careof sequence end b is same =
    let parts = and_parts (n == node.0) (h.0 == home.0) is in
    ap (λ (i : ℕ). entries.Home (record { 0 = i }) h careof sequence end) (sym (eqb-true n node.0 parts.0))
    ∙ ap (λ (a : ℕ). entries.Home (record { 0 = n }) (record { 0 = a }) careof sequence end) (eqb-true h.0 home.0 parts.1)
    ∙ ap (registration_entry n home) same

-- the last one in a life
module _ (n : ℕ) (home : Address) (b : HomeBinding) where
  record IsSaid (past : List Entry) : Type 0 where
    before : List Entry
    after : List Entry
    whole : past ≡ before ++ registration_entry n home b ∷ after
    this_life : list_any (is_restart_of n) after ≡ false
    last : list_any (is_registration_for n home) after ≡ false

  abbrev AreSilent : List Entry → Type 0
  AreSilent past = (list_any (is_restart_of n) past ≡ false) × (list_any (is_registration_for n home) past ≡ false)

  abbrev Found : Option HomeBinding → List Entry → Type 0
  Found from past = IsSaid past ⊎ ((from ≡ Some b) × AreSilent past)

  found_home : (from : Option HomeBinding) (past : List Entry) (node : NodeId) (h careof : Address) (sequence : ℕ) (end : Moment) (same : Bool) → ((n == node.0) && (h.0 == home.0)) ≡ same
      → unwrap_or (if same then Some (Some (record { careof = careof; sequence = sequence; end = end })) else None) from ≡ Some b → AreSilent past
      → Found from (entries.Home node h careof sequence end ∷ past)
  found_home from past node h careof sequence end true is e silent = inl (record {
    before = [];
    after = past;
    whole = ap (λ (x : Entry). x ∷ past) (entry_is n home node h careof sequence end b is cc);
    this_life = silent.0;
    last = silent.1;
  })
  found_home from past node h careof sequence end false is e silent =
      inr (e, (silent.0, ap (λ (x : Bool). x || list_any (is_registration_for n home) past) is ∙ silent.1))

  found_restart : (from : Option HomeBinding) (past : List Entry) (node : NodeId) (same : Bool) → (n == node.0) ≡ same
      → unwrap_or (if same then Some None else None) from ≡ Some b → AreSilent past → Found from (entries.Restarted node ∷ past)
  found_restart from past node true is e silent = absurd cc
  found_restart from past node false is e silent = inr (e, (ap (λ (x : Bool). x || list_any (is_restart_of n) past) is ∙ silent.0, silent.1))

  found_at : (from : Option HomeBinding) (x : Entry) (past : List Entry) → unwrap_or (registration_says n home x) from ≡ Some b → AreSilent past → Found from (x ∷ past)
  found_at from (entries.Home node h careof sequence end) past e silent = found_home from past node h careof sequence end ((n == node.0) && (h.0 == home.0)) refl e silent
  found_at from (entries.Restarted node) past e silent = found_restart from past node (n == node.0) refl e silent
  found_at from _ past e silent = inr (e, silent)

  found : (from : Option HomeBinding) (past : List Entry) → fold (λ (o : Option HomeBinding) (x : Entry). unwrap_or (registration_says n home x) o) from past ≡ Some b → Found from past
  found from [] e = inr (e, (refl, refl))
  found from (x ∷ past) e = by (found (unwrap_or (registration_says n home x) from) past e)
    where
      by : Found (unwrap_or (registration_says n home x) from) past → Found from (x ∷ past)
      by (inl s) = inl (record { before = x ∷ s.before; after = s.after; whole = ap (λ (l : List Entry). x ∷ l) s.whole; this_life = s.this_life; last = s.last })
      by (inr silent) = found_at from x past silent.0 silent.1

  said : (past : List Entry) → last_registration past n home ≡ Some b → IsSaid past
  said past e = by (found None past e)
    where
      by : Found None past → IsSaid past
      by (inl s) = s
      by (inr never) = absurd (let no = never.0 in cc)

-- what stands is no deletion, and not at its end
standing_parts : (home : Address) (now : ℕ) (b : HomeBinding) → is_standing home now b ≡ true → (b.careof.0 ≢ home.0) × (now < b.end.0)
standing_parts home now b is =
    let parts = and_parts (not (b.careof.0 == home.0)) (nat_lt now b.end.0) is in
    (eqb-false b.careof.0 home.0 (by (b.careof.0 == home.0) parts.0), (let l : nat_lt now b.end.0 ≡ true = parts.1 in grind (arith, nat_tests, l)))
  where
    by : (same : Bool) → not same ≡ true → same ≡ false
    by true e = absurd cc
    by false e = refl

pub permitted_registered : (c : Content) (n : ℕ) (home careof : Address) → is_agent_at (setup_of c) n ≡ true → registered_in (setup_of c) (permitted c) n home ≡ Some careof
    → IsRegistered (setup_of c) (permitted c) n home careof
permitted_registered c n home careof mine = by (last_registration (permitted c) n home) refl
  where
    now : ℕ
    now = moment_in (setup_of c).start (permitted c)

    stands : (b : HomeBinding) → last_registration (permitted c) n home ≡ Some b → (standing : Bool) → is_standing home now b ≡ standing
        → option_map (λ (x : HomeBinding). x.careof) (if standing then Some b else None) ≡ Some careof → IsRegistered (setup_of c) (permitted c) n home careof
    stands b is true test e =
        let last = said n home b (permitted c) is in
        let parts = standing_parts home now b test in
        let same : b.careof ≡ careof = cc in
        record {
          before = last.before;
          binding = b;
          after = last.after;
          whole = last.whole;
          of_careof = same;
          away = subst (λ (a : Address). a.0 ≢ home.0) same parts.0;
          in_time = parts.1;
          this_life = last.this_life;
          last = last.last;
          stands = permitted_registration c last.before n home b last.after last.whole mine;
        }
    stands b is false test e = absurd cc

    by : (o : Option HomeBinding) → last_registration (permitted c) n home ≡ o → option_map (λ (x : HomeBinding). x.careof) (if_standing home now o) ≡ Some careof
        → IsRegistered (setup_of c) (permitted c) n home careof
    by None is e = absurd cc
    by (Some b) is e = stands b is (is_standing home now b) refl e

-- one entry more
module _ (s : Setup) (past : List Entry) (n : ℕ) (home : Address) where
  moment_push : (e : Entry) → moment_in s.start (past ++ e ∷ []) ≡ unwrap_or (moment_says e) (moment_in s.start past)
  moment_push e = fold-append (λ (at : ℕ) (x : Entry). unwrap_or (moment_says x) at) s.start past (e ∷ [])

  abbrev careof_by : ℕ → Option HomeBinding → Option Address
  careof_by now o = option_map (λ (x : HomeBinding). x.careof) (if_standing home now o)

  stays : (e : Entry) → registration_says n home e ≡ None → moment_says e ≡ None → HomeChange s past e n home
  stays e says timeless =
      Stays
      (ap (λ (now : ℕ). careof_by now (last_registration (past ++ e ∷ []) n home)) (moment_push e ∙ ap (λ (o : Option ℕ). unwrap_or o (moment_in s.start past)) timeless)
      ∙ ap (careof_by (moment_in s.start past)) (registration_push past e n home ∙ ap (λ (o : Option (Option HomeBinding)). unwrap_or o (last_registration past n home)) says))

  -- an update, or one of another home or agent
  by_home : (node : NodeId) (h careof : Address) (sequence : ℕ) (end : Moment) → is_agent_at s n ≡ true → MeetsHome s past (entries.Home node h careof sequence end)
      → (same : Bool) → ((n == node.0) && (h.0 == home.0)) ≡ same → HomeChange s past (entries.Home node h careof sequence end) n home
  by_home node h careof sequence end mine meets true is =
      let b : HomeBinding = record { careof = careof; sequence = sequence; end = end } in
      let parts = and_parts (n == node.0) (h.0 == home.0) is in
      let node_is : n ≡ node.0 = eqb-true n node.0 parts.0 in
      let home_is : h ≡ home = ap (λ (a : ℕ). record { 0 = a }) (eqb-true h.0 home.0 parts.1) in
      ByUpdate b (entry_is n home node h careof sequence end b is refl)
      (subst (λ (i : ℕ). IsRegistration s past i home b) (sym node_is)
      (subst (λ (a : Address). IsRegistration s past node.0 a b) home_is (meets (subst (λ (i : ℕ). is_agent_at s i ≡ true) node_is mine))))
  by_home node h careof sequence end mine meets false is =
      stays (entries.Home node h careof sequence end)
      (ap (λ (x : Bool). if x then Some (Some (record { careof = careof; sequence = sequence; end = end })) else None) is) refl

  by_restart : (node : NodeId) (same : Bool) → (n == node.0) ≡ same → HomeChange s past (entries.Restarted node) n home
  by_restart node true is = ByRestart is
  by_restart node false is = stays (entries.Restarted node) (ap (λ (x : Bool). if x then Some None else None) is) refl

  -- time goes on
  module _ (m : Moment) (later : moment_in s.start past ≤ m.0) where
    careof_then : registered_in s (past ++ entries.At m ∷ []) n home ≡ careof_by m.0 (last_registration past n home)
    careof_then =
        ap (λ (now : ℕ). careof_by now (last_registration (past ++ entries.At m ∷ []) n home)) (moment_push (entries.At m))
        ∙ ap (careof_by m.0) (registration_push past (entries.At m) n home)

    still : (b : HomeBinding) → nat_lt m.0 b.end.0 ≡ true → nat_lt (moment_in s.start past) b.end.0 ≡ true
    still b l = grind (arith, nat_tests, later, l)

    over : (b : HomeBinding) → nat_lt m.0 b.end.0 ≡ false → b.end.0 ≤ m.0
    over b l = grind (arith, nat_tests, l)

    never : (x : Bool) → (x && false) ≡ false
    never true = refl
    never false = refl

    by_end : (b : HomeBinding) → last_registration past n home ≡ Some b → (lasts : Bool) → nat_lt m.0 b.end.0 ≡ lasts → HomeChange s past (entries.At m) n home
    by_end b is true lasts =
        Stays
        (careof_then ∙ ap (careof_by m.0) is
        ∙ ap (λ (x : Bool). option_map (λ (y : HomeBinding). y.careof) (if not (b.careof.0 == home.0) && x then Some b else None)) (lasts ∙ sym (still b lasts))
        ∙ sym (ap (careof_by (moment_in s.start past)) is))
    by_end b is false lasts =
        AtEnd b is (subst (λ (now : ℕ). b.end.0 ≤ now) (sym (moment_push (entries.At m))) (over b lasts))
        (careof_then ∙ ap (careof_by m.0) is
        ∙ ap (λ (x : Bool). option_map (λ (y : HomeBinding). y.careof) (if not (b.careof.0 == home.0) && x then Some b else None)) lasts
        ∙ ap (λ (x : Bool). option_map (λ (y : HomeBinding). y.careof) (if x then Some b else None)) (never (not (b.careof.0 == home.0))))

    by_time : (o : Option HomeBinding) → last_registration past n home ≡ o → HomeChange s past (entries.At m) n home
    by_time None is = Stays (careof_then ∙ ap (careof_by m.0) is ∙ sym (ap (careof_by (moment_in s.start past)) is))
    by_time (Some b) is = by_end b is (nat_lt m.0 b.end.0) refl

  change : (e : Entry) → is_agent_at s n ≡ true → MeetsHome s past e → ((m : Moment) → e ≡ entries.At m → moment_in s.start past ≤ m.0) → HomeChange s past e n home
  change (entries.Home node h careof sequence end) mine meets later = by_home node h careof sequence end mine meets ((n == node.0) && (h.0 == home.0)) refl
  change (entries.Restarted node) mine meets later = by_restart node (n == node.0) refl
  change (entries.At m) mine meets later = by_time m (later m refl) (last_registration past n home) refl
  change e mine meets later = stays e refl refl

pub permitted_change : (c : Content) (before : List Entry) (e : Entry) (after : List Entry) (n : ℕ) (home : Address) → permitted c ≡ before ++ e ∷ after → is_agent_at (setup_of c) n ≡ true
    → HomeChange (setup_of c) before e n home
permitted_change c before e after n home whole mine =
    change (setup_of c) before n home e mine (home_at c before e after whole)
    (λ m is. permitted_at c before m after (whole ∙ ap (λ (x : Entry). before ++ x ∷ after) is))

-- what an agent keeps
module _ (s : Setup) (events : List Event) (n : ℕ) (own : Address) (preference life room : ℕ) (serves : List Address) (home : Address)
    (is : slice_get s.hosts n ≡ Some (record { address = own; kind = Agent preference life room serves })) where
  abbrev run : Run
  run = run_of s events

  pub run_careof : careof_at (agent_known_in (run_of s events) n serves) (now_in s (run_of s events)) home ≡ registered_in s (run_of s events).past n home
  run_careof = let h = homed_run s events in
      ap (λ (o : Option HomeBinding). option_map (λ (x : HomeBinding). x.careof) (if_standing home (now_in s run) o)) (h.homes n serves (ap serves_by_host is) home)

  pub run_kept : kept_of (agent_known_in (run_of s events) n serves) home ≡ option_map (λ b. b.sequence) (last_registration (run_of s events).past n home)
  run_kept = let h = homed_run s events in ap (option_map (λ (x : HomeBinding). x.sequence)) (h.homes n serves (ap serves_by_host is) home)
