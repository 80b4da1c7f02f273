-- Every run tells where each of its mobiles is found, and its registration: as the mobile knows it.
use Rattle.std.proofs.Common.{◌≡◌, ◌≢◌, ℕ, zero, suc, ◌-◌, ◌<◌, ◌≤◌, List, [], ◌∷◌, Bool, true, false, length, inl, inr, refl, sym, ap, ◌∙◌, subst, arith, length-set}
use Rattle.std.specs.Prelude.{Option, Some, None, option_map, unwrap_or, ◌==◌, if◌then◌else◌, map, slice_get, slice_set, slice_index_or}
use Rattle.std.proofs.lemmas.List.{length-map, get_or-set_same, get_or-set_other}
use Rattle.std.proofs.lemmas.Option.{slice_get_within}
use Rattle.std.proofs.lemmas.Bool.{cases_eq, eqb-true, eq-eqb, ne_eqb}
use Rattle.mip_words.specs.Addresses.{prefix_of}
use Rattle.mip_words.specs.declared.address.Address.{Address}
use Rattle.mip_words.specs.declared.ids.LinkId.{LinkId}
use Rattle.mip_words.specs.Asked.{asked}
use Rattle.mip_nonce.specs.Secrets.{Life}
use Rattle.mip_outside.specs.declared.claim.Claim.{Claim}
use Rattle.mip_outside.specs.declared.claim.Claim.TheVariants as claim
use Rattle.mip_entries.specs.declared.entry.Entry.{Entry}
use Rattle.mip_entries.specs.declared.entry.Entry.TheVariants as entries
use Rattle.mip_entries.specs.Completed.{node_id}
use Rattle.mip_entries.specs.Stamped.{Stamped}
use Rattle.mip_outside.specs.Places.{claim_in}
use Rattle.mip_rules_mobile.specs.declared.registered.Registered.{Registered}
use Rattle.mip_rules_mobile.specs.declared.attachment.Attachment.{Attachment}
use Rattle.mip_rules_mobile.specs.declared.attachment.Attachment.TheVariants.{Detached, AtHome, Away}
use Rattle.mip_rules_mobile.specs.Calls as mobiles
use Rattle.mip_rules_mobile.specs.Steps.{Step, Called, FindsTaken, Arrives, Detaches, Restarts, Registers, Unregisters, answers_of}
use Rattle.mip_rules_mobile.specs.Known.{Known}
use Rattle.mip_rules_mobile.specs.HomeQuestions.{home_of, registered_said}
use Rattle.mip_rules_mobile.specs.Questions.{after, known}
use Rattle.mip_rules_mobile.specs.Transitions.{Transition, begun, noted, with_transition}
use Rattle.mip_rules_mobile.specs.TrialRules.{each_row}
use Rattle.mip_rules_mobile.specs.MovingRules.{address_under, uses_prefix, releases, unbinds, leaves}
use Rattle.mip_rules_mobile.specs.PartLaws.{is_restart}
use Rattle.mip_rules_mobile.specs.Answering.{stays_put}
use Rattle.mip_rules_mobile.specs.Doing.{does, transition_of}
use Rattle.mip_rules_mobile.specs.Fitting.{Fits, EachFits, is_detached}
use Rattle.mip_rules_mobile.proofs.Steady.{standing-noted}
use Rattle.mip_rules_mobile.proofs.Fits.{known_along, call-along}
use Rattle.mip_rules_mobile.proofs.Calls.{stands-known, call-stands}
use Rattle.mip_rules_mobile.proofs.Shielding.{past-home}
use Rattle.mip_entries.specs.Transitions.{StandsBy}
use Rattle.mip_entries.proofs.TransitionLaws.{noted-known}
use Rattle.mip_links.specs.Table.{link_from, link_of, holder_outside}
use Rattle.mip_schedule.specs.declared.event.Event.{Event}
use Rattle.mip_history.specs.Setup.{Setup, Host, Kind, is_mobile_host}
use Rattle.mip_history.specs.Setup.Kind.{Correspondent, Agent, Mobile}
use Rattle.mip_history.specs.Runs.{Run, note, mobile_past_at, with_mobile_past, with_past, with_agent_past}
use Rattle.mip_history.specs.Questions.{moved_says}
use Rattle.mip_history.specs.Calls.{Call, Take, Send as Sending, Refresh, Tick, Plan, Hear, Attach, Leave, Ask, Restart, for_correspondent, for_agent, for_mobile}
use Rattle.mip_history.specs.Knowing.{now_in, secrets_in, mobile_known_in, stands_on, around_in}
use Rattle.mip_history.specs.Advertising.{is_link, roams_by_host}
use Rattle.mip_history.specs.Claims.{link_id}
use Rattle.mip_history.specs.Nodes.{after_mobile_transition, asks, by_kind, by_host, acts}
use Rattle.mip_history.specs.Permitted.{moves, run_of}
use Rattle.mip_history.proofs.Opening.{nothing}
use Rattle.mip_history.proofs.Keeping.{is_busy, IsThere, IsCall, is_leave, is_rebirth, emptied, Keeps}
use Rattle.mip_history.proofs.Effects.{answers_mobiles}
use Rattle.mip_history.proofs.Folds.{emptied_keeps}
use Rattle.mip_history.proofs.Walking.{walk_run}
use Rattle.mip_history.specs.Told.{present_says, present_in, registration_told}
use Rattle.mip_history.specs.Found.{address_of}
use Rattle.mip_settled.proofs.Answered.{IsQuiet, IsMute, tells, tells_push, tells_same, answers_mute}
use Rattle.mip_settled.proofs.MobileTransitions.{Tells, arrived_at, staying_tells, restart_tells, using_tells, attaching_tells}
use Rattle.mip_settled.proofs.Questions.{moved_quiet, moved_mute, present_quiet, present_mute, IsHome, present_known, registration_quiet, registration_mute, registration_known}

-- where a mobile uses an address, it uses the prefix of its link
abbrev pub IsUsing : Address → Attachment → ℕ → Type 0
IsUsing own st prefix = is_detached st ≡ false → uses_prefix st own prefix ≡ true

-- a number that is no outsider's
abbrev pub IsNode : ℕ → Type 0
IsNode n = (o : ℕ) → n ≢ holder_outside o

-- what a run tells of a mobile is what the mobile knows
pub record IsFound (s : Setup) (run : Run) (n : ℕ) (own : Address) (agent : Option Address) : Type 0 where
  pub present : tells s (present_says n) (Some own) run ≡ address_of own (mobile_known_in s run n own agent).standing
  pub registered : IsNode n → tells s (registration_told n) None run ≡ (mobile_known_in s run n own agent).registered
  pub none : is_detached (mobile_known_in s run n own agent).standing ≡ true → (mobile_known_in s run n own agent).registered ≡ None
  pub there : (l : ℕ) → stands_on s run n own ≡ Some l → IsUsing own (mobile_known_in s run n own agent).standing (slice_index_or s.links l 0)

pub record IsRoaming (s : Setup) (run : Run) : Type 0 where
  pub long : length run.mobile_pasts ≡ length s.hosts
  pub found : (n : ℕ) (own : Address) (agent : Option Address) → slice_get s.hosts n ≡ Some (record { address = own; kind = Mobile agent }) → IsFound s run n own agent

-- the link of an address has its prefix
link_prefix : (n : ℕ) (ps : List ℕ) (prefix l : ℕ) → link_from n ps prefix ≡ Some l → (n ≤ l) × (slice_index_or ps (l - n) 0 ≡ prefix)
link_prefix n [] prefix l is = absurd cc
link_prefix n (p ∷ ps) prefix l is = by (p == prefix) refl is (λ e. link_prefix (suc n) ps prefix l e)
  where
    by : (same : Bool) → (p == prefix) ≡ same → (if same then Some n else link_from (suc n) ps prefix) ≡ Some l
        → (link_from (suc n) ps prefix ≡ Some l → (suc n ≤ l) × (slice_index_or ps (l - suc n) 0 ≡ prefix)) → (n ≤ l) × (slice_index_or (p ∷ ps) (l - n) 0 ≡ prefix)
    by true same e again =
        let here : n ≡ l = cc in
        let at : zero ≡ l - n = omega (arith, here) in
        (omega (arith, here), subst (λ (i : ℕ). slice_index_or (p ∷ ps) i 0 ≡ prefix) at (eqb-true p prefix same))
    by false same e again =
        let rest = again e in
        let less : suc n ≤ l = rest.0 in
        let at : suc (l - suc n) ≡ l - n = omega (arith, less) in
        (omega (arith, less), subst (λ (i : ℕ). slice_index_or (p ∷ ps) i 0 ≡ prefix) at rest.1)

-- an address under a prefix has it
under_prefix : (own : Address) (prefix : ℕ) → prefix_of (address_under own prefix).0 ≡ prefix
under_prefix own prefix = omega arith

arrived_uses : (own : Address) (prefix : ℕ) (c : Claim) → IsUsing own (arrived_at c own prefix) prefix
arrived_uses own prefix c = by c
  where
    at : (same : Bool) → ((address_under own prefix).0 == own.0) ≡ same → IsUsing own (if same then AtHome else Away (address_under own prefix)) prefix
    at true same there =
        eq-eqb prefix (prefix_of own.0) (sym (under_prefix own prefix) ∙ ap prefix_of (eqb-true (address_under own prefix).0 own.0 same))
    at false same there = eq-eqb prefix (prefix_of (address_under own prefix).0) (sym (under_prefix own prefix))

    by : (d : Claim) → IsUsing own (arrived_at d own prefix) prefix
    by claim.Held = at ((address_under own prefix).0 == own.0) refl
    by claim.Waiting = at ((address_under own prefix).0 == own.0) refl
    by (claim.Taken holder) = λ there. absurd cc

-- a mobile that uses no address is not registered
abbrev IsBare : Known → Type 0
IsBare k = is_detached k.standing ≡ true → k.registered ≡ None

bare_after : (c : mobiles.Call) (now : ℕ) (k : Known) (step : Step) → Fits c now k step → IsBare k → IsBare (after k (record { at = now; step = step }))
unfolding after
bare_after c now k (Registers agent end renew) fits bare = λ apart. absurd (let both : true ≡ false = sym apart ∙ fits.0 in cc)
bare_after c now k (Arrives address) fits bare = λ apart. refl
bare_after c now k (FindsTaken address holder) fits bare = λ apart. refl
bare_after c now k (Unregisters agent) fits bare = λ apart. refl
bare_after c now k Detaches fits bare = λ apart. refl
bare_after c now k (Restarts secrets) fits bare = λ apart. refl
bare_after c now k _ fits bare = bare

bare_along : (c : mobiles.Call) (now : ℕ) (k : Known) (steps : List Step) → EachFits c now k steps → IsBare k → IsBare (known_along k now steps)
bare_along c now k [] each bare = bare
bare_along c now k (step ∷ steps) each bare = bare_along c now (after k (record { at = now; step = step })) steps each.1 (bare_after c now k step each.0 bare)

bare_transition : (k : Known) (now : ℕ) (c : mobiles.Call) → IsBare k → IsBare (transition_of k now c).known
bare_transition k now c bare = let is = call-along k now c in subst IsBare (sym is.known) (bare_along c now k (transition_of k now c).steps is.each bare)

-- as it finds an address taken, it uses none
pub apart_standing : (own : Address) (k : Known) (at : ℕ) (address : Address) (holder : ℕ) → address_of own (let x : Known = after k (record { at = at; step = FindsTaken address holder }) in x.standing) ≡ None
unfolding after
apart_standing own k at address holder = refl

apart_registered : (k : Known) (at : ℕ) (address : Address) (holder : ℕ) → (let x : Known = after k (record { at = at; step = FindsTaken address holder }) in x.registered) ≡ None
unfolding after
apart_registered k at address holder = refl

module _ (s : Setup) where
  -- what a call of another node leaves
  module _ {S : Type 0} (says : Entry → Option S) (d : S) (quiet : IsQuiet says) (n : ℕ) (mute : IsMute says n) where
    asks_mute : {C : Type 0} (does : C → Run → Run) (call : Option C) (run : Run) → ((c : C) → tells s says d (does c run) ≡ tells s says d run) → tells s says d (asks does call run) ≡ tells s says d run
    asks_mute does None run each = tells_same s says d run entries.Idle (quiet.idle entries.Idle refl)
    asks_mute does (Some c) run each = each c

    pub acts_mute : (call : Call) (run : Run) → tells s says d (acts s n call run) ≡ tells s says d run
    acts_mute call run = by_node (slice_get s.hosts n)
      where
        kinds : (own : Address) (kind : Kind) → tells s says d (by_kind s n own call run kind) ≡ tells s says d run
        kinds own (Correspondent room) = asks_mute _ (for_correspondent call) run (λ c. answers_mute s says d quiet n mute _ _ _)
        kinds own (Agent preference life room serves) = asks_mute _ (for_agent (around_in run n None) call) run (λ c. answers_mute s says d quiet n mute _ _ _)
        kinds own (Mobile agent) = asks_mute _ (for_mobile (around_in run n (Some own.0)) own call) run (λ c. answers_mute s says d quiet n mute _ _ _)

        by_node : (o : Option Host) → tells s says d (by_host s n call run o) ≡ tells s says d run
        by_node None = tells_same s says d run entries.Idle (quiet.idle entries.Idle refl)
        by_node (Some host) = kinds host.address host.kind

  -- the pasts of mobiles after a call: of this node another one, of the others the same
  pub record HasOthers (n : ℕ) (run later : Run) : Type 0 where
    pub long : length later.mobile_pasts ≡ length run.mobile_pasts
    pub others : (m : ℕ) → m ≢ n → mobile_past_at later m ≡ mobile_past_at run m

  others_same : (n : ℕ) (run later : Run) → later.mobile_pasts ≡ run.mobile_pasts → HasOthers n run later
  others_same n run later same = record { long = ap (λ (l : List (List (Stamped Step))). length l) same; others = λ m other. ap (λ (l : List (List (Stamped Step))). slice_index_or l m []) same }

  others_set : (n : ℕ) (run later : Run) (past : List (Stamped Step)) → later.mobile_pasts ≡ slice_set run.mobile_pasts n past → HasOthers n run later
  others_set n run later past same = record {
    long = ap (λ (l : List (List (Stamped Step))). length l) same ∙ length-set run.mobile_pasts n past;
    others = λ m other. ap (λ (l : List (List (Stamped Step))). slice_index_or l m []) same ∙ get_or-set_other run.mobile_pasts n m past [] other;
  }

  others_asks : {C : Type 0} (n : ℕ) (does : C → Run → Run) (call : Option C) (run : Run) → ((c : C) → HasOthers n run (does c run)) → HasOthers n run (asks does call run)
  others_asks n does None run each = others_same n run (note entries.Idle run) refl
  others_asks n does (Some c) run each = each c

  pub others_acts : (n : ℕ) (call : Call) (run : Run) → HasOthers n run (acts s n call run)
  others_acts n call run = by_node (slice_get s.hosts n)
    where
      kinds : (own : Address) (kind : Kind) → HasOthers n run (by_kind s n own call run kind)
      kinds own (Correspondent room) = others_asks n _ (for_correspondent call) run (λ c. others_same n run _ (answers_mobiles s n _ _ _))
      kinds own (Agent preference life room serves) = others_asks n _ (for_agent (around_in run n None) call) run (λ c. others_same n run _ (answers_mobiles s n _ _ _))
      kinds own (Mobile agent) =
          others_asks n _ (for_mobile (around_in run n (Some own.0)) own call) run (λ c. others_set n run _ _ (answers_mobiles s n _ _ _))

      by_node : (o : Option Host) → HasOthers n run (by_host s n call run o)
      by_node None = others_same n run (note entries.Idle run) refl
      by_node (Some host) = kinds host.address host.kind

  -- what is told of a mobile and what it knows go on
  module _ (n : ℕ) (own : Address) (agent : Option Address) (run later : Run) where
    goes_on : tells s (present_says n) (Some own) later ≡ tells s (present_says n) (Some own) run
        → (IsNode n → tells s (registration_told n) None later ≡ tells s (registration_told n) None run)
        → stands_on s later n own ≡ stands_on s run n own → mobile_past_at later n ≡ mobile_past_at run n → IsFound s run n own agent → IsFound s later n own agent
    goes_on present registered spot past f =
        let same : mobile_known_in s later n own agent ≡ mobile_known_in s run n own agent = ap (known own agent s.numbers (secrets_in s n 0)) past in
        record {
          present = present ∙ f.present ∙ ap (λ (k : Known). address_of own k.standing) (sym same);
          registered = λ node. registered node ∙ f.registered node ∙ ap (λ (k : Known). k.registered) (sym same);
          none = subst IsBare (sym same) f.none;
          there = λ l is. subst (λ (k : Known). IsUsing own k.standing (slice_index_or s.links l 0)) (sym same) (f.there l (sym spot ∙ is));
        }

  -- an entry that says nothing of it
  entry_found : (n : ℕ) (own : Address) (agent : Option Address) (run : Run) (e : Entry) → present_says n e ≡ None → (IsNode n → registration_told n e ≡ None) → moved_says n e ≡ None
      → IsFound s run n own agent → IsFound s (note e run) n own agent
  entry_found n own agent run e one two three f =
      goes_on n own agent run (note e run) (tells_same s (present_says n) (Some own) run e one) (λ node. tells_same s (registration_told n) None run e (two node))
      (tells_same s (moved_says n) (link_of s.links own.0) run e three) refl f

  entry_roaming : (run : Run) (e : Entry) → ((n : ℕ) → present_says n e ≡ None) → ((n : ℕ) → IsNode n → registration_told n e ≡ None) → ((n : ℕ) → moved_says n e ≡ None) → IsRoaming s run → IsRoaming s (note e run)
  entry_roaming run e one two three r = record { long = r.long; found = λ n own agent host. entry_found n own agent run e (one n) (two n) (three n) (r.found n own agent host) }

  idle_roaming : (run : Run) (e : Entry) → is_busy e ≡ false → IsRoaming s run → IsRoaming s (note e run)
  idle_roaming run e idle r =
      entry_roaming run e (λ n. let q = present_quiet n in q.idle e idle) (λ n node. let q = registration_quiet n in q.idle e idle) (λ n. let q = moved_quiet n in q.idle e idle) r

  -- another node acts
  module _ (m : ℕ) (own : Address) (agent : Option Address) (n : ℕ) (other : m ≢ n) where
    acts_other : (run : Run) (call : Call) → IsFound s run m own agent → IsFound s (acts s n call run) m own agent
    acts_other run call f =
        goes_on m own agent run (acts s n call run) (acts_mute (present_says m) (Some own) (present_quiet m) n (present_mute m n other) call run)
        (λ node. acts_mute (registration_told m) None (registration_quiet m) n (registration_mute m n other) call run)
        (acts_mute (moved_says m) (link_of s.links own.0) (moved_quiet m) n (moved_mute m n) call run) (let o = others_acts n call run in o.others m other) f

  -- a mobile acts itself
  module _ (n : ℕ) (own : Address) (agent : Option Address) (host : slice_get s.hosts n ≡ Some (record { address = own; kind = Mobile agent })) (run : Run) (long : length run.mobile_pasts ≡ length s.hosts) where
    abbrev pub k : Known
    k = mobile_known_in s run n own agent

    abbrev pub now : ℕ
    now = now_in s run

    abbrev pub transition : mobiles.Call → Transition
    transition c = transition_of k now c

    abbrev pub middle : mobiles.Call → Run
    middle c = with_mobile_past n (with_transition (mobile_past_at run n) (transition c)) run

    abbrev pub then_ : mobiles.Call → Run
    then_ c = after_mobile_transition s n own (transition c) run

    pub home : home_of k ≡ own
    home = past-home own agent s.numbers (secrets_in s n 0) (mobile_past_at run n)

    pub known_then : (c : mobiles.Call) → mobile_known_in s (then_ c) n own agent ≡ (transition c).known
    unfolding known StandsBy
    known_then c =
        let past : List (Stamped Step) = with_transition (mobile_past_at run n) (transition c) in
        let inside : n < length s.hosts = slice_get_within s.hosts n (record { address = own; kind = Mobile agent }) host in
        ap (λ (l : List (List (Stamped Step))). known own agent s.numbers (secrets_in s n 0) (slice_index_or l n [])) (answers_mobiles s n _ (answers_of (transition c).steps) (middle c))
        ∙ ap (known own agent s.numbers (secrets_in s n 0)) (get_or-set_same run.mobile_pasts n past [] (omega (arith, long, inside)))
        ∙ sym (stands-known own agent s.numbers (secrets_in s n 0) past (transition c).known (call-stands own agent s.numbers (secrets_in s n 0) (mobile_past_at run n) k now c refl))

    spot_then : (c : mobiles.Call) → stands_on s (then_ c) n own ≡ stands_on s run n own
    spot_then c = answers_mute s (moved_says n) (link_of s.links own.0) (moved_quiet n) n (moved_mute n n) _ (middle c) (answers_of (transition c).steps)

    abbrev TellsPresent : mobiles.Call → Attachment → Type 0
    TellsPresent c st = Tells s n own (IsHome n own) (λ l is. is) (present_says n) (λ (step : Step). None) (λ (l : Known). address_of own l.standing) (λ (o : Option Address). o) (present_known n own) (Some own)
        (unwrap_or (stands_on s run n own) 0) (middle c) st (transition c)

    abbrev TellsRegistered : mobiles.Call → Attachment → Type 0
    TellsRegistered c st = Tells s n own (IsHome n own) (λ l is. is) (registration_told n) registered_said (λ (l : Known). l.registered) (λ (o : Option Registered). o) (registration_known n own) None
        (unwrap_or (stands_on s run n own) 0) (middle c) st (transition c)

    transition_found : (c : mobiles.Call) (st : Attachment) → TellsPresent c st → (IsNode n → TellsRegistered c st) → ((l : ℕ) → stands_on s run n own ≡ Some l → IsUsing own st (slice_index_or s.links l 0)) → IsBare k
        → IsFound s (then_ c) n own agent
    transition_found c st p q there bare = record {
      present = p.so ∙ ap (λ (l : Known). address_of own l.standing) (sym (known_then c));
      registered = λ node. (let r = q node in r.so) ∙ ap (λ (l : Known). l.registered) (sym (known_then c));
      none = subst IsBare (sym (known_then c)) (bare_transition k now c bare);
      there = λ l is. subst (λ (x : Attachment). IsUsing own x (slice_index_or s.links l 0)) (sym (ap (λ (x : Known). x.standing) (known_then c) ∙ p.stands)) (there l (sym (spot_then c) ∙ is));
    }

    module _ (f : IsFound s run n own agent) where
      staying_found : (c : mobiles.Call) → stays_put c ≡ true → is_restart c ≡ false → IsFound s (then_ c) n own agent
      staying_found c stays lives =
          transition_found c k.standing
          (staying_tells s n own (IsHome n own) (λ l is. is) (present_says n) (λ (step : Step). None) (λ (l : Known). address_of own l.standing) (λ (o : Option Address). o) (present_known n own) (Some own) _ (middle c) k now c stays lives f.present home)
          (λ node. staying_tells s n own (IsHome n own) (λ l is. is) (registration_told n) registered_said (λ (l : Known). l.registered) (λ (o : Option Registered). o) (registration_known n own) None _ (middle c) k now c stays lives (f.registered node) home)
          f.there f.none

      -- a router advertises the prefix of its link
      module _ (prefix : ℕ) (there : IsThere s run n prefix) (of_home of_address : Claim) where
        abbrev c : mobiles.Call
        c = mobiles.Attach prefix of_home of_address

        on_link : stands_on s run n own ≡ Some there.link
        on_link = by (stands_on s run n own) (sym (ap (roams_by_host s run there.link n) host) ∙ there.stands)
          where
            by : (o : Option ℕ) → is_link o there.link ≡ true → o ≡ Some there.link
            by None is = absurd cc
            by (Some l) is = ap (λ (x : ℕ). Some x) (eqb-true l there.link is)

        uses_then : (st : Attachment) → IsUsing own st prefix → (l : ℕ) → stands_on s run n own ≡ Some l → IsUsing own st (slice_index_or s.links l 0)
        uses_then st goes l is =
            let same : there.link ≡ l = (let both : Some there.link ≡ Some l = sym on_link ∙ is in cc) in
            subst (IsUsing own st) (there.of_link ∙ ap (λ (x : ℕ). slice_index_or s.links x 0) same) goes

        using : IsUsing own k.standing prefix
        using = subst (IsUsing own k.standing) (sym there.of_link) (f.there there.link on_link)

        same_found : uses_prefix k.standing own prefix ≡ true → IsFound s (then_ c) n own agent
        same_found uses =
            let yes : uses_prefix k.standing (home_of k) prefix ≡ true = ap (λ (a : Address). uses_prefix k.standing a prefix) home ∙ uses in
            transition_found c k.standing
            (using_tells s n own (IsHome n own) (λ l is. is) (present_says n) (λ (step : Step). None) (λ (l : Known). address_of own l.standing) (λ (o : Option Address). o) (present_known n own) (Some own) _ (middle c) k now prefix of_home of_address yes f.present home)
            (λ node. using_tells s n own (IsHome n own) (λ l is. is) (registration_told n) registered_said (λ (l : Known). l.registered) (λ (o : Option Registered). o) (registration_known n own) None _ (middle c) k now prefix of_home of_address yes (f.registered node) home)
            f.there f.none

        apart_found : k.standing ≡ Detached → IsFound s (then_ c) n own agent
        apart_found apart =
            let bare : k.registered ≡ None = f.none (ap is_detached apart) in
            let nowhere : address_of own k.standing ≡ None = ap (address_of own) apart in
            transition_found c (arrived_at of_address own prefix)
            (attaching_tells s n own (IsHome n own) (λ l is. is) (present_says n) (λ (step : Step). None) (λ (l : Known). address_of own l.standing) (λ (o : Option Address). o) (present_known n own) (Some own) _ (middle c) k now prefix of_home of_address apart f.present home
            (λ x same link address holder. refl) (λ l at address holder same. apart_standing own l at address holder ∙ sym nowhere))
            (λ node. attaching_tells s n own (IsHome n own) (λ l is. is) (registration_told n) registered_said (λ (l : Known). l.registered) (λ (o : Option Registered). o) (registration_known n own) None _ (middle c) k now prefix of_home of_address apart (f.registered node) home
            (λ x same link address holder. ended (same ∙ bare)) (λ l at address holder same. apart_registered l at address holder ∙ sym bare))
            (uses_then (arrived_at of_address own prefix) (arrived_uses own prefix of_address)) f.none
          where
            ended : {x : Option Registered} → x ≡ None → unwrap_or (if n == n then Some None else None) x ≡ x
            ended {x = x} is = ap (λ (b : Bool). unwrap_or (if b then Some None else None) x) (eq-eqb n n refl) ∙ sym is

      -- what a call makes of the run: nothing, a transition of a call by which the mobile stays where it stands, or one by which it hears of a prefix, where it uses this prefix or no address
      module _ (Q : Run → Type 0) (idle : Q (note entries.Idle run)) (staying : (c : mobiles.Call) → stays_put c ≡ true → is_restart c ≡ false → Q (then_ c))
          (uses : (prefix : ℕ) → IsThere s run n prefix → (of_home of_address : Claim) → uses_prefix k.standing own prefix ≡ true → Q (then_ (mobiles.Attach prefix of_home of_address)))
          (apart : (prefix : ℕ) → IsThere s run n prefix → (of_home of_address : Claim) → k.standing ≡ Detached → Q (then_ (mobiles.Attach prefix of_home of_address))) where
        attach_as : (prefix : ℕ) → IsThere s run n prefix → (of_home of_address : Claim) → Q (then_ (mobiles.Attach prefix of_home of_address))
        attach_as prefix there of_home of_address = by k.standing refl (using prefix there of_home of_address)
          where
            by : (st : Attachment) → k.standing ≡ st → IsUsing own st prefix → Q (then_ (mobiles.Attach prefix of_home of_address))
            by Detached is goes = apart prefix there of_home of_address is
            by AtHome is goes = uses prefix there of_home of_address (ap (λ (x : Attachment). uses_prefix x own prefix) is ∙ goes refl)
            by (Away careof) is goes = uses prefix there of_home of_address (ap (λ (x : Attachment). uses_prefix x own prefix) is ∙ goes refl)

        pub acts_as : (call : Call) → IsCall s run n call → is_leave call ≡ false → is_rebirth call ≡ false → Q (acts s n call run)
        acts_as call is stays lives = subst Q (sym (ap (by_host s n call run) host)) (by call is stays lives)
          where
            by : (d : Call) → IsCall s run n d → is_leave d ≡ false → is_rebirth d ≡ false → Q (by_kind s n own d run (Mobile agent))
            by (Take number shield packet) is stays lives = staying (mobiles.Take number shield packet) refl refl
            by (Sending to proto payload) is stays lives = staying (mobiles.Send to proto payload) refl refl
            by (Refresh to) is stays lives = staying (mobiles.Refresh to) refl refl
            by Tick is stays lives = staying mobiles.Tick refl refl
            by (Plan valid preferred) is stays lives = idle
            by (Hear agent' preference life) is stays lives = idle
            by (Attach prefix) is stays lives = attach_as prefix is (claim_in (around_in run n (Some own.0)) own.0) (claim_in (around_in run n (Some own.0)) (address_under own prefix).0)
            by Leave is stays lives = absurd cc
            by Ask is stays lives = staying mobiles.Ask refl refl
            by (Restart secrets) is stays lives = absurd cc

      acts_found : (call : Call) → IsCall s run n call → is_leave call ≡ false → is_rebirth call ≡ false → IsFound s (acts s n call run) n own agent
      acts_found =
          acts_as (λ (r : Run). IsFound s r n own agent) (entry_found n own agent run entries.Idle refl (λ node. refl) refl f) staying_found
          (λ prefix there of_home of_address uses. same_found prefix there of_home of_address uses) (λ prefix there of_home of_address is. apart_found prefix there of_home of_address is)

    -- it leaves its link
    left_standing : (of_home : Claim) → (transition (mobiles.Leave of_home)).known.standing ≡ Detached
    unfolding does leaves
    left_standing of_home =
        let t : Transition = noted (Called (mobiles.Leave of_home)) (begun now k) in
        standing-noted Detaches (each_row unbinds (releases t.known.standing of_home t))

    left_registered : (of_home : Claim) → (transition (mobiles.Leave of_home)).known.registered ≡ None
    unfolding does leaves after
    left_registered of_home =
        let t : Transition = noted (Called (mobiles.Leave of_home)) (begun now k) in
        ap (λ (x : Known). x.registered) (noted-known after Detaches (each_row unbinds (releases t.known.standing of_home t)))

    moved_found : (link : Option LinkId) → IsFound s (moves s run n link) n own agent
    moved_found link =
        let of_home : Claim = claim_in (around_in run n (Some own.0)) own.0 in
        let c : mobiles.Call = mobiles.Leave of_home in
        let apart : (mobile_known_in s (then_ c) n own agent).standing ≡ Detached = ap (λ (x : Known). x.standing) (known_then c) ∙ left_standing of_home in
        let bare : (mobile_known_in s (then_ c) n own agent).registered ≡ None = ap (λ (x : Known). x.registered) (known_then c) ∙ left_registered of_home in
        subst (λ (r : Run). IsFound s (note (entries.Moved (node_id n) link) r) n own agent) (sym (ap (by_host s n Leave run) host))
        (record {
          present =
              tells_push s (present_says n) (Some own) (then_ c) (entries.Moved (node_id n) link)
              ∙ ap (λ (b : Bool). unwrap_or (if b then Some None else None) (tells s (present_says n) (Some own) (then_ c))) (eq-eqb n n refl) ∙ sym (ap (address_of own) apart);
          registered = λ node.
              tells_push s (registration_told n) None (then_ c) (entries.Moved (node_id n) link)
              ∙ ap (λ (b : Bool). unwrap_or (if b then Some None else None) (tells s (registration_told n) None (then_ c))) (eq-eqb n n refl) ∙ sym bare;
          none = λ is. bare;
          there = λ l is uses. absurd (let both : true ≡ false = sym (ap is_detached apart) ∙ uses in cc);
        })

  -- it begins its next life where it stands
  module _ (n : ℕ) (own : Address) (agent : Option Address) (host : slice_get s.hosts n ≡ Some (record { address = own; kind = Mobile agent })) (run : Run) (long : length run.mobile_pasts ≡ length s.hosts) (f : IsFound s run n own agent) where
    renewed_found : (secrets : Life) → IsFound s (acts s n (Restart secrets) (note (entries.Restarted (node_id n)) run)) n own agent
    renewed_found secrets =
        let next : Run = note (entries.Restarted (node_id n)) run in
        let c : mobiles.Call = mobiles.Restart secrets in
        let spot : stands_on s next n own ≡ stands_on s run n own = tells_same s (moved_says n) (link_of s.links own.0) run (entries.Restarted (node_id n)) refl in
        subst (λ (r : Run). IsFound s r n own agent) (sym (ap (by_host s n (Restart secrets) next) host))
        (transition_found n own agent host next long c (mobile_known_in s run n own agent).standing
        (restart_tells s n own (IsHome n own) (λ l is. is) (present_says n) (λ (step : Step). None) (λ (l : Known). address_of own l.standing) (λ (o : Option Address). o) (present_known n own) (Some own) _ (middle n own agent host next long c) (mobile_known_in s run n own agent) (now_in s next) secrets
        (tells_push s (present_says n) (Some own) run (entries.Restarted (node_id n)) ∙ f.present) (home n own agent host run long))
        (λ node. restart_tells s n own (IsHome n own) (λ l is. is) (registration_told n) registered_said (λ (l : Known). l.registered) (λ (o : Option Registered). o) (registration_known n own) None _ (middle n own agent host next long c) (mobile_known_in s run n own agent) (now_in s next) secrets
        (tells_push s (registration_told n) None run (entries.Restarted (node_id n)) ∙ ap (λ (o : Option Registered). unwrap_or (registration_told n (entries.Restarted (node_id n))) o) (f.registered node)) (home n own agent host run long))
        (λ l is. f.there l (sym spot ∙ is)) f.none)

  -- all that can happen
  roaming_acts : (run : Run) (n : ℕ) (call : Call) → IsCall s run n call → is_leave call ≡ false → is_rebirth call ≡ false → IsRoaming s run → IsRoaming s (acts s n call run)
  roaming_acts run n call is stays lives r = record {
    long = (let o = others_acts n call run in o.long) ∙ r.long;
    found = λ m own agent host. elim (cases_eq m n) as (λ _. IsFound s (acts s n call run) m own agent) [
      | inl e ↦
          let there : slice_get s.hosts n ≡ Some (record { address = own; kind = Mobile agent }) = ap (slice_get s.hosts) (sym e) ∙ host in
          subst (λ (x : ℕ). IsFound s (acts s n call run) x own agent) (sym e) (acts_found n own agent there run r.long (r.found n own agent there) call is stays lives)
      | inr other ↦ acts_other m own agent n other run call (r.found m own agent host)
    ];
  }

  roaming_moves : (run : Run) (n : ℕ) (link : Option LinkId) → IsRoaming s run → IsRoaming s (moves s run n link)
  roaming_moves run n link r = record {
    long = (let o = others_acts n Leave run in o.long) ∙ r.long;
    found = λ m own agent host. elim (cases_eq m n) as (λ _. IsFound s (moves s run n link) m own agent) [
      | inl e ↦
          let there : slice_get s.hosts n ≡ Some (record { address = own; kind = Mobile agent }) = ap (slice_get s.hosts) (sym e) ∙ host in
          subst (λ (x : ℕ). IsFound s (moves s run n link) x own agent) (sym e) (moved_found n own agent there run r.long link)
      | inr other ↦
          entry_found m own agent (acts s n Leave run) (entries.Moved (node_id n) link) (ap (λ (b : Bool). if b then Some None else None) (ne_eqb m n other))
          (λ node. ap (λ (b : Bool). if b then Some None else None) (ne_eqb m n other)) (moved_other m n link other) (acts_other m own agent n other run Leave (r.found m own agent host))
    ];
  }
    where
      moved_other : (m n : ℕ) (link : Option LinkId) → m ≢ n → moved_says m (entries.Moved (node_id n) link) ≡ None
      moved_other m n link other = ap (λ (b : Bool). if b then Some (option_map (λ (l : LinkId). l.0) link) else None) (ne_eqb m n other)

  restarted_other : (m n : ℕ) (own : Address) (agent : Option Address) (run : Run) → m ≢ n → IsFound s run m own agent → IsFound s (note (entries.Restarted (node_id n)) run) m own agent
  restarted_other m n own agent run other f =
      entry_found m own agent run (entries.Restarted (node_id n)) refl (λ node. ap (λ (b : Bool). if b then Some None else None) (ne_eqb m n other)) refl f

  roaming_renewed : (run : Run) (n : ℕ) (secrets : Life) → IsRoaming s run → IsRoaming s (acts s n (Restart secrets) (note (entries.Restarted (node_id n)) run))
  roaming_renewed run n secrets r =
      let next : Run = note (entries.Restarted (node_id n)) run in
      record {
        long = (let o = others_acts n (Restart secrets) next in o.long) ∙ r.long;
        found = λ m own agent host. elim (cases_eq m n) as (λ _. IsFound s (acts s n (Restart secrets) next) m own agent) [
          | inl e ↦
              let there : slice_get s.hosts n ≡ Some (record { address = own; kind = Mobile agent }) = ap (slice_get s.hosts) (sym e) ∙ host in
              subst (λ (x : ℕ). IsFound s (acts s n (Restart secrets) next) x own agent) (sym e) (renewed_found n own agent there run r.long (r.found n own agent there) secrets)
          | inr other ↦ acts_other m own agent n other next (Restart secrets) (restarted_other m n own agent run other (r.found m own agent host))
        ];
      }

  roaming_reborn : (run : Run) (n : ℕ) → is_mobile_host (slice_get s.hosts n) ≡ false → IsRoaming s run → IsRoaming s (note (entries.Restarted (node_id n)) (emptied s n run))
  roaming_reborn run n none r =
      emptied_keeps s n run (λ (later : Run). IsRoaming s (note (entries.Restarted (node_id n)) later)) (on run refl refl) (on (with_past n [] run) refl refl) (on (with_agent_past n [] run) refl refl)
    where
      apart : (m : ℕ) (own : Address) (agent : Option Address) → slice_get s.hosts m ≡ Some (record { address = own; kind = Mobile agent }) → m ≢ n
      apart m own agent host same = absurd (let both : true ≡ false = sym (ap is_mobile_host host) ∙ ap (λ (x : ℕ). is_mobile_host (slice_get s.hosts x)) same ∙ none in cc)

      on : (later : Run) → later.mobile_pasts ≡ run.mobile_pasts → later.past ≡ run.past → IsRoaming s (note (entries.Restarted (node_id n)) later)
      on later pasts past = record {
        long = ap (λ (l : List (List (Stamped Step))). length l) pasts ∙ r.long;
        found = λ m own agent host.
            restarted_other m n own agent later (apart m own agent host)
            (goes_on m own agent run later (ap (λ (l : List Entry). present_in l m own) past) (λ node. ap (λ (l : List Entry). asked (registration_told m) None l) past)
            (ap (λ (l : List Entry). asked (moved_says m) (link_of s.links own.0) l) past) (ap (λ (l : List (List (Stamped Step))). slice_index_or l m []) pasts) (r.found m own agent host));
      }

  roaming_taken : (run : Run) (o : ℕ) (link : LinkId) (address : Address) (holder : ℕ) → IsRoaming s run → IsRoaming s (note (entries.Taken (holder_outside o) link address holder) run)
  roaming_taken run o link address holder r =
      entry_roaming run (entries.Taken (holder_outside o) link address holder) (λ n. refl) (λ n node. ap (λ (b : Bool). if b then Some None else None) (ne_eqb n (holder_outside o) (node o))) (λ n. refl) r

  pub roaming_injects : (run : Run) (o link : ℕ) (packet : List ℕ) → IsRoaming s run → IsRoaming s (note (entries.Injected (length run.posts) o (link_id link) packet) run)
  roaming_injects run o link packet r = entry_roaming run (entries.Injected (length run.posts) o (link_id link) packet) (λ n. refl) (λ n node. refl) (λ n. refl) r

  -- what is kept of the run but its history and the pasts of its mobiles
  roaming_same : (run later : Run) → later.mobile_pasts ≡ run.mobile_pasts → later.past ≡ run.past → IsRoaming s run → IsRoaming s later
  roaming_same run later pasts past r = record {
    long = ap (λ (l : List (List (Stamped Step))). length l) pasts ∙ r.long;
    found = λ m own agent host.
        goes_on m own agent run later (ap (λ (l : List Entry). present_in l m own) past) (λ node. ap (λ (l : List Entry). asked (registration_told m) None l) past)
        (ap (λ (l : List Entry). asked (moved_says m) (link_of s.links own.0) l) past) (ap (λ (l : List (List (Stamped Step))). slice_index_or l m []) pasts) (r.found m own agent host);
  }

  pub roaming_keeps : Keeps s (IsRoaming s)
  roaming_keeps = record {
    idle = λ run e idle r. idle_roaming run e idle r;
    timed = λ run m r. entry_roaming run (entries.At (record { 0 = m })) (λ n. refl) (λ n node. refl) (λ n. refl) r;
    injects = λ run o link packet r. roaming_same (note (entries.Injected (length run.posts) o (link_id link) packet) run) _ refl refl (roaming_injects run o link packet r);
    leaves = λ run k r. roaming_same run _ refl refl r;
    taken = λ run o link address holder r. roaming_taken run o link address holder r;
    acted = λ run n call is stays lives r. roaming_acts run n call is stays lives r;
    moved = λ run n link is r. roaming_moves run n link r;
    reborn = λ run n none r. roaming_reborn run n none r;
    renewed = λ run n secrets is r. roaming_renewed run n secrets r;
  }

  -- before the opening claims
  pub no_past : (hosts : List Host) (n : ℕ) → slice_index_or (map (λ (host : Host). let l : List (Stamped Step) = [] in l) hosts) n [] ≡ []
  no_past [] n = refl
  no_past (host ∷ hosts) zero = refl
  no_past (host ∷ hosts) (suc n) = no_past hosts n

  new_found : (n : ℕ) (own : Address) (agent : Option Address) (run : Run) → run.past ≡ [] → mobile_past_at run n ≡ [] → IsFound s run n own agent
  unfolding known
  new_found n own agent run none past =
      let fresh : mobile_known_in s run n own agent ≡ known own agent s.numbers (secrets_in s n 0) [] = ap (known own agent s.numbers (secrets_in s n 0)) past in
      let here : (mobile_known_in s run n own agent).standing ≡ AtHome = ap (λ (x : Known). x.standing) fresh in
      let bare : (mobile_known_in s run n own agent).registered ≡ None = ap (λ (x : Known). x.registered) fresh in
      record {
        present = ap (λ (l : List Entry). present_in l n own) none ∙ sym (ap (address_of own) here);
        registered = λ node. ap (λ (l : List Entry). asked (registration_told n) None l) none ∙ sym bare;
        none = λ is. bare;
        there = λ l is. subst (λ (st : Attachment). IsUsing own st (slice_index_or s.links l 0)) (sym here)
            (λ there. eq-eqb (slice_index_or s.links l 0) (prefix_of own.0) (at_link l (link_prefix 0 s.links (prefix_of own.0) l (sym (ap (λ (p : List Entry). asked (moved_says n) (link_of s.links own.0) p) none) ∙ is))));
      }
    where
      at_link : (l : ℕ) → (0 ≤ l) × (slice_index_or s.links (l - 0) 0 ≡ prefix_of own.0) → slice_index_or s.links l 0 ≡ prefix_of own.0
      at_link l both = let same : l ≡ l - 0 = omega arith in ap (λ (i : ℕ). slice_index_or s.links i 0) same ∙ both.1

  pub roaming_nothing : IsRoaming s (nothing s)
  roaming_nothing = record {
    long = length-map s.hosts (λ (host : Host). let l : List (Stamped Step) = [] in l);
    found = λ n own agent host. new_found n own agent (nothing s) refl (no_past s.hosts n);
  }

  pub roaming_run : (events : List Event) → IsRoaming s (run_of s events)
  roaming_run events = walk_run s (IsRoaming s) roaming_keeps events roaming_nothing
