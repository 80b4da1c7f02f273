-- Every run tells of each mobile's bindings as the mobile knows them, at each moment behind which none was told.
use Rattle.std.proofs.Common.{◌≡◌, ◌≢◌, ℕ, ◌≤◌, List, [], ◌∷◌, Bool, true, false, length, inl, inr, refl, sym, ap, ◌∙◌, subst, arith}
use Rattle.std.specs.Prelude.{Option, Some, None, unwrap_or, ◌==◌, nat_lt, if◌then◌else◌, slice_get, slice_index_or}
use Rattle.std.proofs.lemmas.Bool.{cases_eq, ne_eqb, eq-eqb}
use Rattle.std.proofs.lemmas.Bool.Decides.{nat_tests}
use Rattle.mip_words.specs.declared.address.Address.{Address}
use Rattle.mip_words.specs.declared.ids.LinkId.{LinkId}
use Rattle.mip_words.specs.declared.moment.Moment.{Moment}
use Rattle.mip_nonce.specs.Secrets.{Life}
use Rattle.mip_words.specs.Asked.{asked}
use Rattle.mip_outside.specs.declared.claim.Claim.{Claim}
use Rattle.mip_outside.specs.Places.{claim_in}
use Rattle.mip_entries.specs.declared.entry.Entry.{Entry}
use Rattle.mip_entries.specs.declared.entry.Entry.TheVariants as entries
use Rattle.mip_entries.specs.Completed.{node_id}
use Rattle.mip_entries.specs.Stamped.{Stamped}
use Rattle.mip_rules_mobile.specs.declared.attachment.Attachment.{Attachment}
use Rattle.mip_rules_mobile.specs.declared.attachment.Attachment.TheVariants.{Detached}
use Rattle.mip_rules_mobile.specs.Calls as mobiles
use Rattle.mip_rules_mobile.specs.Steps.{Step}
use Rattle.mip_rules_mobile.specs.Known.{Known}
use Rattle.mip_rules_mobile.specs.HomeQuestions.{home_of}
use Rattle.mip_rules_mobile.specs.RowQuestions.{lies_ahead}
use Rattle.mip_rules_mobile.specs.Questions.{after, known}
use Rattle.mip_rules_mobile.specs.MovingRules.{uses_prefix}
use Rattle.mip_rules_mobile.specs.PartLaws.{is_restart}
use Rattle.mip_rules_mobile.specs.Answering.{stays_put}
use Rattle.mip_rules_mobile.specs.Doing.{transition_of}
use Rattle.mip_rules_mobile.specs.Fitting.{EachFits}
use Rattle.mip_rules_mobile.proofs.Fits.{known_along, call-along}
use Rattle.mip_links.specs.Table.{holder_outside}
use Rattle.mip_schedule.specs.declared.event.Event.{Event}
use Rattle.mip_history.specs.Setup.{Setup, is_mobile_host}
use Rattle.mip_history.specs.Setup.Kind.{Mobile}
use Rattle.mip_history.specs.Runs.{Run, note, mobile_past_at, with_past, with_agent_past}
use Rattle.mip_history.specs.Questions.{moment_says}
use Rattle.mip_history.specs.Calls.{Call, Leave, Restart}
use Rattle.mip_history.specs.Knowing.{now_in, secrets_in, mobile_known_in, stands_on, around_in}
use Rattle.mip_history.specs.Claims.{link_id}
use Rattle.mip_history.specs.Nodes.{by_host, acts}
use Rattle.mip_history.specs.Permitted.{moves, run_of}
use Rattle.mip_history.proofs.Opening.{nothing}
use Rattle.mip_history.proofs.Keeping.{is_busy, IsCall, is_leave, is_rebirth, emptied, Keeps}
use Rattle.mip_history.proofs.Folds.{emptied_keeps}
use Rattle.mip_history.proofs.Walking.{walk_run}
use Rattle.mip_history.specs.Told.{binding_told}
use Rattle.mip_history.specs.ToldLaws.{late_says}
use Rattle.mip_settled.proofs.Answered.{IsQuiet, IsMute, tells, tells_push, tells_same, answers_mute}
use Rattle.mip_settled.proofs.MobileTransitions.{Tells, staying_tells, restart_tells, using_tells, attaching_tells}
use Rattle.mip_settled.proofs.Roaming.{IsFound, IsRoaming, acts_mute, others_acts, transition, middle, then_, home, known_then, acts_as, no_past, roaming_injects, roaming_keeps, roaming_nothing}
use Rattle.mip_settled.proofs.Rows.{bound_of, HasRows, new_rows, rows_kept, bound_said}
use Rattle.mip_settled.proofs.Leaving.{binding_quiet, binding_mute, IsListed, binding_known, binding_lost, leaving_tells, left_bound}

-- rows stay as they always are
rows_after_step : (c : mobiles.Call) (now : ℕ) (k : Known) (step : Step) (steps : List Step) → EachFits c now k (step ∷ steps) → HasRows k.list.rows k.peers → (let l : Known = after k (record { at = now; step = step }) in HasRows l.list.rows l.peers)
unfolding after
rows_after_step c now k step steps each h = rows_kept c now k step each.0 h

abbrev pub HasRowsOf : Known → Type 0
HasRowsOf k = HasRows k.list.rows k.peers

rows_along : (c : mobiles.Call) (now : ℕ) (k : Known) (steps : List Step) → EachFits c now k steps → HasRowsOf k → HasRowsOf (known_along k now steps)
rows_along c now k [] each h = h
rows_along c now k (step ∷ steps) each h = rows_along c now (after k (record { at = now; step = step })) steps each.1 (rows_after_step c now k step steps each h)

rows_transition : (k : Known) (now : ℕ) (c : mobiles.Call) → HasRowsOf k → HasRowsOf (transition_of k now c).known
rows_transition k now c h = let is = call-along k now c in subst HasRowsOf (sym is.known) (rows_along c now k (transition_of k now c).steps is.each h)

-- whether a later moment was told
late_quiet : (u : ℕ) → IsQuiet (late_says u)
late_quiet u = record { idle = idle; sent = λ number m shielded packet. refl }
  where
    idle : (e : Entry) → is_busy e ≡ false → late_says u e ≡ None
    idle (entries.At moment) is = absurd cc
    idle _ is = refl

late_mute : (u n : ℕ) → IsMute (late_says u) n
late_mute u n link k (entries.Idle) = refl
late_mute u n link k _ = refl

-- where none was told, the moment is not later
stays_late : (u : ℕ) (past : List Entry) → asked (late_says u) true past ≡ true
stays_late u [] = refl
stays_late u (entries.At moment ∷ past) = by (nat_lt u moment.0) (stays_late u past)
  where
    by : (b : Bool) → asked (late_says u) true past ≡ true → asked (late_says u) (unwrap_or (if b then Some true else None) true) past ≡ true
    by true rest = rest
    by false rest = rest
stays_late u (_ ∷ past) = stays_late u past

early_at : (u at : ℕ) (past : List Entry) → at ≤ u → asked (late_says u) false past ≡ false → asked moment_says at past ≤ u
early_at u at [] early none = early
early_at u at (entries.At moment ∷ past) early none = by (nat_lt u moment.0) refl none (λ le rest. early_at u moment.0 past le rest)
  where
    by : (b : Bool) → nat_lt u moment.0 ≡ b → asked (late_says u) (unwrap_or (if b then Some true else None) false) past ≡ false
        → (moment.0 ≤ u → asked (late_says u) false past ≡ false → asked moment_says moment.0 past ≤ u) → asked moment_says moment.0 past ≤ u
    by true is none again = absurd (let both : true ≡ false = sym (stays_late u past) ∙ none in cc)
    by false is none again = again (grind (arith, nat_tests)) none
early_at u at (_ ∷ past) early none = early_at u at past early none

module _ (s : Setup) (u : ℕ) (since : s.start ≤ u) (peer : Address) where
  abbrev pub Early : Run → Type 0
  Early run = tells s (late_says u) false run ≡ false

  early_now : (run : Run) → Early run → now_in s run ≤ u
  early_now run early = early_at u s.start run.past since early

  -- what is told of a mobile's binding is what the mobile knows, at this moment
  pub record IsBoundAs (run : Run) (n : ℕ) (own : Address) (agent : Option Address) : Type 0 where
    pub so : Early run → lies_ahead u (tells s (binding_told n peer) None run) ≡ lies_ahead u (bound_of (mobile_known_in s run n own agent) peer)
    pub rows : HasRowsOf (mobile_known_in s run n own agent)

  pub record IsBinding (run : Run) : Type 0 where
    pub roaming : IsRoaming s run
    pub bound : (n : ℕ) (own : Address) (agent : Option Address) → slice_get s.hosts n ≡ Some (record { address = own; kind = Mobile agent }) → IsBoundAs run n own agent

  goes_on : (n : ℕ) (own : Address) (agent : Option Address) (run later : Run) → tells s (binding_told n peer) None later ≡ tells s (binding_told n peer) None run → (Early later → Early run)
      → mobile_past_at later n ≡ mobile_past_at run n → IsBoundAs run n own agent → IsBoundAs later n own agent
  goes_on n own agent run later same early past b =
      let is : mobile_known_in s later n own agent ≡ mobile_known_in s run n own agent = ap (known own agent s.numbers (secrets_in s n 0)) past in
      record {
        so = λ now. ap (lies_ahead u) same ∙ b.so (early now) ∙ ap (λ (k : Known). lies_ahead u (bound_of k peer)) (sym is);
        rows = subst HasRowsOf (sym is) b.rows;
      }

  -- an entry that says nothing of it
  early_push : (run : Run) (e : Entry) → late_says u e ≡ None → Early (note e run) → Early run
  early_push run e none early = sym (tells_same s (late_says u) false run e none) ∙ early

  entry_bound : (n : ℕ) (own : Address) (agent : Option Address) (run : Run) (e : Entry) → binding_told n peer e ≡ None → (Early (note e run) → Early run) → IsBoundAs run n own agent → IsBoundAs (note e run) n own agent
  entry_bound n own agent run e none early b = goes_on n own agent run (note e run) (tells_same s (binding_told n peer) None run e none) early refl b

  -- another node acts
  early_acts : (n : ℕ) (call : Call) (run : Run) → Early (acts s n call run) → Early run
  early_acts n call run early = sym (acts_mute s (late_says u) false (late_quiet u) n (late_mute u n) call run) ∙ early

  acts_other : (m : ℕ) (own : Address) (agent : Option Address) (n : ℕ) → m ≢ n → (run : Run) (call : Call) → IsBoundAs run m own agent → IsBoundAs (acts s n call run) m own agent
  acts_other m own agent n other run call b =
      goes_on m own agent run (acts s n call run) (acts_mute s (binding_told m peer) None (binding_quiet m peer) n (binding_mute m n peer other) call run) (early_acts n call run)
      (let o = others_acts s n call run in o.others m other) b

  -- a mobile acts itself
  module _ (n : ℕ) (own : Address) (agent : Option Address) (host : slice_get s.hosts n ≡ Some (record { address = own; kind = Mobile agent })) (run : Run) (long : length run.mobile_pasts ≡ length s.hosts) where
    abbrev knows : Known
    knows = mobile_known_in s run n own agent

    abbrev behind : mobiles.Call → Run
    behind c = then_ s n own agent host run long c

    abbrev TellsBound : mobiles.Call → Attachment → Type 0
    TellsBound c st = Tells s n own (IsListed own) (λ k holds. holds.0) (binding_told n peer) (bound_said peer) (λ (k : Known). bound_of k peer) (lies_ahead u) (binding_known n own peer u) None
        (unwrap_or (stands_on s run n own) 0) (middle s n own agent host run long c) st (transition s n own agent host run long c)

    -- a transition of its own, where the run was early before it
    early_behind : (c : mobiles.Call) → Early (behind c) → Early run
    early_behind c early = sym (early_same c) ∙ early
      where
        early_same : (c : mobiles.Call) → tells s (late_says u) false (behind c) ≡ tells s (late_says u) false run
        early_same c = answers_mute s (late_says u) false (late_quiet u) n (late_mute u n) _ (middle s n own agent host run long c) _

    transition_bound : (c : mobiles.Call) (st : Attachment) → (Early run → TellsBound c st) → HasRowsOf knows → IsBoundAs (behind c) n own agent
    transition_bound c st p h =
        let is : mobile_known_in s (behind c) n own agent ≡ (transition s n own agent host run long c).known = known_then s n own agent host run long c in
        record {
          so = λ early. (let q = p (early_behind c early) in q.so) ∙ ap (λ (k : Known). lies_ahead u (bound_of k peer)) (sym is);
          rows = subst HasRowsOf (sym is) (rows_transition knows (now_in s run) c h);
        }

    listed : HasRowsOf knows → IsListed own knows
    listed h = (home s n own agent host run long, h)

    module _ (b : IsBoundAs run n own agent) where
      staying_bound : (c : mobiles.Call) → stays_put c ≡ true → is_restart c ≡ false → IsBoundAs (behind c) n own agent
      staying_bound c stays lives =
          transition_bound c knows.standing
          (λ early. staying_tells s n own (IsListed own) (λ k holds. holds.0) (binding_told n peer) (bound_said peer) (λ (k : Known). bound_of k peer) (lies_ahead u) (binding_known n own peer u) None _ (middle s n own agent host run long c) knows (now_in s run) c stays lives (b.so early) (listed b.rows)) b.rows

      using_bound : (prefix : ℕ) (of_home of_address : Claim) → uses_prefix knows.standing own prefix ≡ true → IsBoundAs (behind (mobiles.Attach prefix of_home of_address)) n own agent
      using_bound prefix of_home of_address uses =
          let yes : uses_prefix knows.standing (home_of knows) prefix ≡ true = ap (λ (a : Address). uses_prefix knows.standing a prefix) (home s n own agent host run long) ∙ uses in
          transition_bound (mobiles.Attach prefix of_home of_address) knows.standing
          (λ early. using_tells s n own (IsListed own) (λ k holds. holds.0) (binding_told n peer) (bound_said peer) (λ (k : Known). bound_of k peer) (lies_ahead u) (binding_known n own peer u) None _ (middle s n own agent host run long (mobiles.Attach prefix of_home of_address)) knows (now_in s run) prefix of_home of_address yes (b.so early) (listed b.rows)) b.rows

      apart_bound : (prefix : ℕ) (of_home of_address : Claim) → knows.standing ≡ Detached → IsBoundAs (behind (mobiles.Attach prefix of_home of_address)) n own agent
      apart_bound prefix of_home of_address apart =
          transition_bound (mobiles.Attach prefix of_home of_address) _
          (λ early. attaching_tells s n own (IsListed own) (λ k holds. holds.0) (binding_told n peer) (bound_said peer) (λ (k : Known). bound_of k peer) (lies_ahead u) (binding_known n own peer u) None _ (middle s n own agent host run long (mobiles.Attach prefix of_home of_address)) knows (now_in s run) prefix of_home of_address apart (b.so early) (listed b.rows)
          (λ x same link address holder. refl) (λ l at address holder same. ap (lies_ahead u) (binding_lost n own peer u at l address holder) ∙ same)) b.rows

      acts_bound : IsFound s run n own agent → (call : Call) → IsCall s run n call → is_leave call ≡ false → is_rebirth call ≡ false → IsBoundAs (acts s n call run) n own agent
      acts_bound f =
          acts_as s n own agent host run long f (λ (r : Run). IsBoundAs r n own agent) (entry_bound n own agent run entries.Idle refl (early_push run entries.Idle refl) b) staying_bound
          (λ prefix there of_home of_address uses. using_bound prefix of_home of_address uses) (λ prefix there of_home of_address is. apart_bound prefix of_home of_address is)

      moved_bound : (link : Option LinkId) → IsBoundAs (moves s run n link) n own agent
      moved_bound link =
          let of_home : Claim = claim_in (around_in run n (Some own.0)) own.0 in
          let c : mobiles.Call = mobiles.Leave of_home in
          let is : mobile_known_in s (behind c) n own agent ≡ (transition s n own agent host run long c).known = known_then s n own agent host run long c in
          let none : bound_of (mobile_known_in s (behind c) n own agent) peer ≡ None = ap (λ (k : Known). bound_of k peer) is ∙ left_bound peer knows (now_in s run) of_home in
          subst (λ (r : Run). IsBoundAs (note (entries.Moved (node_id n) link) r) n own agent) (sym (ap (by_host s n Leave run) host))
          (entry_bound n own agent (behind c) (entries.Moved (node_id n) link) refl (early_push (behind c) (entries.Moved (node_id n) link) refl)
          (record {
            so = λ early. left_tells of_home (early_behind c early) ∙ ap (lies_ahead u) (sym none);
            rows = subst HasRowsOf (sym is) (rows_transition knows (now_in s run) c b.rows);
          }))
        where
          left_tells : (of_home : Claim) → Early run → lies_ahead u (tells s (binding_told n peer) None (behind (mobiles.Leave of_home))) ≡ false
          left_tells of_home early =
              leaving_tells s n own peer u None (unwrap_or (stands_on s run n own) 0) (middle s n own agent host run long (mobiles.Leave of_home)) knows (now_in s run) of_home (early_now run early) (b.so early) (listed b.rows)

  -- it begins its next life where it stands
  renewed_bound : (n : ℕ) (own : Address) (agent : Option Address) (host : slice_get s.hosts n ≡ Some (record { address = own; kind = Mobile agent })) (run : Run) (long : length run.mobile_pasts ≡ length s.hosts)
      → IsBoundAs run n own agent → (secrets : Life) → IsBoundAs (acts s n (Restart secrets) (note (entries.Restarted (node_id n)) run)) n own agent
  renewed_bound n own agent host run long b secrets =
      let next : Run = note (entries.Restarted (node_id n)) run in
      let c : mobiles.Call = mobiles.Restart secrets in
      subst (λ (r : Run). IsBoundAs r n own agent) (sym (ap (by_host s n (Restart secrets) next) host))
      (transition_bound n own agent host next long c (mobile_known_in s run n own agent).standing
      (λ early. restart_tells s n own (IsListed own) (λ k holds. holds.0) (binding_told n peer) (bound_said peer) (λ (k : Known). bound_of k peer) (lies_ahead u) (binding_known n own peer u) None _ (middle s n own agent host next long c) (mobile_known_in s run n own agent) (now_in s next) secrets
      (ap (lies_ahead u) (tells_push s (binding_told n peer) None run (entries.Restarted (node_id n)) ∙ ended (tells s (binding_told n peer) None run) ∙ sym (ended (bound_of (mobile_known_in s run n own agent) peer)))) (listed n own agent host next long b.rows)) b.rows)
    where
      ended : (o : Option Moment) → unwrap_or (if n == n then Some None else None) o ≡ None
      ended o = ap (λ (x : Bool). unwrap_or (if x then Some None else None) o) (eq-eqb n n refl)

  -- all that can happen
  entry_binding : (run : Run) (e : Entry) → IsRoaming s (note e run) → ((n : ℕ) → binding_told n peer e ≡ None) → (Early (note e run) → Early run) → IsBinding run → IsBinding (note e run)
  entry_binding run e roaming none early b = record { roaming = roaming; bound = λ n own agent host. entry_bound n own agent run e (none n) early (b.bound n own agent host) }

  binding_same : (run later : Run) → IsRoaming s later → later.mobile_pasts ≡ run.mobile_pasts → later.past ≡ run.past → IsBinding run → IsBinding later
  binding_same run later roaming pasts past b = record {
    roaming = roaming;
    bound = λ n own agent host.
        goes_on n own agent run later (ap (λ (l : List Entry). asked (binding_told n peer) None l) past) (λ early. sym (ap (λ (l : List Entry). asked (late_says u) false l) past) ∙ early)
        (ap (λ (l : List (List (Stamped Step))). slice_index_or l n []) pasts) (b.bound n own agent host);
  }

  early_timed : (run : Run) (m : ℕ) → Early (note (entries.At (record { 0 = m })) run) → Early run
  early_timed run m early = by (nat_lt u m) (sym (tells_push s (late_says u) false run (entries.At (record { 0 = m }))) ∙ early)
    where
      by : (b : Bool) → unwrap_or (if b then Some true else None) (tells s (late_says u) false run) ≡ false → Early run
      by true is = absurd cc
      by false is = is

  binding_acts : (run : Run) (n : ℕ) (call : Call) → IsCall s run n call → is_leave call ≡ false → is_rebirth call ≡ false → IsRoaming s (acts s n call run) → IsBinding run → IsBinding (acts s n call run)
  binding_acts run n call is stays lives roaming b = record {
    roaming = roaming;
    bound = λ m own agent host. elim (cases_eq m n) as (λ _. IsBoundAs (acts s n call run) m own agent) [
      | inl e ↦
          let there : slice_get s.hosts n ≡ Some (record { address = own; kind = Mobile agent }) = ap (slice_get s.hosts) (sym e) ∙ host in
          let r = b.roaming in
          subst (λ (x : ℕ). IsBoundAs (acts s n call run) x own agent) (sym e) (acts_bound n own agent there run r.long (b.bound n own agent there) (r.found n own agent there) call is stays lives)
      | inr other ↦ acts_other m own agent n other run call (b.bound m own agent host)
    ];
  }

  binding_moves : (run : Run) (n : ℕ) (link : Option LinkId) → IsRoaming s (moves s run n link) → IsBinding run → IsBinding (moves s run n link)
  binding_moves run n link roaming b = record {
    roaming = roaming;
    bound = λ m own agent host. elim (cases_eq m n) as (λ _. IsBoundAs (moves s run n link) m own agent) [
      | inl e ↦
          let there : slice_get s.hosts n ≡ Some (record { address = own; kind = Mobile agent }) = ap (slice_get s.hosts) (sym e) ∙ host in
          let r = b.roaming in
          subst (λ (x : ℕ). IsBoundAs (moves s run n link) x own agent) (sym e) (moved_bound n own agent there run r.long (b.bound n own agent there) link)
      | inr other ↦
          entry_bound m own agent (acts s n Leave run) (entries.Moved (node_id n) link) refl (early_push (acts s n Leave run) (entries.Moved (node_id n) link) refl)
          (acts_other m own agent n other run Leave (b.bound m own agent host))
    ];
  }

  restarted_other : (m n : ℕ) (own : Address) (agent : Option Address) (run : Run) → m ≢ n → IsBoundAs run m own agent → IsBoundAs (note (entries.Restarted (node_id n)) run) m own agent
  restarted_other m n own agent run other b =
      entry_bound m own agent run (entries.Restarted (node_id n)) (ap (λ (x : Bool). if x then Some None else None) (ne_eqb m n other)) (early_push run (entries.Restarted (node_id n)) refl) b

  binding_renewed : (run : Run) (n : ℕ) (secrets : Life) → IsRoaming s (acts s n (Restart secrets) (note (entries.Restarted (node_id n)) run)) → IsBinding run → IsBinding (acts s n (Restart secrets) (note (entries.Restarted (node_id n)) run))
  binding_renewed run n secrets roaming b =
      let next : Run = note (entries.Restarted (node_id n)) run in
      record {
        roaming = roaming;
        bound = λ m own agent host. elim (cases_eq m n) as (λ _. IsBoundAs (acts s n (Restart secrets) next) m own agent) [
          | inl e ↦
              let there : slice_get s.hosts n ≡ Some (record { address = own; kind = Mobile agent }) = ap (slice_get s.hosts) (sym e) ∙ host in
              let r = b.roaming in
              subst (λ (x : ℕ). IsBoundAs (acts s n (Restart secrets) next) x own agent) (sym e) (renewed_bound n own agent there run r.long (b.bound n own agent there) secrets)
          | inr other ↦ acts_other m own agent n other next (Restart secrets) (restarted_other m n own agent run other (b.bound m own agent host))
        ];
      }

  binding_reborn : (run : Run) (n : ℕ) → is_mobile_host (slice_get s.hosts n) ≡ false → IsRoaming s (note (entries.Restarted (node_id n)) (emptied s n run)) → IsBinding run → IsBinding (note (entries.Restarted (node_id n)) (emptied s n run))
  binding_reborn run n none roaming b =
      emptied_keeps s n run (λ (later : Run). IsRoaming s (note (entries.Restarted (node_id n)) later) → IsBinding (note (entries.Restarted (node_id n)) later))
      (λ r. on run r refl refl) (λ r. on (with_past n [] run) r refl refl) (λ r. on (with_agent_past n [] run) r refl refl) roaming
    where
      apart : (m : ℕ) (own : Address) (agent : Option Address) → slice_get s.hosts m ≡ Some (record { address = own; kind = Mobile agent }) → m ≢ n
      apart m own agent host same = absurd (let both : true ≡ false = sym (ap is_mobile_host host) ∙ ap (λ (x : ℕ). is_mobile_host (slice_get s.hosts x)) same ∙ none in cc)

      on : (later : Run) → IsRoaming s (note (entries.Restarted (node_id n)) later) → later.mobile_pasts ≡ run.mobile_pasts → later.past ≡ run.past → IsBinding (note (entries.Restarted (node_id n)) later)
      on later roaming pasts past = record {
        roaming = roaming;
        bound = λ m own agent host.
            restarted_other m n own agent later (apart m own agent host)
            (goes_on m own agent run later (ap (λ (l : List Entry). asked (binding_told m peer) None l) past) (λ early. sym (ap (λ (l : List Entry). asked (late_says u) false l) past) ∙ early)
            (ap (λ (l : List (List (Stamped Step))). slice_index_or l m []) pasts) (b.bound m own agent host));
      }

  injected_binding : (run : Run) (o link : ℕ) (packet : List ℕ) → IsBinding run → IsBinding (note (entries.Injected (length run.posts) o (link_id link) packet) run)
  injected_binding run o link packet b =
      let e : Entry = entries.Injected (length run.posts) o (link_id link) packet in
      entry_binding run e (roaming_injects s run o link packet b.roaming) (λ n. refl) (early_push run e refl) b

  quiet_none : (n : ℕ) (e : Entry) → is_busy e ≡ false → binding_told n peer e ≡ None
  quiet_none n e idle = let q = binding_quiet n peer in q.idle e idle

  roams : Keeps s (IsRoaming s)
  roams = roaming_keeps s

  binding_keeps : Keeps s IsBinding
  binding_keeps = record {
    idle = λ run e idle b. entry_binding run e (roams.idle run e idle b.roaming) (λ n. quiet_none n e idle) (early_push run e (let q = late_quiet u in q.idle e idle)) b;
    timed = λ run m b. entry_binding run (entries.At (record { 0 = m })) (roams.timed run m b.roaming) (λ n. refl) (early_timed run m) b;
    injects = λ run o link packet b.
        binding_same (note (entries.Injected (length run.posts) o (link_id link) packet) run) _ (roams.injects run o link packet b.roaming) refl refl (injected_binding run o link packet b);
    leaves = λ run k b. binding_same run _ (roams.leaves run k b.roaming) refl refl b;
    taken = λ run o link address holder b.
        entry_binding run (entries.Taken (holder_outside o) link address holder) (roams.taken run o link address holder b.roaming) (λ n. refl) (early_push run (entries.Taken (holder_outside o) link address holder) refl) b;
    acted = λ run n call is stays lives b. binding_acts run n call is stays lives (roams.acted run n call is stays lives b.roaming) b;
    moved = λ run n link is b. binding_moves run n link (roams.moved run n link is b.roaming) b;
    reborn = λ run n none b. binding_reborn run n none (roams.reborn run n none b.roaming) b;
    renewed = λ run n secrets is b. binding_renewed run n secrets (roams.renewed run n secrets is b.roaming) b;
  }

  -- before the opening claims
  new_bound : (n : ℕ) (own : Address) (agent : Option Address) → mobile_past_at (nothing s) n ≡ [] → IsBoundAs (nothing s) n own agent
  unfolding known
  new_bound n own agent past =
      let fresh : mobile_known_in s (nothing s) n own agent ≡ known own agent s.numbers (secrets_in s n 0) [] = ap (known own agent s.numbers (secrets_in s n 0)) past in
      record {
        so = λ early. sym (ap (λ (k : Known). lies_ahead u (bound_of k peer)) fresh);
        rows = subst HasRowsOf (sym fresh) new_rows;
      }

  pub binding_run : (events : List Event) → IsBinding (run_of s events)
  binding_run events = walk_run s IsBinding binding_keeps events (record { roaming = roaming_nothing s; bound = λ n own agent host. new_bound n own agent (no_past s s.hosts n) })
