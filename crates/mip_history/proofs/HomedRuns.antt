-- Every run keeps what is kept of the homes of its agents.
use Rattle.std.proofs.Common.{◌≡◌, ◌≢◌, ℕ, zero, suc, List, [], ◌∷◌, ◌++◌, Bool, true, false, inl, inr, refl, sym, ap, ◌∙◌, subst, length-set}
use Rattle.std.specs.Prelude.{Option, Some, None, unwrap_or, if◌then◌else◌, map, slice_get, slice_index_or}
use Rattle.std.proofs.lemmas.List.{length-map}
use Rattle.std.proofs.lemmas.Bool.{eq-eqb, ne_eqb}
use Rattle.mip_words.specs.declared.address.Address.{Address}
use Rattle.mip_words.proofs.EachLaws.{each-append}
use Rattle.mip_entries.specs.declared.entry.Entry.TheVariants as entries
use Rattle.mip_entries.specs.Completed.{node_id}
use Rattle.mip_entries.specs.Stamped.{Stamped}
use Rattle.mip_rules_correspondent.specs.Transitions as correspondent_transitions
use Rattle.mip_rules_correspondent.specs.Steps as correspondents
use Rattle.mip_rules_correspondent.specs.Calls as correspondent_calls
use Rattle.mip_rules_correspondent.specs.Doing as correspondent_doing
use Rattle.mip_rules_agent.specs.declared.home_binding.HomeBinding.{HomeBinding}
use Rattle.mip_rules_agent.specs.Calls as agent_calls
use Rattle.mip_rules_agent.specs.Calls.{claim_for}
use Rattle.mip_rules_agent.specs.Steps as agents
use Rattle.mip_rules_agent.specs.Doing as agent_doing
use Rattle.mip_rules_agent.specs.Questions.{binding_of, known}
use Rattle.mip_rules_agent.proofs.Taken.{taken_is}
use Rattle.mip_rules_agent.proofs.HomeLaws.{tick-quiet, plan-quiet, hear-quiet}
use Rattle.mip_rules_mobile.specs.Known as mobile_known
use Rattle.mip_rules_mobile.specs.Transitions as mobile_transitions
use Rattle.mip_rules_mobile.specs.Steps as mobiles
use Rattle.mip_rules_mobile.specs.Calls as mobile_calls
use Rattle.mip_rules_mobile.specs.Doing as mobile_doing
use Rattle.mip_rules_mobile.specs.Shielding.{AreShieldedFrom}
use Rattle.mip_rules_mobile.proofs.Shielding.{past-home, call-shielded}
use Rattle.mip_links.specs.Table.{holder_outside}
use Rattle.mip_schedule.specs.declared.event.Event.{Event}
use Rattle.mip_history.specs.Setup.{Setup, Host, Kind, is_mobile_kind, is_mobile_host}
use Rattle.mip_history.specs.Setup.Kind.{Correspondent, Agent, Mobile}
use Rattle.mip_history.specs.Runs.{Run, note, past_at, mobile_past_at, with_past, with_agent_past, with_mobile_past}
use Rattle.mip_history.specs.Calls.{Call, Take, Tick, Plan, Hear, Leave, Restart, for_correspondent, for_mobile}
use Rattle.mip_history.specs.Knowing.{link_or_first, now_in, secrets_in, identity_in, known_in, agent_of, agent_known_in, mobile_known_in, around_in}
use Rattle.mip_history.specs.Nodes.{after_transition, after_agent_transition, after_mobile_transition, asks, by_kind, by_host, acts}
use Rattle.mip_history.specs.Permitted.{run_of}
use Rattle.mip_history.specs.Registered.{is_agent_kind, is_agent_host, is_agent_at, registration_says, last_registration}
use Rattle.mip_history.proofs.Opening.{nothing}
use Rattle.mip_history.proofs.Keeping.{IsCall, emptied_by_host, emptied, Keeps}
use Rattle.mip_history.proofs.Walking.{walk_run}
use Rattle.mip_history.proofs.Homed.{MeetsHome, IsHomed, under_more, registration_push, homed_entry, homed_other, homed_idle, homed_injected, homed_answers}
use Rattle.mip_history.proofs.Homing.{correspondent_fine, mobile_fine, none_known, homes_with, quiet_agent, taking_agent}

-- what is nothing to a node leaves `idle`
homed_asks : {C : Type 0} (s : Setup) (does : C → Run → Run) (call : Option C) (run : Run) → IsHomed s run → ((c : C) → IsHomed s (does c run)) → IsHomed s (asks does call run)
homed_asks s does None run h go = homed_other s entries.Idle run refl h
homed_asks s does (Some call) run h go = go call

module _ (s : Setup) (n : ℕ) (run : Run) (h : IsHomed s run) where
  homed_correspondent : (own : Address) (t : correspondent_transitions.Transition) → IsHomed s (after_transition s n own t run)
  homed_correspondent own t =
      homed_answers s n (link_or_first s own.0) (correspondents.answers_of t.steps) (with_past n (correspondent_transitions.with_transition (past_at run n) t) run)
      (correspondent_fine s n t.steps) (record { agents = h.agents; each = h.each; under = h.under; homes = h.homes })

  homed_mobile : (own : Address) (agent : Option Address) → slice_get s.hosts n ≡ Some (record { address = own; kind = Mobile agent }) → (c : mobile_calls.Call)
      → IsHomed s (after_mobile_transition s n own (mobile_doing.transition_of (mobile_known_in s run n own agent) (now_in s run) c) run)
  homed_mobile own agent host c =
      let k : mobile_known.Known = mobile_known_in s run n own agent in
      let t : mobile_transitions.Transition = mobile_doing.transition_of k (now_in s run) c in
      let under : AreShieldedFrom own (mobiles.answers_of t.steps) =
      subst (λ (a : Address). AreShieldedFrom a (mobiles.answers_of t.steps)) (past-home own agent s.numbers (secrets_in s n 0) (mobile_past_at run n)) (call-shielded k (now_in s run) c) in
      homed_answers s n _ (mobiles.answers_of t.steps) (with_mobile_past n (mobile_transitions.with_transition (mobile_past_at run n) t) run)
      (mobile_fine s n own agent host (mobiles.answers_of t.steps) under) (record { agents = h.agents; each = h.each; under = h.under; homes = h.homes })

  -- an agent, by the call
  module _ (own : Address) (preference life room : ℕ) (serves : List Address) (host : slice_get s.hosts n ≡ Some (record { address = own; kind = Agent preference life room serves })) where
    abbrev transition : agent_calls.Call → Run
    transition c = after_agent_transition s n own (agent_doing.transition_of (agent_of own preference life room) (agent_known_in run n serves) (now_in s run) c) run

    homed_agent : (call : Call) → IsCall s run n call → IsHomed s (by_kind s n own call run (Agent preference life room serves))
    homed_agent (Take number shield packet) handed =
        let c = agent_calls.Take number shield packet (claim_for (around_in run n None) packet) in
        elim (taken_is (agent_of own preference life room) (agent_known_in run n serves) (now_in s run) number shield packet (claim_for (around_in run n None) packet)) as (λ _. IsHomed s (transition c)) [
          | inl quiet ↦ quiet_agent s n own preference life room serves host run h c quiet.0
          | inr u ↦ taking_agent s n own preference life room serves host run h number shield packet (claim_for (around_in run n None) packet) handed u
        ]
    homed_agent Tick handed =
        quiet_agent s n own preference life room serves host run h agent_calls.Tick (tick-quiet (agent_of own preference life room) (agent_known_in run n serves) (now_in s run))
    homed_agent (Plan valid preferred) handed =
        quiet_agent s n own preference life room serves host run h (agent_calls.Plan valid preferred)
        (plan-quiet (agent_of own preference life room) (agent_known_in run n serves) (now_in s run) valid preferred)
    homed_agent (Hear agent preference' life') handed =
        quiet_agent s n own preference life room serves host run h (agent_calls.Hear agent preference' life')
        (hear-quiet (agent_of own preference life room) (agent_known_in run n serves) (now_in s run) agent preference' life')
    homed_agent _ handed = homed_other s entries.Idle run refl h

  homed_by_kind : (own : Address) (call : Call) → IsCall s run n call → (kind : Kind) → slice_get s.hosts n ≡ Some (record { address = own; kind = kind }) → IsHomed s (by_kind s n own call run kind)
  homed_by_kind own call handed (Correspondent room) host =
      homed_asks s _ (for_correspondent call) run h
      (λ (c : correspondent_calls.Call). homed_correspondent own (correspondent_doing.transition_of (identity_in s run n own room) (known_in s run n room) (now_in s run) c))
  homed_by_kind own call handed (Agent preference life room serves) host = homed_agent own preference life room serves host call handed
  homed_by_kind own call handed (Mobile agent) host =
      homed_asks s _ (for_mobile (around_in run n (Some own.0)) own call) run h (λ (c : mobile_calls.Call). homed_mobile own agent host c)

  homed_acts : (call : Call) → IsCall s run n call → IsHomed s (acts s n call run)
  homed_acts call handed = by (slice_get s.hosts n) refl
    where
      by : (o : Option Host) → slice_get s.hosts n ≡ o → IsHomed s (by_host s n call run o)
      by None is = homed_other s entries.Idle run refl h
      by (Some host) is = homed_by_kind host.address call handed host.kind is

-- a node begins its next life
restart_other : (s : Setup) (n m : ℕ) → is_agent_at s n ≡ false → is_agent_at s m ≡ true → m ≢ n
restart_other s n m other mine same = absurd (let both : true ≡ false = sym mine ∙ ap (λ (k : ℕ). is_agent_at s k) same ∙ other in cc)

module _ (s : Setup) (n : ℕ) where
  silent_other : (m : ℕ) (home : Address) → m ≢ n → registration_says m home (entries.Restarted (node_id n)) ≡ None
  silent_other m home other = ap (λ (b : Bool). if b then Some None else None) (ne_eqb m n other)

  homed_restart : (run : Run) → is_agent_at s n ≡ false → IsHomed s run → IsHomed s (note (entries.Restarted (node_id n)) run)
  homed_restart run other h = homed_entry s (entries.Restarted (node_id n)) run tt (λ m home mine. silent_other m home (restart_other s n m other mine)) h

  homed_agent_restart : (own : Address) (preference life room : ℕ) (serves : List Address) → slice_get s.hosts n ≡ Some (record { address = own; kind = Agent preference life room serves })
      → (run : Run) → IsHomed s run → IsHomed s (note (entries.Restarted (node_id n)) (with_agent_past n [] run))
  homed_agent_restart own preference life room serves host run h = record {
    agents = length-set run.agent_pasts n [] ∙ h.agents;
    each = each-append (MeetsHome s) [] run.past (entries.Restarted (node_id n) ∷ []) h.each (tt, tt);
    under = λ k post shield at is. under_more s run.past (entries.Restarted (node_id n) ∷ []) k shield post.packet (h.under k post shield at is);
    homes = homes_with s n own preference life room serves host run h (run.past ++ entries.Restarted (node_id n) ∷ []) []
        (λ home. none_known serves home ∙ sym (over home)) (λ m home other. same m home other);
  }
    where
      over : (home : Address) → last_registration (run.past ++ entries.Restarted (node_id n) ∷ []) n home ≡ None
      over home =
          registration_push run.past (entries.Restarted (node_id n)) n home
          ∙ ap (λ (b : Bool). unwrap_or (if b then Some None else None) (last_registration run.past n home)) (eq-eqb n n refl)

      same : (m : ℕ) (home : Address) → m ≢ n → last_registration (run.past ++ entries.Restarted (node_id n) ∷ []) m home ≡ last_registration run.past m home
      same m home other =
          registration_push run.past (entries.Restarted (node_id n)) m home
          ∙ ap (λ (o : Option (Option HomeBinding)). unwrap_or o (last_registration run.past m home)) (silent_other m home other)

  homed_reborn : (run : Run) → IsHomed s run → IsHomed s (note (entries.Restarted (node_id n)) (emptied s n run))
  homed_reborn run h = by (slice_get s.hosts n) refl
    where
      of_kind : (own : Address) (kind : Kind) → slice_get s.hosts n ≡ Some (record { address = own; kind = kind })
          → IsHomed s (note (entries.Restarted (node_id n)) (emptied_by_host n run (Some (record { address = own; kind = kind }))))
      of_kind own (Correspondent room) host =
          homed_restart (with_past n [] run) (ap is_agent_host host) (record { agents = h.agents; each = h.each; under = h.under; homes = h.homes })
      of_kind own (Agent preference life room serves) host = homed_agent_restart own preference life room serves host run h
      of_kind own (Mobile agent) host = homed_restart run (ap is_agent_host host) h

      by : (o : Option Host) → slice_get s.hosts n ≡ o → IsHomed s (note (entries.Restarted (node_id n)) (emptied_by_host n run o))
      by None is = homed_restart run (ap is_agent_host is) h
      by (Some host) is = of_kind host.address host.kind is

-- a mobile is no agent
no_agent_there : (s : Setup) (n : ℕ) → is_mobile_host (slice_get s.hosts n) ≡ true → is_agent_at s n ≡ false
no_agent_there s n = by (slice_get s.hosts n)
  where
    of_kind : (kind : Kind) → is_mobile_kind kind ≡ true → is_agent_kind kind ≡ false
    of_kind (Correspondent room) is = refl
    of_kind (Agent preference life room serves) is = absurd cc
    of_kind (Mobile agent) is = refl

    by : (o : Option Host) → is_mobile_host o ≡ true → is_agent_host o ≡ false
    by None is = refl
    by (Some host) is = of_kind host.kind is

-- all that can happen
homed_keeps : (s : Setup) → Keeps s (IsHomed s)
homed_keeps s = record {
  idle = λ run e quiet h. homed_idle s run e quiet h;
  timed = λ run m h. homed_other s (entries.At (record { 0 = m })) run refl h;
  injects = λ run o link packet h. homed_injected s run o link packet h;
  leaves = λ run k h. record { agents = h.agents; each = h.each; under = h.under; homes = h.homes };
  taken = λ run o link address holder h. homed_other s (entries.Taken (holder_outside o) link address holder) run refl h;
  acted = λ run n call handed stays lives h. homed_acts s n run h call handed;
  moved = λ run n link is h. homed_other s (entries.Moved (node_id n) link) (acts s n Leave run) refl (homed_acts s n run h Leave tt);
  reborn = λ run n other h. homed_reborn s n run h;
  renewed = λ run n secrets is h. homed_acts s n (note (entries.Restarted (node_id n)) run) (homed_restart s n run (no_agent_there s n is) h) (Restart secrets) tt;
}

-- before the opening claims nothing is registered
no_agent_past : (hosts : List Host) (n : ℕ) → slice_index_or (map (λ (host : Host). let l : List (Stamped agents.Step) = [] in l) hosts) n [] ≡ []
no_agent_past [] n = refl
no_agent_past (host ∷ hosts) zero = refl
no_agent_past (host ∷ hosts) (suc n) = no_agent_past hosts n

homed_nothing : (s : Setup) → IsHomed s (nothing s)
homed_nothing s = record {
  agents = length-map s.hosts (λ (host : Host). let l : List (Stamped agents.Step) = [] in l);
  each = tt;
  under = λ k post shield at is. absurd cc;
  homes = λ n serves is home. ap (λ (l : List (Stamped agents.Step)). binding_of (known serves l) home) (no_agent_past s.hosts n) ∙ none_known serves home;
}

pub homed_run : (s : Setup) (events : List Event) → IsHomed s (run_of s events)
homed_run s events = walk_run s (IsHomed s) (homed_keeps s) events (homed_nothing s)
