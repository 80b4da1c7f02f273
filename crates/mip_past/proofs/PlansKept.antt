-- The plan that an agent keeps is that of the events that have begun.
use Rattle.std.proofs.Common.{◌≡◌, ◌≢◌, ℕ, ◌+◌, ◌^◌, ◌<◌, List, [], ◌∷◌, ◌++◌, length, min, Bool, true, false, inl, inr, refl, sym, ap, ◌∙◌, subst, arith, length-set}
use Rattle.std.specs.Prelude.{◌==◌, if◌then◌else◌, Option, Some, None, slice_get, slice_index_or}
use Rattle.std.specs.List.{sum_by}
use Rattle.std.proofs.lemmas.Bool.{cases_eq, eq-eqb, ne_eqb}
use Rattle.std.proofs.lemmas.List.{append_assoc, append-nil, length-map, get_or-set_same, get_or-set_other}
use Rattle.std.proofs.lemmas.List.Sums.{fold-append, sum_by-append}
use Rattle.std.proofs.lemmas.Option.{slice_get_within}
use Rattle.mip_words.specs.declared.address.Address.{Address}
use Rattle.mip_words.specs.declared.moment.Moment.{Moment}
use Rattle.mip_words.specs.declared.ids.NodeId.{NodeId}
use Rattle.mip_discovery.specs.declared.plan.PrefixPlan.{PrefixPlan}
use Rattle.mip_discovery.specs.Plan.{left_of}
use Rattle.mip_entries.specs.declared.entry.Entry.{Entry}
use Rattle.mip_entries.specs.declared.entry.Entry.TheVariants as entries
use Rattle.mip_entries.specs.Completed.{node_id}
use Rattle.mip_entries.specs.Stamped.{Stamped}
use Rattle.mip_rules_correspondent.specs.Calls as correspondent_calls
use Rattle.mip_rules_agent.specs.declared.identity.Identity.{Identity}
use Rattle.mip_rules_agent.specs.declared.home_row.HomeRow.{HomeRow}
use Rattle.mip_rules_agent.specs.Known.{Known}
use Rattle.mip_rules_agent.specs.Calls as agent_calls
use Rattle.mip_rules_agent.specs.Calls.{claim_for}
use Rattle.mip_rules_agent.specs.Steps.{Step, answers_of}
use Rattle.mip_rules_agent.specs.Questions.{known, plan_called, endless, rows_at}
use Rattle.mip_rules_agent.specs.Transitions.{with_transition}
use Rattle.mip_rules_agent.specs.Doing.{transition_of}
use Rattle.mip_rules_agent.proofs.Calls.{call-stands}
use Rattle.mip_rules_agent.proofs.Pasts.{stands-known}
use Rattle.mip_rules_agent.proofs.Refusals.{call-plan}
use Rattle.mip_rules_mobile.specs.Calls as mobile_calls
use Rattle.mip_links.specs.Table.{holder_outside}
use Rattle.mip_schedule.specs.EventTimes.{wait_of}
use Rattle.mip_schedule.specs.declared.event.Event.{Event}
use Rattle.mip_schedule.specs.declared.event.Event.TheVariants as events
use Rattle.mip_history.specs.Setup.{Setup, Host, Kind}
use Rattle.mip_history.specs.Setup.Kind.{Correspondent, Agent, Mobile}
use Rattle.mip_history.specs.Runs.{Run, note, agent_past_at, with_past, with_agent_past, with_mobile_past}
use Rattle.mip_history.specs.Calls as calls
use Rattle.mip_history.specs.Calls.{for_correspondent, for_mobile}
use Rattle.mip_history.specs.Homes.{gives_up}
use Rattle.mip_history.specs.Knowing.{link_or_first, now_in, agent_of, agent_known_in, around_in}
use Rattle.mip_history.specs.Nodes.{after_agent_transition, asks, by_kind, by_host, acts}
use Rattle.mip_history.specs.Passing.{waited_by}
use Rattle.mip_history.specs.Restarting.{homes_left, reborn_by_host, restarted}
use Rattle.mip_history.specs.Permitted.{happens, opened, run_of}
use Rattle.mip_history.proofs.Keeping.{is_busy, emptied_by_host, emptied, keeps_claims, keeps_gives_up}
use Rattle.mip_history.proofs.Effects.{answers_pasts}
use Rattle.mip_history.proofs.Events.{run_passes}
use Rattle.mip_history.proofs.Changes.{Change, left, comes, injects, drops, squats, yields, acted, moved, reborn, gives, renewed, IsBy, happens_keeps}
use Rattle.mip_past.specs.declared.planned.Planned.{Planned}
use Rattle.mip_past.specs.Planning.{endless_since, plan_behind, moment_behind, planned, unplanned, plan_told}
use Rattle.mip_past.specs.PlanningLaws.{IsSamePlan, IsPlannedAsAsked}
use Rattle.mip_past.proofs.AgentWalk.{no_past, stands_here}

abbrev is_plan : calls.Call → Bool
is_plan (calls.Plan valid preferred) = true
is_plan _ = false

-- time as it passes by events
pub wait_same : (e : Event) → wait_of e ≡ waited_by e
wait_same (events.Wait ms) = refl
wait_same _ = refl

fresh_plan : (serves : List Address) → (let k : Known = known serves [] in k.plan) ≡ endless
unfolding known
fresh_plan serves = refl

module _ (s : Setup) where
  pub now_is : (es : List Event) → now_in s (run_of s es) ≡ s.start + sum_by waited_by es
  now_is es = let p = run_passes s es in p.moment

  now_next : (front rest : List Event) → now_in s (run_of s (front ++ rest)) ≡ now_in s (run_of s front) + sum_by waited_by rest
  now_next front rest = let whole = now_is (front ++ rest) in let first = now_is front in let sum = sum_by-append waited_by front rest in omega (arith, whole, first, sum)

module _ (s : Setup) (m : ℕ) (own : Address) (preference life room : ℕ) (serves : List Address)
    (host : slice_get s.hosts m ≡ Some (record { address = own; kind = Agent preference life room serves })) where
  abbrev k : Run → Known
  k run = agent_known_in run m serves

  record HasPlan (plan : PrefixPlan) (run : Run) : Type 0 where
    agents : length run.agent_pasts ≡ length s.hosts
    plan_is : (let x : Known = k run in x.plan) ≡ plan

  module _ (plan : PrefixPlan) where
    goes_on : (run next : Run) → next.agent_pasts ≡ run.agent_pasts → HasPlan plan run → HasPlan plan next
    goes_on run next same h = record {
      agents = ap (λ (l : List (List (Stamped Step))). length l) same ∙ h.agents;
      plan_is = ap (λ (l : List (List (Stamped Step))). let x : Known = known serves (slice_index_or l m []) in x.plan) same ∙ h.plan_is;
    }

    idle : (run : Run) (e : Entry) → is_busy e ≡ false → HasPlan plan run → HasPlan plan (note e run)
    idle run e quiet h = goes_on run (note e run) refl h

    other_past : (n : ℕ) → m ≢ n → (past : List (Stamped Step)) (run : Run) → HasPlan plan run → HasPlan plan (with_agent_past n past run)
    other_past n other past run h = record {
      agents = length-set run.agent_pasts n past ∙ h.agents;
      plan_is = ap (λ (l : List (Stamped Step)). let x : Known = known serves l in x.plan) (get_or-set_other run.agent_pasts n m past [] other) ∙ h.plan_is;
    }

    asked_on : {C : Type 0} (does : C → Run → Run) (call : Option C) (run : Run) → HasPlan plan run → ((c : C) → HasPlan plan (does c run)) → HasPlan plan (asks does call run)
    asked_on does None run h go = goes_on run (note entries.Idle run) refl h
    asked_on does (Some call) run h go = go call

    -- another node acts
    other_kind : (n : ℕ) → m ≢ n → (at : Address) (call : calls.Call) (run : Run) → HasPlan plan run → (kind : Kind) → HasPlan plan (by_kind s n at call run kind)
    other_kind n other at call run h (Correspondent places) =
        asked_on _ (for_correspondent call) run h (λ (c : correspondent_calls.Call). goes_on run _ (let p = answers_pasts s n _ _ (with_past n _ run) in p.1) h)
    other_kind n other at call run h (Agent rank lasts places homes) =
        asked_on _ (calls.for_agent (around_in run n None) call) run h
        (λ (c : agent_calls.Call). goes_on (with_agent_past n _ run) _ (let p = answers_pasts s n _ _ (with_agent_past n _ run) in p.1) (other_past n other _ run h))
    other_kind n other at call run h (Mobile agent) =
        asked_on _ (for_mobile (around_in run n (Some at.0)) at call) run h (λ (c : mobile_calls.Call). goes_on run _ (let p = answers_pasts s n _ _ (with_mobile_past n _ run) in p.1) h)

    other_acts : (n : ℕ) → m ≢ n → (call : calls.Call) (run : Run) → HasPlan plan run → HasPlan plan (acts s n call run)
    other_acts n other call run h = by (slice_get s.hosts n)
      where
        by : (o : Option Host) → HasPlan plan (by_host s n call run o)
        by None = goes_on run (note entries.Idle run) refl h
        by (Some x) = other_kind n other x.address call run h x.kind

  abbrev me : Identity
  me = agent_of own preference life room

  -- the agent acts itself
  module _ (run : Run) (c : agent_calls.Call) (long : length run.agent_pasts ≡ length s.hosts) where
    abbrev more : List (Stamped Step)
    more = with_transition (agent_past_at run m) (transition_of me (k run) (now_in s run) c)

    own_plan : HasPlan (plan_called (let x : Known = k run in x.plan) (now_in s run) c) (after_agent_transition s m own (transition_of me (k run) (now_in s run) c) run)
    own_plan =
        let inside : m < length s.hosts = slice_get_within s.hosts m (record { address = own; kind = Agent preference life room serves }) host in
        let pasts = answers_pasts s m (link_or_first s own.0) (answers_of (transition_of me (k run) (now_in s run) c).steps) (with_agent_past m more run) in
        goes_on (plan_called (let x : Known = k run in x.plan) (now_in s run) c) (with_agent_past m more run) _ pasts.1 (record {
          agents = length-set run.agent_pasts m more ∙ long;
          plan_is =
              ap (λ (l : List (Stamped Step)). let x : Known = known serves l in x.plan) (get_or-set_same run.agent_pasts m more [] (omega (arith, long, inside)))
              ∙ ap (λ (x : Known). x.plan) (sym (stands-known serves more (transition_of me (k run) (now_in s run) c).known (call-stands serves (agent_past_at run m) (k run) (now_in s run) me c (stands_here serves (agent_past_at run m)))))
              ∙ call-plan me (k run) (now_in s run) c;
        })

  own_same : (plan : PrefixPlan) (run : Run) (c : agent_calls.Call) → plan_called plan (now_in s run) c ≡ plan → HasPlan plan run → HasPlan plan (after_agent_transition s m own (transition_of me (k run) (now_in s run) c) run)
  own_same plan run c same h =
      subst (λ (p : PrefixPlan). HasPlan p (after_agent_transition s m own (transition_of me (k run) (now_in s run) c) run))
      (ap (λ (p : PrefixPlan). plan_called p (now_in s run) c) h.plan_is ∙ same) (own_plan run c h.agents)

  mine : (plan : PrefixPlan) (call : calls.Call) (run : Run) → is_plan call ≡ false → HasPlan plan run → HasPlan plan (by_kind s m own call run (Agent preference life room serves))
  mine plan (calls.Take number shield packet) run quiet h = own_same plan run (agent_calls.Take number shield packet (claim_for (around_in run m None) packet)) refl h
  mine plan calls.Tick run quiet h = own_same plan run agent_calls.Tick refl h
  mine plan (calls.Plan valid preferred) run quiet h = absurd cc
  mine plan (calls.Hear agent rank lasts) run quiet h = own_same plan run (agent_calls.Hear agent rank lasts) refl h
  mine plan _ run quiet h = goes_on plan run (note entries.Idle run) refl h

  quiet_acts : (plan : PrefixPlan) (n : ℕ) (call : calls.Call) (run : Run) → is_plan call ≡ false → HasPlan plan run → HasPlan plan (acts s n call run)
  quiet_acts plan n call run quiet h =
      elim (cases_eq m n) as (λ _. HasPlan plan (acts s n call run)) [
        | inl same ↦ subst (λ (x : ℕ). HasPlan plan (acts s x call run)) same (subst (λ (o : Option Host). HasPlan plan (by_host s m call run o)) (sym host) (mine plan call run quiet h))
        | inr other ↦ other_acts plan n other call run h
      ]

  -- an event that neither plans nor restarts it
  module _ (plan : PrefixPlan) (event : Event) (unplans : (node : NodeId) (valid preferred : ℕ) → event ≡ events.Plan node valid preferred → m ≢ node.0)
      (lives : (node : NodeId) → event ≡ events.Restart node → m ≢ node.0) where
    called : (run : Run) (n : ℕ) (call : calls.Call) → IsBy s event run n call → HasPlan plan run → HasPlan plan (acts s n call run)
    called run n (calls.Plan valid preferred) is h = other_acts plan n (unplans (node_id n) valid preferred is) (calls.Plan valid preferred) run h
    called run n call is h = quiet_acts plan n call run refl h

    emptied_on : (n : ℕ) → m ≢ n → (run : Run) → HasPlan plan run → HasPlan plan (emptied s n run)
    emptied_on n other run h = by (slice_get s.hosts n)
      where
        of_kind : (own : Address) (kind : Kind) → HasPlan plan (emptied_by_host n run (Some (record { address = own; kind = kind })))
        of_kind own (Correspondent room) = goes_on plan run (with_past n [] run) refl h
        of_kind own (Agent preference life room serves) = other_past plan n other [] run h
        of_kind own (Mobile agent) = h

        by : (o : Option Host) → HasPlan plan (emptied_by_host n run o)
        by None = h
        by (Some x) = of_kind x.address x.kind

    change : (a b : Run) → Change s event a b → HasPlan plan a → HasPlan plan b
    change _ _ (left run e is) h = goes_on plan run (note e run) refl h
    change _ _ (comes run u wait early) h = goes_on plan run (note (entries.At (record { 0 = u })) run) refl h
    change _ _ (injects run o link packet is) h = record { agents = h.agents; plan_is = h.plan_is }
    change _ _ (drops run number) h = record { agents = h.agents; plan_is = h.plan_is }
    change _ _ (squats run o address so) h = keeps_claims s (HasPlan plan) (idle plan) (holder_outside o) address run (λ link holder. goes_on plan run _ refl h) h
    change _ _ (yields run o address so) h = keeps_gives_up s (HasPlan plan) (idle plan) (holder_outside o) address run h
    change _ _ (acted run n call is) h = called run n call is h
    change _ _ (moved run node link so is) h =
        goes_on plan (acts s node.0 calls.Leave run) (note (entries.Moved node link) (acts s node.0 calls.Leave run)) refl (quiet_acts plan node.0 calls.Leave run refl h)
    change _ _ (reborn run node so is) h =
        goes_on plan (emptied s node.0 run) (note (entries.Restarted node) (emptied s node.0 run)) refl (emptied_on node.0 (lives node so) run h)
    change _ _ (gives run node address so within) h = keeps_gives_up s (HasPlan plan) (idle plan) node.0 address run h
    change _ _ (renewed run node secrets so is life') h =
        quiet_acts plan node.0 (calls.Restart secrets) (note (entries.Restarted node) run) refl (goes_on plan run (note (entries.Restarted node) run) refl h)

    event_on : (run : Run) → HasPlan plan run → HasPlan plan (happens s run event)
    event_on run h = happens_keeps s (HasPlan plan) run event change h

  -- what an event makes of the plan that it keeps
  abbrev plan_then : ℕ → PrefixPlan → Event → PrefixPlan
  plan_then now plan (events.Plan node valid preferred) = if m == node.0 then record { valid = valid; preferred = preferred; since = record { 0 = now } } else plan
  plan_then now plan (events.Restart node) = if m == node.0 then endless else plan
  plan_then now plan _ = plan

  -- it is given a plan
  plans_mine : (plan : PrefixPlan) (run : Run) (valid preferred : ℕ) → HasPlan plan run
      → HasPlan (record { valid = valid; preferred = preferred; since = record { 0 = now_in s run } }) (acts s m (calls.Plan valid preferred) run)
  plans_mine plan run valid preferred h =
      subst (λ (o : Option Host). HasPlan (record { valid = valid; preferred = preferred; since = record { 0 = now_in s run } }) (by_host s m (calls.Plan valid preferred) run o)) (sym host)
      (own_plan run (agent_calls.Plan valid preferred) h.agents)

  -- it restarts
  homes_on : (plan : PrefixPlan) (rows : List HomeRow) (run : Run) → HasPlan plan run → HasPlan plan (homes_left s m rows run)
  unfolding homes_left
  homes_on plan [] run h = h
  homes_on plan (r ∷ rows) run h = homes_on plan rows (gives_up s m r.home run) (keeps_gives_up s (HasPlan plan) (idle plan) m r.home run h)

  restarts_mine : (plan : PrefixPlan) (run : Run) → HasPlan plan run → HasPlan endless (restarted s run m)
  unfolding restarted
  restarts_mine plan run h =
      let inside : m < length s.hosts = slice_get_within s.hosts m (record { address = own; kind = Agent preference life room serves }) host in
      let long : length run.agent_pasts ≡ length s.hosts = h.agents in
      subst (λ (o : Option Host). HasPlan endless (reborn_by_host s m run o)) (sym host)
      (homes_on endless (rows_at (now_in s run) (agent_known_in run m serves).homes) (note (entries.Restarted (node_id m)) (with_agent_past m [] run)) (record {
        agents = length-set run.agent_pasts m [] ∙ long;
        plan_is = ap (λ (l : List (Stamped Step)). let x : Known = known serves l in x.plan) (get_or-set_same run.agent_pasts m [] [] (omega (arith, long, inside))) ∙ fresh_plan serves;
      }))

  event_plan : (plan : PrefixPlan) (run : Run) (e : Event) → HasPlan plan run → HasPlan (plan_then (now_in s run) plan e) (happens s run e)
  event_plan plan run (events.Plan node valid preferred) h =
      elim (cases_eq m node.0) as (λ _. HasPlan (plan_then (now_in s run) plan (events.Plan node valid preferred)) (happens s run (events.Plan node valid preferred))) [
        | inl same ↦
            let new : PrefixPlan = record { valid = valid; preferred = preferred; since = record { 0 = now_in s run } } in
            subst (λ (b : Bool). HasPlan (if b then new else plan) (acts s node.0 (calls.Plan valid preferred) run)) (sym (eq-eqb m node.0 same))
            (subst (λ (x : ℕ). HasPlan new (acts s x (calls.Plan valid preferred) run)) same (plans_mine plan run valid preferred h))
        | inr other ↦
            subst (λ (b : Bool). HasPlan (if b then record { valid = valid; preferred = preferred; since = record { 0 = now_in s run } } else plan) (acts s node.0 (calls.Plan valid preferred) run)) (sym (ne_eqb m node.0 other))
            (other_acts plan node.0 other (calls.Plan valid preferred) run h)
      ]
  event_plan plan run (events.Restart node) h =
      elim (cases_eq m node.0) as (λ _. HasPlan (plan_then (now_in s run) plan (events.Restart node)) (happens s run (events.Restart node))) [
        | inl same ↦
            subst (λ (b : Bool). HasPlan (if b then endless else plan) (restarted s run node.0)) (sym (eq-eqb m node.0 same))
            (subst (λ (x : ℕ). HasPlan endless (restarted s run x)) same (restarts_mine plan run h))
        | inr other ↦
            subst (λ (b : Bool). HasPlan (if b then endless else plan) (restarted s run node.0)) (sym (ne_eqb m node.0 other))
            (event_on plan (events.Restart node) (λ n valid preferred is. absurd cc) (λ n is same. other (let at : node ≡ n = cc in same ∙ ap (λ (x : NodeId). x.0) (sym at))) run h)
      ]
  event_plan plan run e h = event_on plan e (λ n valid preferred is. absurd cc) (λ n is. absurd cc) run h

  -- the plan that is asked goes on as the one that is kept
  module _ (start : Moment) where
    same_then : (now : ℕ) (p : Planned) (kept : PrefixPlan) (e : Event) → p.at ≡ record { 0 = now } → IsSamePlan start p.plan kept → IsSamePlan start (plan_behind start m p e) (plan_then now kept e)
    same_then now p kept (events.Plan node valid preferred) at same = by (m == node.0)
      where
        by : (b : Bool) → IsSamePlan start (if b then record { valid = valid; preferred = preferred; since = p.at } else p.plan) (if b then record { valid = valid; preferred = preferred; since = record { 0 = now } } else kept)
        by true = inl (ap (λ (t : Moment). record { valid = valid; preferred = preferred; since = t }) at)
        by false = same
    same_then now p kept (events.Restart node) at same = by (m == node.0)
      where
        by : (b : Bool) → IsSamePlan start (if b then endless_since start else p.plan) (if b then endless else kept)
        by true = inr (refl, refl)
        by false = same
    same_then now p kept e at same = same

  abbrev start : Moment
  start = record { 0 = s.start }

  record IsAsked (es : List Event) : Type 0 where
    at : (let p : Planned = plan_told start m es in p.at) ≡ record { 0 = now_in s (run_of s es) }
    kept : PrefixPlan
    has : HasPlan kept (run_of s es)
    same : IsSamePlan start (let p : Planned = plan_told start m es in p.plan) kept

  run_push : (front : List Event) (e : Event) → run_of s (front ++ e ∷ []) ≡ happens s (run_of s front) e
  run_push front e = fold-append (λ (run : Run) (event : Event). happens s run event) (opened s) front (e ∷ [])

  told_push : (front : List Event) (e : Event) → plan_told start m (front ++ e ∷ []) ≡ planned start m (plan_told start m front) e
  told_push front e = fold-append (planned start m) (unplanned start) front (e ∷ [])

  asked_next : (front : List Event) (e : Event) → now_in s (run_of s (front ++ e ∷ [])) < 2 ^ 64 → IsAsked front → IsAsked (front ++ e ∷ [])
  asked_next front e small a = record {
    at =
        ap (λ (p : Planned). p.at) (told_push front e)
        ∙ ap (λ (t : Moment). moment_behind t (wait_of e)) a.at
        ∙ ap (λ (n : ℕ). let t : Moment = record { 0 = n } in t) (passes (now_in s (run_of s front)) (wait_of e) (now_in s (run_of s (front ++ e ∷ []))) next small);
    kept = plan_then (now_in s (run_of s front)) a.kept e;
    has = subst (HasPlan (plan_then (now_in s (run_of s front)) a.kept e)) (sym (run_push front e)) (event_plan a.kept (run_of s front) e a.has);
    same =
        subst (λ (p : Planned). IsSamePlan start p.plan (plan_then (now_in s (run_of s front)) a.kept e)) (sym (told_push front e))
        (same_then start (now_in s (run_of s front)) (plan_told start m front) a.kept e a.at a.same);
  }
    where
      passes : (now wait next : ℕ) → next ≡ now + wait → next < 2 ^ 64 → min (now + wait) 18446744073709551615 ≡ next
      passes now wait next is small = omega (arith, is, small)

      next : now_in s (run_of s (front ++ e ∷ [])) ≡ now_in s (run_of s front) + wait_of e
      next =
          now_next s front (e ∷ [])
          ∙ ap (λ (w : ℕ). now_in s (run_of s front) + w) (let one : sum_by waited_by (e ∷ []) ≡ waited_by e = omega arith in one ∙ sym (wait_same e))

  asked_from : (front rest : List Event) → now_in s (run_of s (front ++ rest)) < 2 ^ 64 → IsAsked front → IsAsked (front ++ rest)
  asked_from front [] small a = subst IsAsked (sym (append-nil front)) a
  asked_from front (e ∷ rest) small a =
      let whole : front ++ e ∷ rest ≡ (front ++ e ∷ []) ++ rest = sym (append_assoc front (e ∷ []) rest) in
      let all : now_in s (run_of s ((front ++ e ∷ []) ++ rest)) < 2 ^ 64 = subst (λ (es : List Event). now_in s (run_of s es) < 2 ^ 64) whole small in
      let sum = now_next s (front ++ e ∷ []) rest in
      subst IsAsked (sym whole) (asked_from (front ++ e ∷ []) rest all (asked_next front e (omega (arith, all, sum)) a))

  asked_first : IsAsked []
  asked_first = record {
    at = refl_at;
    kept = endless;
    has = record {
      agents = length-map s.hosts (λ (h : Host). let l : List (Stamped Step) = [] in l);
      plan_is = ap (λ (l : List (Stamped Step)). let x : Known = known serves l in x.plan) (no_past s.hosts m) ∙ fresh_plan serves;
    };
    same = inr (refl, refl);
  }
    where
      refl_at : start ≡ record { 0 = now_in s (run_of s []) }
      refl_at = ap (λ (n : ℕ). let t : Moment = record { 0 = n } in t) (let e = now_is s [] in let none : sum_by waited_by [] ≡ 0 = omega arith in omega (arith, e, none))

  -- what is left of the lifetimes is the same
  left_same : (asked kept : PrefixPlan) (now : ℕ) → IsSamePlan start asked kept
      → (left_of asked.valid asked.since.0 now ≡ left_of kept.valid kept.since.0 now) × (left_of asked.preferred asked.since.0 now ≡ left_of kept.preferred kept.since.0 now)
  left_same asked kept now (inl same) =
      (ap (λ (p : PrefixPlan). left_of p.valid p.since.0 now) same, ap (λ (p : PrefixPlan). left_of p.preferred p.since.0 now) same)
  left_same asked kept now (inr both) = (
    ap (λ (p : PrefixPlan). left_of p.valid p.since.0 now) both.0 ∙ sym (ap (λ (p : PrefixPlan). left_of p.valid p.since.0 now) both.1),
    ap (λ (p : PrefixPlan). left_of p.preferred p.since.0 now) both.0 ∙ sym (ap (λ (p : PrefixPlan). left_of p.preferred p.since.0 now) both.1),
  )

  pub planned_as_told : (es : List Event) → now_in s (run_of s es) < 2 ^ 64 → IsPlannedAsAsked start (let p : Planned = plan_told start m es in p.plan) (agent_known_in (run_of s es) m serves)
  planned_as_told es small =
      let a : IsAsked es = asked_from [] es small asked_first in
      let has : HasPlan a.kept (run_of s es) = a.has in
      let same : IsSamePlan start (let p : Planned = plan_told start m es in p.plan) (let x : Known = k (run_of s es) in x.plan) =
      subst (λ (p : PrefixPlan). IsSamePlan start (let q : Planned = plan_told start m es in q.plan) p) (sym has.plan_is) a.same in
      record {
        same = same;
        valid = λ now. (let b = left_same (let p : Planned = plan_told start m es in p.plan) (let x : Known = k (run_of s es) in x.plan) now same in b.0);
        preferred = λ now. (let b = left_same (let p : Planned = plan_told start m es in p.plan) (let x : Known = k (run_of s es) in x.plan) now same in b.1);
      }
