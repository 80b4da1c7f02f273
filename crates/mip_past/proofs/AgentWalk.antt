-- A question of a home agent is a fold over the entries of a run, with what joins its answer to what the agent knows. Where each entry and each step keeps them joined, so does
-- whatever happens in a run.
use Rattle.std.proofs.Common.{◌≡◌, ◌≢◌, ℕ, zero, suc, ◌<◌, ◌≤◌, List, [], ◌∷◌, Bool, true, false, length, inl, inr, refl, sym, ap, ◌∙◌, subst, arith, length-set}
use Rattle.std.specs.Prelude.{fold, map, Option, Some, None, ◌==◌, if◌then◌else◌, slice_get, slice_set, slice_index_or}
use Rattle.std.proofs.lemmas.Bool.{cases_eq}
use Rattle.std.proofs.lemmas.List.{length-map, get_or-set_same, get_or-set_other}
use Rattle.std.proofs.lemmas.List.Sums.{fold-append}
use Rattle.std.proofs.lemmas.Option.{slice_get_within}
use Rattle.mip_words.specs.declared.address.Address.{Address}
use Rattle.mip_words.specs.declared.ids.LinkId.{LinkId}
use Rattle.mip_entries.specs.declared.answer.Answer.{Answer}
use Rattle.mip_entries.specs.declared.entry.Entry.{Entry}
use Rattle.mip_entries.specs.declared.entry.Entry.TheVariants as entries
use Rattle.mip_entries.specs.Completed.{node_id}
use Rattle.mip_entries.specs.Stamped.{Stamped}
use Rattle.mip_entries.specs.Transitions.{noted_by, StandsBy}
use Rattle.mip_rules_correspondent.specs.Calls as correspondent_calls
use Rattle.mip_rules_agent.specs.declared.identity.Identity.{Identity}
use Rattle.mip_rules_agent.specs.Known.{Known}
use Rattle.mip_rules_agent.specs.Calls as agent_calls
use Rattle.mip_rules_agent.specs.Calls.{claim_for}
use Rattle.mip_rules_agent.specs.Steps.{Step, Called, Sends, Registers, Claims, Releases, Denies, Drops, Rang, answers_of, is_call}
use Rattle.mip_rules_agent.specs.Questions.{after, fresh, known}
use Rattle.mip_rules_agent.specs.Transitions.{Transition, begun, noted, Stands, with_transition}
use Rattle.mip_rules_agent.specs.Doing.{does, transition_of}
use Rattle.mip_rules_agent.proofs.Walks.{every-handles}
use Rattle.mip_rules_agent.proofs.Calls.{call-stands}
use Rattle.mip_rules_agent.proofs.Pasts.{stands-known}
use Rattle.mip_rules_mobile.specs.Calls as mobile_calls
use Rattle.mip_links.specs.Table.{holder_outside}
use Rattle.mip_schedule.specs.declared.event.Event.{Event}
use Rattle.mip_schedule.specs.declared.event.Event.TheVariants.{Advertise}
use Rattle.mip_history.specs.Setup.{Setup, Host, Kind, is_mobile_kind, is_mobile_host}
use Rattle.mip_history.specs.Setup.Kind.{Correspondent, Agent, Mobile}
use Rattle.mip_history.specs.Runs.{Run, note, agent_past_at, with_past, with_agent_past, with_mobile_past}
use Rattle.mip_history.specs.Calls as calls
use Rattle.mip_history.specs.Calls.{for_correspondent, for_mobile}
use Rattle.mip_history.specs.Claims.{link_id, claims}
use Rattle.mip_history.specs.Homes.{gives_up}
use Rattle.mip_history.specs.Questions.{moment_says}
use Rattle.mip_history.specs.Knowing.{link_or_first, now_in, agent_of, agent_known_in, around_in}
use Rattle.mip_history.specs.Nodes.{after_agent_transition, answered, asks, by_kind, by_host, acts}
use Rattle.mip_history.specs.Registered.{registration_entry}
use Rattle.mip_history.specs.Advertising.{Router, router_at, hears_of_router, hears_of_node, hears_of_first, hears_of_all, agents_hear, roams_by_kind, roams_by_host, roams_on, mobile_told, mobiles_told}
use Rattle.mip_history.specs.Permitted.{opening_claims, opened, happens, run_of}
use Rattle.mip_history.proofs.Opening.{claims_none, nothing}
use Rattle.mip_history.proofs.Keeping.{emptied_by_host, emptied}
use Rattle.mip_history.proofs.Changes.{IsLeft, IsBy, Change, left, comes, injects, drops, squats, yields, acted, moved, reborn, gives, renewed, happens_keeps}
use Rattle.mip_past.proofs.Silent.{is_loud, no_moment, s-notes, s-claims, s-gives_up}
use Rattle.mip_past.proofs.Telling as telling
use Rattle.mip_past.proofs.Telling.{IsDeaf, answer_told, other_answers}

-- a registration leaves its entry, and no other step of an agent leaves one that tells of it
abbrev pub step_told : {S : Type 0} → (S → Entry → S) → (m : ℕ) → S → Step → S
step_told f m x (Registers number home b) = f x (registration_entry m home b)
step_told f m x _ = x

abbrev pub is_hear : agent_calls.Call → Bool
is_hear (agent_calls.Hear agent preference life) = true
is_hear _ = false

abbrev is_heard : calls.Call → Bool
is_heard (calls.Hear agent preference life) = true
is_heard _ = false

abbrev is_advertise : Event → Bool
is_advertise (Advertise link) = true
is_advertise _ = false

-- what agent m, which serves these homes, is asked
pub record IsQuestion (s : Setup) (m : ℕ) (serves : List Address) (S : Type 0) (f : S → Entry → S) (d : S) (R : ℕ → S → Known → Type 0) : Type 0 where
  pub deaf : IsDeaf m S f
  pub timed : (now t : ℕ) (x : S) (k : Known) → now ≤ t → R now x k → R t (f x (entries.At (record { 0 = t }))) k
  pub first : R s.start d (fresh serves)
  pub born : (now : ℕ) (x : S) (k : Known) → R now x k → R now (f x (entries.Restarted (node_id m))) (fresh serves)
  pub called : (now : ℕ) (x : S) (k : Known) (c : agent_calls.Call) → is_hear c ≡ false → R now x k → R now x (after k (record { at = now; step = Called c }))
  pub heard : (now : ℕ) (x : S) (k : Known) (link : LinkId) (other : ℕ) (r : Router) → router_at s link.0 other ≡ Some r → R now x k
      → R now (f x (entries.Advertised (node_id m) link (Some r.address))) (after k (record { at = now; step = Called (agent_calls.Hear r.address r.preference r.life) }))
  pub stepped : (now : ℕ) (x : S) (k : Known) (step : Step) → is_call step ≡ false → R now x k → R now (step_told f m x step) (after k (record { at = now; step = step }))

-- what is left by an event that is no advertisement
left_quiet : (s : Setup) (event : Event) → is_advertise event ≡ false → (run : Run) (e : Entry) → IsLeft s event run e → is_loud e ≡ false
left_quiet s event plain run entries.Idle is = refl
left_quiet s event plain run (entries.Heard k o) is = refl
left_quiet s event plain run (entries.Handed k node) is = refl
left_quiet s event plain run (entries.Gone k why) is = refl
left_quiet s event plain run (entries.Lost k) is = refl
left_quiet s event plain run (entries.Listening o link) is = refl
left_quiet s event plain run (entries.Deafened o link) is = refl
left_quiet s event plain run (entries.Settled a b value) is = refl
left_quiet s event plain run (entries.Advertised node link router) is = absurd (let both : true ≡ false = sym (ap is_advertise is.0) ∙ plain in cc)
left_quiet s event plain run (entries.Row node home number careof sequence end kept) is = refl
left_quiet s event plain run _ is = absurd is

not_heard : (s : Setup) (event : Event) → is_advertise event ≡ false → (run : Run) (n : ℕ) (call : calls.Call) → IsBy s event run n call → is_heard call ≡ false
not_heard s event plain run n (calls.Hear agent preference life) is = absurd (let both : true ≡ false = sym (ap is_advertise is.1) ∙ plain in cc)
not_heard s event plain run n _ is = refl

roams_mobile : (s : Setup) (run : Run) (link n : ℕ) → roams_on s run link n ≡ true → is_mobile_host (slice_get s.hosts n) ≡ true
roams_mobile s run link n = by (slice_get s.hosts n)
  where
    of_kind : (own : Address) (kind : Kind) → roams_by_kind s run link n own kind ≡ true → is_mobile_kind kind ≡ true
    of_kind own (Correspondent room) e = absurd cc
    of_kind own (Agent preference life room serves) e = absurd cc
    of_kind own (Mobile agent) e = refl

    by : (o : Option Host) → roams_by_host s run link n o ≡ true → is_mobile_host o ≡ true
    by None e = absurd cc
    by (Some host) e = of_kind host.address host.kind e

pub no_past : (hosts : List Host) (n : ℕ) → slice_index_or (map (λ (host : Host). let l : List (Stamped Step) = [] in l) hosts) n [] ≡ []
no_past [] n = refl
no_past (host ∷ hosts) zero = refl
no_past (host ∷ hosts) (suc n) = no_past hosts n

pub known_fresh : (serves : List Address) → known serves [] ≡ fresh serves
unfolding known
known_fresh serves = refl

pub stands_here : (serves : List Address) (past : List (Stamped Step)) → Stands serves past (known serves past)
unfolding known StandsBy
stands_here serves past = refl

module _ (s : Setup) (m : ℕ) (own : Address) (preference life room : ℕ) (serves : List Address)
    (host : slice_get s.hosts m ≡ Some (record { address = own; kind = Agent preference life room serves }))
    (S : Type 0) (f : S → Entry → S) (d : S) (R : ℕ → S → Known → Type 0) (q : IsQuestion s m serves S f d R) where
  abbrev told : Run → S
  told run = fold f d run.past

  abbrev k : Run → Known
  k run = agent_known_in run m serves

  abbrev Seen : ℕ → S → List (List (Stamped Step)) → Run → Type 0
  Seen now x pasts run = telling.Seen s S f d now x pasts run

  -- what is told and what is known are joined
  pub record IsTold (run : Run) : Type 0 where
    pub agents : length run.agent_pasts ≡ length s.hosts
    pub joined : R (now_in s run) (told run) (k run)

  joined_from : (now : ℕ) (x : S) (pasts : List (List (Stamped Step))) (run : Run) → length pasts ≡ length s.hosts → R now x (known serves (slice_index_or pasts m [])) → Seen now x pasts run → IsTold run
  joined_from now x pasts run long joined seen = record {
    agents = ap (λ (l : List (List (Stamped Step))). length l) seen.pasts_are ∙ long;
    joined =
        subst (λ (t : ℕ). R t (told run) (k run)) (sym seen.at)
        (subst (λ (y : S). R now y (k run)) (sym seen.told_is)
        (subst (λ (l : List (List (Stamped Step))). R now x (known serves (slice_index_or l m []))) (sym seen.pasts_are) joined));
  }

  quietly : (run next : Run) → IsTold run → Seen (now_in s run) (told run) run.agent_pasts next → IsTold next
  quietly run next t seen = joined_from (now_in s run) (told run) run.agent_pasts next t.agents t.joined seen

  deaf_to : (x : S) (e : Entry) → is_loud e ≡ false → f x e ≡ x
  deaf_to x e quiet = let deaf = q.deaf in deaf.silent x e quiet

  keep : (run r : Run) (e : Entry) → is_loud e ≡ false → Seen (now_in s run) (told run) run.agent_pasts r → Seen (now_in s run) (told run) run.agent_pasts (note e r)
  keep run r e quiet seen = telling.seen_quiet s S f d deaf_to (now_in s run) run.agent_pasts (told run) r e quiet seen

  -- an entry that tells it nothing
  one_entry : (run : Run) (e : Entry) → moment_says e ≡ None → f (told run) e ≡ told run → IsTold run → IsTold (note e run)
  one_entry run e quiet same t = quietly run (note e run) t (telling.seen_entry s S f d (now_in s run) (told run) (told run) run.agent_pasts e run quiet same (telling.seen_here s S f d run))

  silent_entry : (run : Run) (e : Entry) → is_loud e ≡ false → IsTold run → IsTold (note e run)
  silent_entry run e quiet t = one_entry run e (no_moment e quiet) (deaf_to (told run) e quiet) t

  not_mobile : (n : ℕ) → is_mobile_host (slice_get s.hosts n) ≡ true → m ≢ n
  not_mobile n is same =
      absurd (let both : false ≡ true = sym (ap is_mobile_host host) ∙ ap (λ (x : ℕ). is_mobile_host (slice_get s.hosts x)) same ∙ is in cc)

  -- what another node does
  module _ (n : ℕ) (other : m ≢ n) where
    other_goes : (from : ℕ) (answers : List Answer) (run : Run) → IsTold run → IsTold (answered s n from run answers)
    other_goes from answers run t =
        quietly run (answered s n from run answers) t
        (subst (λ (y : S). Seen (now_in s run) y run.agent_pasts (answered s n from run answers)) (other_answers m S f q.deaf n other (told run) answers)
        (telling.seen_answers s S f d deaf_to (now_in s run) run.agent_pasts (told run) n from answers run (telling.seen_here s S f d run)))

    other_past : (past : List (Stamped Step)) (run : Run) → IsTold run → IsTold (with_agent_past n past run)
    other_past past run t = record {
      agents = length-set run.agent_pasts n past ∙ t.agents;
      joined = subst (λ (l : List (Stamped Step)). R (now_in s run) (told run) (known serves l)) (sym (get_or-set_other run.agent_pasts n m past [] other)) t.joined;
    }

    other_asks : {C : Type 0} (does : C → Run → Run) (call : Option C) (run : Run) → IsTold run → ((c : C) → IsTold (does c run)) → IsTold (asks does call run)
    other_asks does None run t go = silent_entry run entries.Idle refl t
    other_asks does (Some call) run t go = go call

    other_kind : (at : Address) (call : calls.Call) (run : Run) → IsTold run → (kind : Kind) → IsTold (by_kind s n at call run kind)
    other_kind at call run t (Correspondent places) =
        other_asks _ (for_correspondent call) run t (λ (c : correspondent_calls.Call). other_goes _ _ (with_past n _ run) (record { agents = t.agents; joined = t.joined }))
    other_kind at call run t (Agent rank lasts places homes) =
        other_asks _ (calls.for_agent (around_in run n None) call) run t (λ (c : agent_calls.Call). other_goes _ _ (with_agent_past n _ run) (other_past _ run t))
    other_kind at call run t (Mobile agent) =
        other_asks _ (for_mobile (around_in run n (Some at.0)) at call) run t (λ (c : mobile_calls.Call). other_goes _ _ (with_mobile_past n _ run) (record { agents = t.agents; joined = t.joined }))

    other_acts : (call : calls.Call) (run : Run) → IsTold run → IsTold (acts s n call run)
    other_acts call run t = by (slice_get s.hosts n)
      where
        by : (o : Option Host) → IsTold (by_host s n call run o)
        by None = silent_entry run entries.Idle refl t
        by (Some host) = other_kind host.address call run t host.kind

  -- what it does itself
  abbrev me : Identity
  me = agent_of own preference life room

  module _ (now : ℕ) (x : S) where
    record Follows (t : Transition) : Type 0 where
      now_is : t.now ≡ now
      joined : R now (fold (step_told f m) x t.steps) t.known

    follows_step : (step : Step) (t : Transition) → is_call step ≡ false → Follows t → Follows (noted step t)
    unfolding noted_by
    follows_step step t silent is = record {
      now_is = is.now_is;
      joined =
          subst (λ (y : S). R now y (after t.known (record { at = t.now; step = step }))) (sym (fold-append (step_told f m) x t.steps (step ∷ [])))
          (subst (λ (at : ℕ). R now (step_told f m (fold (step_told f m) x t.steps) step) (after t.known (record { at = at; step = step }))) (sym is.now_is)
          (q.stepped now (fold (step_told f m) x t.steps) t.known step silent is.joined));
    }

    follows_first : (known : Known) (c : agent_calls.Call) → R now x (after known (record { at = now; step = Called c })) → Follows (noted (Called c) (begun now known))
    unfolding noted_by
    follows_first known c joined = record { now_is = refl; joined = joined }

    follows : (known : Known) (c : agent_calls.Call) → R now x (after known (record { at = now; step = Called c })) → Follows (transition_of me known now c)
    unfolding does
    follows known c joined = every-handles me Follows c (λ step t silent sends is. follows_step step t silent is) (noted (Called c) (begun now known)) (follows_first known c joined)

  own_answers : (x : S) (steps : List Step) → fold (answer_told f m) x (answers_of steps) ≡ fold (step_told f m) x steps
  own_answers x [] = refl
  own_answers x (Called call ∷ steps) = own_answers x steps
  own_answers x (Sends shield packet ∷ steps) = own_answers x steps
  own_answers x (Registers number home b ∷ steps) = own_answers (f x (registration_entry m home b)) steps
  own_answers x (Claims home ∷ steps) = own_answers x steps
  own_answers x (Releases home ∷ steps) = own_answers x steps
  own_answers x (Denies number status ∷ steps) = own_answers x steps
  own_answers x (Drops number why ∷ steps) = own_answers x steps
  own_answers x (Rang ∷ steps) = own_answers x steps

  module _ (run : Run) (c : agent_calls.Call) (long : length run.agent_pasts ≡ length s.hosts)
      (joined : R (now_in s run) (told run) (after (k run) (record { at = now_in s run; step = Called c }))) where
    abbrev t : Transition
    t = transition_of me (k run) (now_in s run) c

    abbrev more : List (Stamped Step)
    more = with_transition (agent_past_at run m) t

    here : slice_index_or (slice_set run.agent_pasts m more) m [] ≡ more
    here =
        let inside : m < length s.hosts = slice_get_within s.hosts m (record { address = own; kind = Agent preference life room serves }) host in
        get_or-set_same run.agent_pasts m more [] (omega (arith, long, inside))

    known_then : known serves more ≡ t.known
    known_then = sym (stands-known serves more t.known (call-stands serves (agent_past_at run m) (k run) (now_in s run) me c (stands_here serves (agent_past_at run m))))

    own_call : IsTold (after_agent_transition s m own t run)
    own_call =
        let is : Follows (now_in s run) (told run) t = follows (now_in s run) (told run) (k run) c joined in
        joined_from (now_in s run) (fold (step_told f m) (told run) t.steps) (slice_set run.agent_pasts m more) _ (length-set run.agent_pasts m more ∙ long)
        (subst (λ (l : List (Stamped Step)). R (now_in s run) (fold (step_told f m) (told run) t.steps) (known serves l)) (sym here)
        (subst (λ (l : Known). R (now_in s run) (fold (step_told f m) (told run) t.steps) l) (sym known_then) is.joined))
        (subst (λ (y : S). Seen (now_in s run) y (slice_set run.agent_pasts m more) (after_agent_transition s m own t run)) (own_answers (told run) t.steps)
        (telling.seen_answers s S f d deaf_to (now_in s run) (slice_set run.agent_pasts m more) (told run) m (link_or_first s own.0) (answers_of t.steps) (with_agent_past m more run)
        (record { at = refl; told_is = refl; pasts_are = refl })))

  mine : (call : calls.Call) (run : Run) → is_heard call ≡ false → IsTold run → IsTold (by_kind s m own call run (Agent preference life room serves))
  mine (calls.Take number shield packet) run quiet t =
      let c = agent_calls.Take number shield packet (claim_for (around_in run m None) packet) in
      own_call run c t.agents (q.called (now_in s run) (told run) (k run) c refl t.joined)
  mine calls.Tick run quiet t = own_call run agent_calls.Tick t.agents (q.called (now_in s run) (told run) (k run) agent_calls.Tick refl t.joined)
  mine (calls.Plan valid preferred) run quiet t =
      own_call run (agent_calls.Plan valid preferred) t.agents (q.called (now_in s run) (told run) (k run) (agent_calls.Plan valid preferred) refl t.joined)
  mine (calls.Hear agent rank lasts) run quiet t = absurd cc
  mine _ run quiet t = silent_entry run entries.Idle refl t

  told_acts : (n : ℕ) (call : calls.Call) (run : Run) → is_heard call ≡ false → IsTold run → IsTold (acts s n call run)
  told_acts n call run quiet t =
      elim (cases_eq m n) as (λ _. IsTold (acts s n call run)) [
        | inl same ↦ subst (λ (x : ℕ). IsTold (acts s x call run)) same (subst (λ (o : Option Host). IsTold (by_host s m call run o)) (sym host) (mine call run quiet t))
        | inr other ↦ other_acts n other call run t
      ]

  -- it hears of another agent
  module _ (link : LinkId) (g : ℕ) (r : Router) (at : router_at s link.0 g ≡ Some r) (run : Run) (t : IsTold run) where
    abbrev advert : ℕ → Entry
    advert n = entries.Advertised (node_id n) link (Some r.address)

    heard_mine : IsTold (by_kind s m own (calls.Hear r.address r.preference r.life) (note (advert m) run) (Agent preference life room serves))
    heard_mine =
        own_call (note (advert m) run) (agent_calls.Hear r.address r.preference r.life) t.agents
        (subst (λ (now : ℕ). R now (told (note (advert m) run)) (after (k run) (record { at = now; step = Called (agent_calls.Hear r.address r.preference r.life) }))) (sym (telling.now_push s S f d run (advert m)))
        (subst (λ (y : S). R (now_in s run) y (after (k run) (record { at = now_in s run; step = Called (agent_calls.Hear r.address r.preference r.life) }))) (sym (telling.told_push s S f d run (advert m)))
        (q.heard (now_in s run) (told run) (k run) link g r at t.joined)))

    told_heard : (n : ℕ) → IsTold (acts s n (calls.Hear r.address r.preference r.life) (note (advert n) run))
    told_heard n =
        elim (cases_eq m n) as (λ _. IsTold (acts s n (calls.Hear r.address r.preference r.life) (note (advert n) run))) [
          | inl same ↦
              subst (λ (x : ℕ). IsTold (acts s x (calls.Hear r.address r.preference r.life) (note (advert x) run))) same
              (subst (λ (o : Option Host). IsTold (by_host s m (calls.Hear r.address r.preference r.life) (note (advert m) run) o)) (sym host) heard_mine)
          | inr other ↦
              let deaf = q.deaf in
              other_acts n other (calls.Hear r.address r.preference r.life) (note (advert n) run)
              (one_entry run (advert n) refl (deaf.advert (told run) n link (Some r.address) other) t)
        ]

  module _ (link : LinkId) where
    told_router : (n g : ℕ) (run : Run) (o : Option Router) → router_at s link.0 g ≡ o → IsTold run → IsTold (hears_of_router s link.0 n run o)
    told_router n g run None is t = t
    told_router n g run (Some r) is t = told_heard link g r is run t n

    told_node : (n g : ℕ) (run : Run) → IsTold run → IsTold (hears_of_node s link.0 n g run)
    told_node n g run t = by (g == n)
      where
        by : (b : Bool) → IsTold (if b then run else hears_of_router s link.0 n run (router_at s link.0 g))
        by true = t
        by false = told_router n g run (router_at s link.0 g) refl t

    told_first : (n g : ℕ) (run : Run) → IsTold run → IsTold (hears_of_first s link.0 n g run)
    unfolding hears_of_first
    told_first n zero run t = t
    told_first n (suc g) run t = told_node n g (hears_of_first s link.0 n g run) (told_first n g run t)

    told_all : (n : ℕ) (run : Run) (o : Option Router) → IsTold run → IsTold (hears_of_all s link.0 n run o)
    told_all n run None t = t
    told_all n run (Some r) t = told_first n (length s.hosts) run t

    told_agents : (n : ℕ) (run : Run) → IsTold run → IsTold (agents_hear s link.0 n run)
    unfolding agents_hear
    told_agents zero run t = t
    told_agents (suc n) run t = told_all n (agents_hear s link.0 n run) (router_at s link.0 n) (told_agents n run t)

    told_mobile : (n : ℕ) (run : Run) → IsTold run → IsTold (mobile_told s link.0 n run)
    told_mobile n run t = by (roams_on s run link.0 n) refl
      where
        by : (b : Bool) → roams_on s run link.0 n ≡ b
            → IsTold (if b then acts s n (calls.Attach (slice_index_or s.links link.0 0)) (note (entries.Advertised (node_id n) (link_id link.0) None) run) else run)
        by true is =
            let other : m ≢ n = not_mobile n (roams_mobile s run link.0 n is) in
            let deaf = q.deaf in
            other_acts n other (calls.Attach (slice_index_or s.links link.0 0)) (note (entries.Advertised (node_id n) (link_id link.0) None) run)
            (one_entry run (entries.Advertised (node_id n) (link_id link.0) None) refl (deaf.advert (told run) n (link_id link.0) None other) t)
        by false is = t

    told_mobiles : (n : ℕ) (run : Run) → IsTold run → IsTold (mobiles_told s link.0 n run)
    unfolding mobiles_told
    told_mobiles zero run t = t
    told_mobiles (suc n) run t = told_mobile n (mobiles_told s link.0 n run) (told_mobiles n run t)

  -- a node begins its next life
  born_mine : (run : Run) → IsTold run → IsTold (note (entries.Restarted (node_id m)) (emptied_by_host m run (Some (record { address = own; kind = Agent preference life room serves }))))
  born_mine run t =
      let next : Run = with_agent_past m [] run in
      let inside : m < length s.hosts = slice_get_within s.hosts m (record { address = own; kind = Agent preference life room serves }) host in
      let long : length run.agent_pasts ≡ length s.hosts = t.agents in
      joined_from (now_in s run) (f (told run) (entries.Restarted (node_id m))) (slice_set run.agent_pasts m []) (note (entries.Restarted (node_id m)) next) (length-set run.agent_pasts m [] ∙ long)
      (subst (λ (l : List (Stamped Step)). R (now_in s run) (f (told run) (entries.Restarted (node_id m))) (known serves l)) (sym (get_or-set_same run.agent_pasts m [] [] (omega (arith, long, inside))))
      (subst (λ (l : Known). R (now_in s run) (f (told run) (entries.Restarted (node_id m))) l) (sym (known_fresh serves)) (q.born (now_in s run) (told run) (k run) t.joined)))
      (telling.seen_entry s S f d (now_in s run) (told run) (f (told run) (entries.Restarted (node_id m))) (slice_set run.agent_pasts m []) (entries.Restarted (node_id m)) next refl refl
      (record { at = refl; told_is = refl; pasts_are = refl }))

  emptied_other : (n : ℕ) → m ≢ n → (run : Run) → IsTold run → IsTold (emptied s n run)
  emptied_other n other run t = by (slice_get s.hosts n)
    where
      of_kind : (own : Address) (kind : Kind) → IsTold (emptied_by_host n run (Some (record { address = own; kind = kind })))
      of_kind own (Correspondent room) = record { agents = t.agents; joined = t.joined }
      of_kind own (Agent preference life room serves) = other_past n other [] run t
      of_kind own (Mobile agent) = t

      by : (o : Option Host) → IsTold (emptied_by_host n run o)
      by None = t
      by (Some host) = of_kind host.address host.kind

  told_reborn : (n : ℕ) (run : Run) → IsTold run → IsTold (note (entries.Restarted (node_id n)) (emptied s n run))
  told_reborn n run t =
      elim (cases_eq m n) as (λ _. IsTold (note (entries.Restarted (node_id n)) (emptied s n run))) [
        | inl same ↦
            subst (λ (x : ℕ). IsTold (note (entries.Restarted (node_id x)) (emptied s x run))) same
            (subst (λ (o : Option Host). IsTold (note (entries.Restarted (node_id m)) (emptied_by_host m run o))) (sym host) (born_mine run t))
        | inr other ↦
            let deaf = q.deaf in
            one_entry (emptied s n run) (entries.Restarted (node_id n)) refl (deaf.life (told (emptied s n run)) n other) (emptied_other n other run t)
      ]

  told_renewed : (n : ℕ) (call : calls.Call) (run : Run) → is_heard call ≡ false → is_mobile_host (slice_get s.hosts n) ≡ true → IsTold run
      → IsTold (acts s n call (note (entries.Restarted (node_id n)) run))
  told_renewed n call run quiet is t =
      let other : m ≢ n = not_mobile n is in
      let deaf = q.deaf in
      other_acts n other call (note (entries.Restarted (node_id n)) run) (one_entry run (entries.Restarted (node_id n)) refl (deaf.life (told run) n other) t)

  told_comes : (run : Run) (u : ℕ) → now_in s run ≤ u → IsTold run → IsTold (note (entries.At (record { 0 = u })) run)
  told_comes run u early t = record {
    agents = t.agents;
    joined =
        subst (λ (now : ℕ). R now (told (note (entries.At (record { 0 = u })) run)) (k run)) (sym (telling.now_push s S f d run (entries.At (record { 0 = u }))))
        (subst (λ (y : S). R u y (k run)) (sym (telling.told_push s S f d run (entries.At (record { 0 = u })))) (q.timed (now_in s run) u (told run) (k run) early t.joined));
  }

  told_gives : (who : ℕ) (address : Address) (run : Run) → IsTold run → IsTold (gives_up s who address run)
  told_gives who address run t = quietly run (gives_up s who address run) t (s-gives_up s (Seen (now_in s run) (told run) run.agent_pasts) (keep run) who address run (telling.seen_here s S f d run))

  told_claims : (who : ℕ) (address : Address) (run : Run) → IsTold run → IsTold (claims s who address run)
  told_claims who address run t = quietly run (claims s who address run) t (s-claims s (Seen (now_in s run) (told run) run.agent_pasts) (keep run) who address run (telling.seen_here s S f d run))

  change : (event : Event) → is_advertise event ≡ false → (a b : Run) → Change s event a b → IsTold a → IsTold b
  change event plain _ _ (left run e is) t = silent_entry run e (left_quiet s event plain run e is) t
  change event plain _ _ (comes run u wait early) t = told_comes run u early t
  change event plain _ _ (injects run o link packet is) t =
      let noted : IsTold (note (entries.Injected (length run.posts) o link packet) run) = silent_entry run (entries.Injected (length run.posts) o link packet) refl t in
      record { agents = noted.agents; joined = noted.joined }
  change event plain _ _ (drops run number) t = record { agents = t.agents; joined = t.joined }
  change event plain _ _ (squats run o address so) t = told_claims (holder_outside o) address run t
  change event plain _ _ (yields run o address so) t = told_gives (holder_outside o) address run t
  change event plain _ _ (acted run n call is) t = told_acts n call run (not_heard s event plain run n call is) t
  change event plain _ _ (moved run node link so is) t = silent_entry (acts s node.0 calls.Leave run) (entries.Moved node link) refl (told_acts node.0 calls.Leave run refl t)
  change event plain _ _ (reborn run node so is) t = told_reborn node.0 run t
  change event plain _ _ (gives run node address so within) t = told_gives node.0 address run t
  change event plain _ _ (renewed run node secrets so is life) t = told_renewed node.0 (calls.Restart secrets) run refl is t

  told_event : (run : Run) (event : Event) → IsTold run → IsTold (happens s run event)
  told_event run (Advertise link) t = told_mobiles link (length s.hosts) (agents_hear s link.0 (length s.hosts) run) (told_agents link (length s.hosts) run t)
  told_event run event t = happens_keeps s IsTold run event (change event refl) t

  told_events : (run : Run) (events : List Event) → IsTold run → IsTold (fold (λ run event. happens s run event) run events)
  told_events run [] t = t
  told_events run (event ∷ events) t = told_events (happens s run event) events (told_event run event t)

  told_nothing : IsTold (nothing s)
  told_nothing = record {
    agents = length-map s.hosts (λ (host : Host). let l : List (Stamped Step) = [] in l);
    joined =
        subst (λ (l : List (Stamped Step)). R s.start d (known serves l)) (sym (no_past s.hosts m))
        (subst (λ (l : Known). R s.start d l) (sym (known_fresh serves)) q.first);
  }

  told_opened : IsTold (opened s)
  told_opened =
      quietly (nothing s) (opened s) told_nothing
      (s-notes s (Seen s.start d (let run : Run = nothing s in run.agent_pasts)) (keep (nothing s)) (opening_claims s) (nothing s) (claims_none is_loud (λ who link address. refl) s.links [] s.hosts) (telling.seen_here s S f d (nothing s)))

  -- in the run of any events what is told and what is known are joined
  pub told_run : (events : List Event) → IsTold (run_of s events)
  told_run events = told_events (opened s) events told_opened
