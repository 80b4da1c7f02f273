-- Every run tells what its agents do about addresses, and each agent holds those that it has claimed.
use Rattle.std.proofs.Common.{◌≡◌, ◌≢◌, ℕ, zero, suc, ◌<◌, List, [], ◌∷◌, ◌++◌, Bool, true, false, inl, inr, length, refl, sym, ap, ◌∙◌, subst, arith, length-set}
use Rattle.std.specs.Prelude.{Option, Some, None, is_some, ◌==◌, if◌then◌else◌, slice_get, slice_set, slice_index_or, map}
use Rattle.std.specs.List.{AllByRecursion, list_any}
use Rattle.std.specs.Option.{option_map_or}
use Rattle.std.proofs.lemmas.List.{append_assoc, append-nil, length-map, get_or-set_same, get_or-set_other}
use Rattle.std.proofs.lemmas.List.Elements.{filter_map-append}
use Rattle.std.proofs.lemmas.List.Sums.{fold-append}
use Rattle.std.proofs.lemmas.Option.{slice_get_within}
use Rattle.std.proofs.lemmas.Bool.{cases_eq, eq-eqb, ne_eqb}
use Rattle.mip_words.specs.declared.address.Address.{Address}
use Rattle.mip_words.specs.declared.shield.Shield.{Shield}
use Rattle.mip_binding.specs.Rows.{find_by}
use Rattle.mip_outside.specs.declared.claim.Claim.{Claim}
use Rattle.mip_outside.specs.Places.{is_held, claim_of}
use Rattle.mip_entries.specs.declared.entry.Entry.{Entry}
use Rattle.mip_entries.specs.declared.entry.Entry.TheVariants as entries
use Rattle.mip_entries.specs.Completed.{node_id}
use Rattle.mip_entries.specs.Stamped.{Stamped, stamped}
use Rattle.mip_entries.specs.Transitions.{known_by, noted_by, StandsBy}
use Rattle.mip_entries.proofs.TransitionLaws.{none-noted}
use Rattle.mip_reception.specs.declared.registration.Registration.{Registration}
use Rattle.mip_reception.specs.Registrations.{home_of, deletes, careof_of}
use Rattle.mip_rules_agent.specs.declared.home_binding.HomeBinding.{HomeBinding}
use Rattle.mip_rules_agent.specs.declared.home_row.HomeRow.{HomeRow}
use Rattle.mip_rules_agent.specs.declared.identity.Identity.{Identity}
use Rattle.mip_rules_agent.specs.declared.ending.Ending.{Ending}
use Rattle.mip_rules_agent.specs.declared.served.Served.{Served}
use Rattle.mip_rules_agent.specs.Known.{Known}
use Rattle.mip_rules_agent.specs.Calls as agent_calls
use Rattle.mip_rules_agent.specs.Calls.{claim_for}
use Rattle.mip_rules_agent.specs.Steps.{Step, Called, Sends, Registers, Claims, Releases, Denies, Drops, Rang, answers_of}
use Rattle.mip_rules_agent.specs.Questions.{key_of, after, known, served_at, is_served, holds, due_ends, later_ends, ends_with, rows_at}
use Rattle.mip_rules_agent.specs.Pasts.{is_one_of}
use Rattle.mip_rules_agent.specs.Refusing.{is_claim}
use Rattle.mip_rules_agent.specs.Rules.{bench, claim_with, advertises}
use Rattle.mip_rules_agent.specs.Soundness.{IsSound}
use Rattle.mip_rules_agent.specs.Transitions as agent_transitions
use Rattle.mip_rules_agent.specs.Verdicts.{binding_for}
use Rattle.mip_rules_agent.specs.Doing as agent_doing
use Rattle.mip_rules_agent.specs.Doing.{transition_of}
use Rattle.mip_rules_agent.proofs.Calls.{call-stands}
use Rattle.mip_rules_agent.proofs.Pasts.{stands-known, served-same, known-served, known-held}
use Rattle.mip_rules_agent.proofs.VerdictLaws.{sound}
use Rattle.mip_links.specs.Table.{Post, holder_outside}
use Rattle.mip_schedule.specs.declared.event.Event.{Event}
use Rattle.mip_history.specs.Setup.{Setup, Host, is_mobile_host, is_mobile_at}
use Rattle.mip_history.specs.Setup.Kind.{Agent}
use Rattle.mip_history.specs.Runs.{Run, note, entered, agent_past_at, with_agent_past}
use Rattle.mip_history.specs.Questions.{holder_in}
use Rattle.mip_history.specs.Calls.{Call, Take, Tick, Plan, Hear}
use Rattle.mip_history.specs.Claims.{claims}
use Rattle.mip_history.specs.Homes.{gives_up}
use Rattle.mip_history.specs.Knowing.{link_or_first, now_in, agent_of, agent_known_in, other_than, around_in}
use Rattle.mip_history.specs.Nodes.{answered, after_agent_transition, by_kind, by_host, acts}
use Rattle.mip_history.specs.Permitted.{opened, run_of}
use Rattle.mip_history.proofs.Keeping.{keeps_gives_up}
use Rattle.mip_law_claims.specs.Claimings.{Claiming, claimings_told, is_on_link, agent_claiming, agent_claimings}
use Rattle.mip_history.proofs.Effects.{answers_pasts}
use Rattle.mip_law_claims.proofs.Acting.{acts_kept}
use Rattle.mip_law_claims.proofs.Walking.{KeepsClaims, walk_run}
use Rattle.mip_law_claims.proofs.Tables.{IsSafe, safe_other, same_holder, other_claims, other_gives_up, other_answers}
use Rattle.mip_law_claims.proofs.Updating.{claiming_steps, acknowledging_steps, by_steps, IsAccepted, taking_is}
use Rattle.mip_law_claims.proofs.Ends.{flipped, holds_after, AreApart, AreHeld, apart_with, held_with, AreReady, releasing, tick_is, released_of, ready_releasing, released_ends, later_held, later_apart, due_apart, due_held}
use Rattle.mip_law_claims.proofs.Agents.{steps_claimings, stamped_claimings, IsHeld, IsMid, mid_other, quiet_known, mid_claimed, more_told, ready_told}

-- a transition that claims and gives up nothing, and leaves the homes as they were
abbrev Stays : Known → agent_transitions.Transition → Type 0
Stays k t = (list_any is_claim t.steps ≡ false) × (t.known.homes ≡ k.homes) × (t.known.ends ≡ k.ends)

stays_sends : (k : Known) (shield : Option Shield) (packet : List ℕ) (t : agent_transitions.Transition) → Stays k t → Stays k (agent_transitions.noted (Sends shield packet) t)
unfolding noted_by after
stays_sends k shield packet t is = (none-noted after is_claim (Sends shield packet) t is.0 refl, is.1, is.2)

stays_all : (k : Known) (own : Address) (kk : Known) (now : ℕ) (rows : List HomeRow) (t : agent_transitions.Transition) → Stays k t → Stays k (agent_doing.advertises_all own kk now rows t)
unfolding advertises
stays_all k own kk now [] t is = is
stays_all k own kk now (r ∷ rows) t is = stays_all k own kk now rows (advertises own kk now r.home r.careof 0 t) (stays_sends k _ _ t is)

stays_called : (k : Known) (now : ℕ) (c : agent_calls.Call) → Stays k (agent_transitions.noted (Called c) (agent_transitions.begun now k))
unfolding noted_by after
stays_called k now c = (refl, refl, refl)

stays_plan : (me : Identity) (k : Known) (now valid preferred : ℕ) → Stays k (transition_of me k now (agent_calls.Plan valid preferred))
unfolding agent_doing.does agent_doing.plans
stays_plan me k now valid preferred =
    let t : agent_transitions.Transition = agent_transitions.noted (Called (agent_calls.Plan valid preferred)) (agent_transitions.begun now k) in
    stays_all k me.own t.known t.now (rows_at t.now t.known.homes) t (stays_called k now (agent_calls.Plan valid preferred))

stays_hear : (me : Identity) (k : Known) (now : ℕ) (agent : Address) (preference life : ℕ) → Stays k (transition_of me k now (agent_calls.Hear agent preference life))
unfolding agent_doing.does
stays_hear me k now agent preference life = stays_called k now (agent_calls.Hear agent preference life)

still_ready : (now : ℕ) (k : Known) (steps : List Step) → list_any is_claim steps ≡ false → AreReady now k steps
still_ready now k [] none = tt
still_ready now k (Called call ∷ steps) none = (tt, still_ready now (after k (record { at = now; step = Called call })) steps none)
still_ready now k (Sends shield packet ∷ steps) none = (tt, still_ready now (after k (record { at = now; step = Sends shield packet })) steps none)
still_ready now k (Registers number home b ∷ steps) none = (tt, still_ready now (after k (record { at = now; step = Registers number home b })) steps none)
still_ready now k (Claims home ∷ steps) none = absurd cc
still_ready now k (Releases home ∷ steps) none = absurd cc
still_ready now k (Denies number status ∷ steps) none = (tt, still_ready now (after k (record { at = now; step = Denies number status })) steps none)
still_ready now k (Drops number why ∷ steps) none = (tt, still_ready now (after k (record { at = now; step = Drops number why })) steps none)
still_ready now k (Rang ∷ steps) none = (tt, still_ready now (after k (record { at = now; step = Rang })) steps none)

-- the acknowledgement of an update changes nothing that is known of homes
module _ (now : ℕ) (me : Identity) (r : Registration) (granted : ℕ) where
  abbrev acked : Bool → Known → Known
  acked ack k = known_by after k (stamped now (acknowledging_steps ack me r granted))

  acked_holds : (ack : Bool) (k : Known) (x : Address) → holds (acked ack k) x ≡ holds k x
  acked_holds true k x = holds_after k now _ x
  acked_holds false k x = refl

  acked_ends : (ack : Bool) (k : Known) → (let n : Known = acked ack k in n.ends) ≡ k.ends
  unfolding after
  acked_ends true k = refl
  acked_ends false k = refl

  acked_ready : (ack : Bool) (k : Known) → AreReady now k (acknowledging_steps ack me r granted)
  acked_ready true k = (tt, tt)
  acked_ready false k = tt

-- one home agent of a run
module _ (s : Setup) (m : ℕ) (own : Address) (preference life room : ℕ) (serves : List Address)
    (host : slice_get s.hosts m ≡ Some (record { address = own; kind = Agent preference life room serves })) (node : (o : ℕ) → m ≢ holder_outside o) where
  abbrev pub none : is_mobile_at s m ≡ false
  none = ap is_mobile_host host

  -- what a past of steps and the entries tell agree
  pub record IsAgreedOn (steps : List (Stamped Step)) (past : List Entry) : Type 0 where
    pub held : IsHeld s m none (known serves steps) past
    pub had : AreHeld (known serves steps) (known serves steps).ends
    pub apart : AreApart (known serves steps).ends
    pub front : List Claiming
    pub told : claimings_told m past ≡ front ++ agent_claimings s.links steps

  pub record IsAgreed (run : Run) : Type 0 where
    pub agents : length run.agent_pasts ≡ length s.hosts
    pub on : IsAgreedOn (agent_past_at run m) run.past

  agreed_safe : (run : Run) (e : Entry) → IsSafe m run.past e → IsAgreed run → IsAgreed (note e run)
  agreed_safe run e safe h = let on = h.on in record {
    agents = h.agents;
    on = record {
      held = λ home had there. safe.held home.0 (on.held home had there);
      had = on.had;
      apart = on.apart;
      front = on.front;
      told = safe.told ∙ on.told;
    };
  }

  agreed_entered : (run : Run) (post : Post) → IsAgreed run → IsAgreed (entered post run)
  agreed_entered run post h = record { agents = h.agents; on = h.on }

  -- the past of another node
  agreed_elsewhere : (n : ℕ) (past : List (Stamped Step)) (run : Run) → m ≢ n → IsAgreed run → IsAgreed (with_agent_past n past run)
  agreed_elsewhere n past run other h = record {
    agents = length-set run.agent_pasts n past ∙ h.agents;
    on = subst (λ (l : List (Stamped Step)). IsAgreedOn l run.past) (sym (get_or-set_other run.agent_pasts n m past [] other)) h.on;
  }

  others_agreed : (n : ℕ) → m ≢ n → (from : ℕ) (answers : List _) (run : Run) → IsAgreed run → IsAgreed (answered s n from run answers)
  others_agreed n other from answers run h = other_answers s m none IsAgreed agreed_safe n (ne_eqb m n other) agreed_entered from answers run h

  -- another node acts
  other_acts : (n : ℕ) → m ≢ n → (run : Run) → IsAgreed run → (call : Call) → IsAgreed (acts s n call run)
  other_acts n other run h call =
      acts_kept s n IsAgreed (λ (r : Run) q. agreed_safe r entries.Idle (safe_other m r.past entries.Idle refl) q) (others_agreed n other) run h (λ past. record { agents = h.agents; on = h.on })
      (λ past. agreed_elsewhere n past run other h) (λ past. record { agents = h.agents; on = h.on }) call

  -- the agent itself acts
  module _ (run : Run) (h : IsAgreed run) where
    abbrev me : Identity
    me = agent_of own preference life room

    abbrev k : Known
    k = agent_known_in run m serves

    abbrev now : ℕ
    now = now_in s run

    abbrev transition : agent_calls.Call → agent_transitions.Transition
    transition c = transition_of me k now c

    abbrev past : List (Stamped Step)
    past = agent_past_at run m

    abbrev middle : agent_calls.Call → Run
    middle c = with_agent_past m (agent_transitions.with_transition past (transition c)) run

    abbrev from : ℕ
    from = link_or_first s own.0

    abbrev base : List Claiming
    base = claimings_told m run.past

    start : (c : agent_calls.Call) → IsMid s m none k base (middle c).past
    start c = let on = h.on in record { held = on.held; told = refl }

    stands : agent_transitions.Stands serves past k
    unfolding known StandsBy
    stands = refl

    known_then : (c : agent_calls.Call) → known serves (agent_transitions.with_transition past (transition c)) ≡ (transition c).known
    known_then c = sym (stands-known serves (agent_transitions.with_transition past (transition c)) (transition c).known (call-stands serves past k now me c stands))

    here : (new : List (Stamped Step)) → slice_index_or (slice_set run.agent_pasts m new) m [] ≡ new
    here new =
        let inside : m < length s.hosts = slice_get_within s.hosts m (record { address = own; kind = Agent preference life room serves }) host in
        get_or-set_same run.agent_pasts m new [] (let i = h.agents in omega (arith, i, inside))

    -- a transition by these steps
    module _ (c : agent_calls.Call) (at : ℕ) (steps : List Step) (is : transition c ≡ by_steps at k steps) where
      abbrev n : Known
      n = known_by after k (stamped at steps)

      abbrev final : Run
      final = answered s m from (middle c) (answers_of steps)

      told_then : agent_claimings s.links (agent_transitions.with_transition past (transition c)) ≡ agent_claimings s.links past ++ steps_claimings s.links steps
      told_then =
          ap (λ (u : agent_transitions.Transition). agent_claimings s.links (agent_transitions.with_transition past u)) is
          ∙ filter_map-append (λ (x : Stamped Step). agent_claiming s.links x.step) past (stamped at steps)
          ∙ ap (λ (l : List Claiming). agent_claimings s.links past ++ l) (stamped_claimings s.links at steps)

      on_transition : IsMid s m none n (base ++ steps_claimings s.links steps) final.past → AreHeld n n.ends → AreApart n.ends → IsAgreedOn (agent_transitions.with_transition past (transition c)) final.past
      on_transition mid had apart =
          let same : n ≡ known serves (agent_transitions.with_transition past (transition c)) = sym (known_then c ∙ ap (λ (u : agent_transitions.Transition). u.known) is) in
          let on = h.on in
          record {
            held = subst (λ (x : Known). IsHeld s m none x final.past) same mid.held;
            had = subst (λ (x : Known). AreHeld x x.ends) same had;
            apart = subst (λ (x : Known). AreApart x.ends) same apart;
            front = on.front;
            told = mid.told ∙ ap (λ (l : List Claiming). l ++ steps_claimings s.links steps) on.told
                ∙ append_assoc on.front (agent_claimings s.links past) (steps_claimings s.links steps)
                ∙ ap (λ (l : List Claiming). on.front ++ l) (sym told_then);
          }

      finish : IsMid s m none n (base ++ steps_claimings s.links steps) final.past → AreHeld n n.ends → AreApart n.ends → IsAgreed (after_agent_transition s m own (transition c) run)
      finish mid had apart =
          let pasts : final.agent_pasts ≡ slice_set run.agent_pasts m (agent_transitions.with_transition past (transition c)) = (answers_pasts s m from (answers_of steps) (middle c)).1 in
          let done : IsAgreed final = record {
            agents = ap (λ (l : List (List (Stamped Step))). length l) pasts ∙ length-set run.agent_pasts m (agent_transitions.with_transition past (transition c)) ∙ h.agents;
            on = subst (λ (l : List (Stamped Step)). IsAgreedOn l final.past)
                (sym (ap (λ (l : List (List (Stamped Step))). slice_index_or l m []) pasts ∙ here (agent_transitions.with_transition past (transition c)))) (on_transition mid had apart);
          } in
          subst (λ (l : List Step). IsAgreed (answered s m from (middle c) (answers_of l))) (sym (ap (λ (u : agent_transitions.Transition). u.steps) is)) done

    -- a transition is by its steps
    by_its_steps : (c : agent_calls.Call) → transition c ≡ by_steps (transition c).now k (transition c).steps
    unfolding known StandsBy
    by_its_steps c =
        ap (λ (x : Known). record { now = (transition c).now; known = x; steps = (transition c).steps })
        (call-stands serves past k now me c stands ∙ fold-append after _ past (stamped (transition c).now (transition c).steps))

    -- the agent claims and gives up nothing
    staying : (c : agent_calls.Call) → Stays k (transition c) → IsAgreed (after_agent_transition s m own (transition c) run)
    staying c is =
        let on = h.on in
        let steps : List Step = (transition c).steps in
        let at : ℕ = (transition c).now in
        let same : (transition c).known ≡ known_by after k (stamped at steps) = ap (λ (u : agent_transitions.Transition). u.known) (by_its_steps c) in
        let had : AreHeld (transition c).known k.ends = subst (λ (homes : List Served). AllByRecursion (λ (e : Ending). option_map_or (λ (x : Served). x.held) (find_by key_of e.home.0 homes) false ≡ true) k.ends) (sym is.1) on.had in
        finish c at steps (by_its_steps c) (ready_told s m none at from steps k base (middle c) (still_ready at k steps is.0) (start c))
        (subst (λ (x : Known). AreHeld x x.ends) same (subst (λ (es : List Ending). AreHeld (transition c).known es) (sym is.2) had))
        (subst (λ (x : Known). AreApart x.ends) same (subst AreApart (sym is.2) on.apart))

    -- time goes on
    called_had : (c : agent_calls.Call) (es : List Ending) → AreHeld k es → AreHeld (after k (record { at = now; step = Called c })) es
    unfolding after
    called_had c es had = had

    called_ends : (c : agent_calls.Call) → (after k (record { at = now; step = Called c })).ends ≡ k.ends
    unfolding after
    called_ends c = refl

    ticking : IsAgreed (after_agent_transition s m own (transition agent_calls.Tick) run)
    ticking =
        let on = h.on in
        let c = agent_calls.Tick in
        let k0 : Known = after k (record { at = now; step = Called c }) in
        let due : List Ending = due_ends now k.ends in
        let steps : List Step = Called c ∷ releasing due in
        let ends : (let x : Known = released_of now k0 due in x.ends) ≡ later_ends now k.ends = released_ends now due k0 ∙ ap (later_ends now) (called_ends c) in
        finish c now steps (tick_is me k now)
        (ready_told s m none now from steps k base (middle c)
        (tt, ready_releasing now due k0 (called_had c due (due_held now k k.ends on.had)) (due_apart now k.ends on.apart)) (start c))
        (subst (λ (es : List Ending). AreHeld (released_of now k0 due) es) (sym ends) (later_held now k0 k.ends on.apart (called_had c k.ends on.had)))
        (subst AreApart (sym ends) (later_apart now k.ends on.apart))

    -- an update is accepted
    module _ (number : ℕ) (shield : Option Shield) (bytes : List ℕ) where
      abbrev claim : Claim
      claim = claim_for (around_in run m None) bytes

      abbrev call : agent_calls.Call
      call = agent_calls.Take number shield bytes claim

      module _ (a : IsAccepted me k now number shield bytes claim (transition call)) where
        abbrev b : HomeBinding
        b = binding_for now a.careof a.sequence a.granted

        abbrev acks : List Step
        acks = acknowledging_steps a.update.ack me a.update a.granted

        abbrev steps : (held ends : Bool) → List Step
        steps held ends = Called call ∷ Registers number a.home b ∷ (claiming_steps held ends a.home ++ acks)

        abbrev k0 : Known
        k0 = after k (record { at = now; step = Called call })

        abbrev k1 : Known
        k1 = after k0 (record { at = now; step = Registers number a.home b })

        abbrev later : (held ends : Bool) → Known
        later held ends = known_by after k (stamped now (steps held ends))

        judged : IsSound (bench me k now a.update) shield (claim_with (holds k (home_of a.update)) claim) a.update a.home a.careof a.sequence a.granted
        judged = sound (bench me k now a.update) shield (claim_with (holds k (home_of a.update)) claim) a.update a.home a.careof a.sequence a.granted a.verdict_is

        of_home : a.home ≡ home_of a.update
        of_home = let j = judged in j.of_home

        served : is_served k1 a.home ≡ true
        served =
            let j = judged in let f = j.fit in
            served-same a.home k0 now (Registers number a.home b) ∙ served-same a.home k now (Called call) ∙ ap (is_served k) of_home ∙ f.served

        holds_k1 : (x : Address) → holds k1 x ≡ holds k x
        holds_k1 x = holds_after k0 now (Registers number a.home b) x ∙ holds_after k now (Called call) x

        -- what a deregistration registers is the home address
        at_home : deletes a.update ≡ true → (a.careof.0 == a.home.0) ≡ true
        at_home ends =
            let j = judged in
            eq-eqb a.careof.0 a.home.0
            (ap (λ (x : Address). x.0) (j.of_careof ∙ ap (λ (e : Bool). if e then home_of a.update else careof_of a.update) ends ∙ sym of_home))

        -- which addresses the agent has then
        holds_then : (held ends : Bool) (x : Address) → (a.home.0 == x.0) ≡ false → holds (later held ends) x ≡ holds k x
        holds_then true true x apart =
            acked_holds now me a.update a.granted a.update.ack (after k1 (record { at = now; step = Releases a.home })) x
            ∙ holds_after k1 now (Releases a.home) x ∙ ap (λ (same : Bool). if same then false else holds k1 x) apart ∙ holds_k1 x
        holds_then true false x apart = acked_holds now me a.update a.granted a.update.ack k1 x ∙ holds_k1 x
        holds_then false true x apart = acked_holds now me a.update a.granted a.update.ack k1 x ∙ holds_k1 x
        holds_then false false x apart =
            acked_holds now me a.update a.granted a.update.ack (after k1 (record { at = now; step = Claims a.home })) x
            ∙ holds_after k1 now (Claims a.home) x ∙ ap (λ (same : Bool). if same then is_served k1 x else holds k1 x) apart ∙ holds_k1 x

        ends_then : (held ends : Bool) → (let x : Known = later held ends in x.ends) ≡ ends_with a.home b k.ends
        unfolding after
        ends_then true true = acked_ends now me a.update a.granted a.update.ack (after k1 (record { at = now; step = Releases a.home }))
        ends_then true false = acked_ends now me a.update a.granted a.update.ack k1
        ends_then false true = acked_ends now me a.update a.granted a.update.ack k1
        ends_then false false = acked_ends now me a.update a.granted a.update.ack (after k1 (record { at = now; step = Claims a.home }))

        -- and that of the home, where its registration is to end
        holds_home : (held ends : Bool) → holds k (home_of a.update) ≡ held → deletes a.update ≡ ends → (a.careof.0 == a.home.0) ≡ false → holds (later held ends) a.home ≡ true
        holds_home held true is stops away = absurd (let both : true ≡ false = sym (at_home stops) ∙ away in cc)
        holds_home true false is stays away = acked_holds now me a.update a.granted a.update.ack k1 a.home ∙ holds_k1 a.home ∙ ap (holds k) of_home ∙ is
        holds_home false false is stays away =
            acked_holds now me a.update a.granted a.update.ack (after k1 (record { at = now; step = Claims a.home })) a.home
            ∙ holds_after k1 now (Claims a.home) a.home
            ∙ ap (λ (same : Bool). if same then is_served k1 a.home else holds k1 a.home) (eq-eqb a.home.0 a.home.0 refl) ∙ served

        had_then : (held ends : Bool) → holds k (home_of a.update) ≡ held → deletes a.update ≡ ends → (let x : Known = later held ends in AreHeld x x.ends)
        had_then held ends is stops =
            let on = h.on in
            subst (λ (es : List Ending). AreHeld (later held ends) es) (sym (ends_then held ends))
            (held_with a.home b k (later held ends) k.ends on.had (λ x apart had. holds_then held ends x (flipped x.0 a.home.0 apart) ∙ had) (holds_home held ends is stops))

        apart_then : (held ends : Bool) → (let x : Known = later held ends in AreApart x.ends)
        apart_then held ends = let on = h.on in subst AreApart (sym (ends_then held ends)) (apart_with a.home b k.ends on.apart)

        -- no address is claimed
        mid_ready : (held ends : Bool) → AreReady now k (steps held ends) → IsMid s m none (later held ends) (base ++ steps_claimings s.links (steps held ends)) (answered s m from (middle call) (answers_of (steps held ends))).past
        mid_ready held ends ready = ready_told s m none now from (steps held ends) k base (middle call) ready (start call)

        -- the home address is claimed, which nobody else holds
        abbrev registered : Run
        registered = note (entries.Home (node_id m) a.home b.careof b.sequence b.end) (middle call)

        free_held : (holder : Option ℕ) → is_held (claim_of holder false) ≡ true → holder ≡ None
        free_held None is = refl
        free_held (Some other) is = absurd cc

        free : holds k (home_of a.update) ≡ false → deletes a.update ≡ false → other_than m (holder_in registered.past a.home.0) ≡ None
        free new stays =
            let j = judged in
            ap (other_than m) (same_holder run.past (entries.Home (node_id m) a.home b.careof b.sequence b.end) a.home.0 refl ∙ ap (λ (x : Address). holder_in run.past x.0) of_home)
            ∙ ap (λ (x : ℕ). other_than m (holder_in run.past x)) (sym a.of_packet)
            ∙ free_held _ (sym (ap (λ (e : Bool). is_held (claim_with e claim)) new) ∙ j.held stays)

        mid_new : holds k (home_of a.update) ≡ false → deletes a.update ≡ false
            → IsMid s m none (later false false) (base ++ steps_claimings s.links (steps false false)) (answered s m from (middle call) (answers_of (steps false false))).past
        unfolding answered
        mid_new new stays =
            let first : IsMid s m none k1 base registered.past =
            quiet_known s m none now k0 base registered.past (Registers number a.home b) refl
            (quiet_known s m none now k base registered.past (Called call) refl
            (mid_other s m none k base (middle call) (entries.Home (node_id m) a.home b.careof b.sequence b.end) refl (start call))) in
            more_told s m none base (Claims a.home) acks (later false false) (answered s m from (claims s m a.home registered) (answers_of acks)).past
            (ready_told s m none now from acks (after k1 (record { at = now; step = Claims a.home })) (base ++ steps_claimings s.links (Claims a.home ∷ [])) (claims s m a.home registered)
            (acked_ready now me a.update a.granted a.update.ack (after k1 (record { at = now; step = Claims a.home })))
            (mid_claimed s m none now k1 a.home base registered (free new stays) first))

        by_case : (held ends : Bool) → holds k (home_of a.update) ≡ held → deletes a.update ≡ ends
            → IsMid s m none (later held ends) (base ++ steps_claimings s.links (steps held ends)) (answered s m from (middle call) (answers_of (steps held ends))).past
        by_case true true is stops =
            mid_ready true true (tt, (tt, (holds_k1 a.home ∙ ap (holds k) of_home ∙ is, acked_ready now me a.update a.granted a.update.ack (after k1 (record { at = now; step = Releases a.home })))))
        by_case true false is stops = mid_ready true false (tt, (tt, acked_ready now me a.update a.granted a.update.ack k1))
        by_case false true is stops = mid_ready false true (tt, (tt, acked_ready now me a.update a.granted a.update.ack k1))
        by_case false false is stops = mid_new is stops

        accepting : IsAgreed (after_agent_transition s m own (transition call) run)
        accepting =
            let held : Bool = holds k (home_of a.update) in
            let ends : Bool = deletes a.update in
            finish call now (steps held ends) a.is (by_case held ends refl refl) (had_then held ends refl refl) (apart_then held ends)

      taking : IsAgreed (after_agent_transition s m own (transition call) run)
      taking =
          elim (taking_is me k now number shield bytes claim) as (λ _. IsAgreed (after_agent_transition s m own (transition call) run)) [
            | inl still ↦ staying call still
            | inr a ↦ accepting a
          ]

    own_kind : (call : Call) → IsAgreed (by_kind s m own call run (Agent preference life room serves))
    own_kind (Take number shield packet) = taking number shield packet
    own_kind Tick = ticking
    own_kind (Plan valid preferred) = staying (agent_calls.Plan valid preferred) (stays_plan me k now valid preferred)
    own_kind (Hear agent preference' life') = staying (agent_calls.Hear agent preference' life') (stays_hear me k now agent preference' life')
    own_kind _ = agreed_safe run entries.Idle (safe_other m run.past entries.Idle refl) h

    own_acts : (call : Call) → IsAgreed (acts s m call run)
    own_acts call = subst (λ (o : Option Host). IsAgreed (by_host s m call run o)) (sym host) (own_kind call)

  acts_agreed : (run : Run) (n : ℕ) (call : Call) → IsAgreed run → IsAgreed (acts s n call run)
  acts_agreed run n call h = elim (cases_eq m n) as (λ _. IsAgreed (acts s n call run)) [
    | inl e ↦ subst (λ (x : ℕ). IsAgreed (acts s x call run)) e (own_acts run h call)
    | inr other ↦ other_acts n other run h call
  ]

  -- a new life: nothing is known to be had
  fresh_none : (home : Address) → holds (known serves []) home ≡ false
  fresh_none home = by (is_one_of serves home) refl
    where
      unserved : (o : Option Served) → is_some o ≡ false → option_map_or (λ x. x.held) o false ≡ false
      unserved None is = refl
      unserved (Some x) is = absurd cc

      by : (b : Bool) → is_one_of serves home ≡ b → holds (known serves []) home ≡ false
      by true is = known-held home serves [] is
      by false is = unserved (served_at (known serves []) home) (known-served home serves [] ∙ is)

  fresh_ends : (known serves []).ends ≡ []
  unfolding known
  fresh_ends = refl

  fresh_on : (past : List Entry) → IsAgreedOn [] past
  fresh_on past = record {
    held = λ home had there. absurd (let both : true ≡ false = sym had ∙ fresh_none home in cc);
    had = subst (λ (es : List Ending). AreHeld (known serves []) es) (sym fresh_ends) tt;
    apart = subst AreApart (sym fresh_ends) tt;
    front = claimings_told m past;
    told = sym (append-nil (claimings_told m past));
  }

  abbrev IsFresh : Run → Type 0
  IsFresh run = (length run.agent_pasts ≡ length s.hosts) × (agent_past_at run m ≡ [])

  fresh_agreed : (run : Run) → IsFresh run → IsAgreed run
  fresh_agreed run is = record { agents = is.0; on = subst (λ (l : List (Stamped Step)). IsAgreedOn l run.past) (sym is.1) (fresh_on run.past) }

  restart_agreed : (run : Run) (n : ℕ) → IsAgreed run → IsAgreed (with_agent_past n [] run)
  restart_agreed run n h = elim (cases_eq m n) as (λ _. IsAgreed (with_agent_past n [] run)) [
    | inl e ↦ subst (λ (x : ℕ). IsAgreed (with_agent_past x [] run)) e (fresh_agreed (with_agent_past m [] run) (length-set run.agent_pasts m [] ∙ h.agents, here run h []))
    | inr other ↦ agreed_elsewhere n [] run other h
  ]

  gives_agreed : (run : Run) (n : ℕ) (address : Address) → agent_past_at run n ≡ [] → IsAgreed run → IsAgreed (gives_up s n address run)
  gives_agreed run n address empty h = elim (cases_eq m n) as (λ _. IsAgreed (gives_up s n address run)) [
    | inl e ↦
        fresh_agreed (gives_up s n address run)
        (keeps_gives_up s IsFresh (λ (x : Run) (e : Entry) idle fresh. fresh) n address run (h.agents, subst (λ (x : ℕ). agent_past_at run x ≡ []) (sym e) empty))
    | inr other ↦ other_gives_up s m none IsAgreed agreed_safe n (ne_eqb m n other) address run h
  ]

  agreed_keeps : KeepsClaims s IsAgreed
  agreed_keeps = record {
    other = λ run e is h. agreed_safe run e (safe_other m run.past e is) h;
    enters = λ run post h. agreed_entered run post h;
    leaves = λ run k h. record { agents = h.agents; on = h.on };
    squats = λ run o address h. other_claims m (holder_outside o) (ne_eqb m (holder_outside o) (node o)) s IsAgreed agreed_safe address run h;
    yields = λ run o address h. other_gives_up s m none IsAgreed agreed_safe (holder_outside o) (ne_eqb m (holder_outside o) (node o)) address run h;
    acted = λ run n call h. acts_agreed run n call h;
    emptied = λ run n h. record { agents = h.agents; on = h.on };
    reborn = λ run n h. restart_agreed run n h;
    gives = λ run n address is h. gives_agreed run n address is.empty h;
  }

  no_past : (hosts : List Host) (n : ℕ) → slice_index_or (map (λ (x : Host). let l : List (Stamped Step) = [] in l) hosts) n [] ≡ []
  no_past [] n = refl
  no_past (x ∷ hosts) zero = refl
  no_past (x ∷ hosts) (suc n) = no_past hosts n

  agreed_run : (events : List Event) → IsAgreed (run_of s events)
  agreed_run events =
      walk_run s IsAgreed agreed_keeps events
      (fresh_agreed (opened s) (length-map s.hosts (λ (x : Host). let l : List (Stamped Step) = [] in l), no_past s.hosts m))

  pub told_of_run : (events : List Event) → (front : List Claiming) × (claimings_told m (run_of s events).past ≡ front ++ agent_claimings s.links (agent_past_at (run_of s events) m))
  told_of_run events = let h = agreed_run events in let on = h.on in (on.front, on.told)

  pub held_of_run : (events : List Event) (home : Address) → holds (agent_known_in (run_of s events) m serves) home ≡ true → is_on_link s.links home ≡ true
      → holder_in (run_of s events).past home.0 ≡ Some m
  held_of_run events home had there = let h = agreed_run events in let on = h.on in on.held home had there
