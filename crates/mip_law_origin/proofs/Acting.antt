-- A node acts: the run goes on by entries that are right.
use Rattle.std.proofs.Common.{◌≡◌, ◌≢◌, ℕ, suc, ◌<◌, List, [], ◌∷◌, ◌++◌, Bool, true, false, length, inl, inr, refl, sym, ap, ◌∙◌, subst, arith, length-set}
use Rattle.std.specs.Prelude.{Option, Some, None, option_map, unwrap_or, ◌||◌, if◌then◌else◌, slice_get, slice_set, slice_index_or}
use Rattle.std.specs.List.{list_any, AllByRecursion}
use Rattle.std.proofs.lemmas.List.{get_or-set_same, get_or-set_other}
use Rattle.std.proofs.lemmas.List.Sums.{fold-append}
use Rattle.std.proofs.lemmas.Option.{slice_get_within}
use Rattle.std.proofs.lemmas.Bool.{or_parts, cases_eq, ne_eqb}
use Rattle.mip_words.specs.declared.address.Address.{Address}
use Rattle.mip_nonce.specs.Secrets.{Life}
use Rattle.mip_ipv6.specs.Packet.{names_no_body}
use Rattle.mip_outside.specs.Places.{Around, claim_in}
use Rattle.mip_packets.specs.Says.{innermost_after, innermost, carried}
use Rattle.mip_entries.specs.declared.entry.Entry.{Entry}
use Rattle.mip_entries.specs.declared.entry.Entry.TheVariants as entries
use Rattle.mip_entries.specs.Completed.{node_id}
use Rattle.mip_entries.specs.Stamped.{Stamped, stamped}
use Rattle.mip_provenance.specs.Sights.{token_in}
use Rattle.mip_rules_correspondent.specs.declared.identity.Identity.{Identity}
use Rattle.mip_rules_correspondent.specs.Calls as correspondents
use Rattle.mip_rules_correspondent.specs.Transitions as correspondent_transitions
use Rattle.mip_rules_correspondent.specs.Steps as correspondent_steps
use Rattle.mip_rules_correspondent.specs.Doing as correspondent_doing
use Rattle.mip_rules_correspondent.specs.Seen.{CorrespondentSeen}
use Rattle.mip_rules_agent.specs.Calls as agents
use Rattle.mip_rules_agent.specs.Calls.{claim_for}
use Rattle.mip_rules_agent.specs.CallsLaws.{bytes_of}
use Rattle.mip_rules_agent.specs.Transitions as agent_transitions
use Rattle.mip_rules_agent.specs.Steps as agent_steps
use Rattle.mip_rules_agent.specs.Doing as agent_doing
use Rattle.mip_rules_agent.proofs.Sayings.{call-says as agent_says}
use Rattle.mip_rules_mobile.specs.Calls as mobiles
use Rattle.mip_rules_mobile.specs.MovingRules.{address_under}
use Rattle.mip_rules_mobile.specs.Transitions as mobile_transitions
use Rattle.mip_rules_mobile.specs.Steps.{Step, Called, Restarts, answers_of}
use Rattle.mip_rules_mobile.specs.Known.{Known}
use Rattle.mip_rules_mobile.specs.Questions.{part_after, after}
use Rattle.mip_rules_mobile.specs.Doing.{transition_of}
use Rattle.mip_rules_mobile.specs.Fitting.{EachFits}
use Rattle.mip_rules_mobile.specs.Answering.{EachAnswer, SendsPlainData as SendsPlain, SaysRight}
use Rattle.mip_rules_mobile.specs.PartLaws.{PartLife, part_goes_on, part_life, concerns_part, IsPartTransition, Silent, Asked, Accepting, is_restart, IsPartReborn}
use Rattle.mip_rules_mobile.proofs.Fits.{call-fits}
use Rattle.mip_rules_mobile.proofs.Says.{call-says}
use Rattle.mip_rules_mobile.proofs.PartLives.{part_is}
use Rattle.mip_rules_mobile.proofs.PartTransitions.{call-part, restart-part}
use Rattle.mip_history.specs.Setup.{Setup, Host, Kind}
use Rattle.mip_history.specs.Setup.Kind.{Correspondent, Agent, Mobile}
use Rattle.mip_history.specs.Runs.{Run, note, past_at, agent_past_at, mobile_past_at, with_past, with_agent_past, with_mobile_past}
use Rattle.mip_history.specs.Questions.{restarts, life_in}
use Rattle.mip_history.specs.Calls.{Call, Take, Send, Refresh, Tick, Plan, Hear, Attach, Leave, Ask, Restart, for_correspondent, for_agent, for_mobile}
use Rattle.mip_history.specs.Knowing.{link_or_first, now_in, secrets_in, identity_in, known_in, agent_of, agent_known_in, mobile_known_in, stands_on, around_in}
use Rattle.mip_history.specs.KnowingLaws.{part_in}
use Rattle.mip_history.specs.Nodes.{after_transition, after_agent_transition, after_mobile_transition, asks, by_kind, by_host, acts}
use Rattle.mip_history.proofs.PartTransitions.{goes_along, life_along, same_host, reborn_life}
use Rattle.mip_law_origin.specs.OwnTests.{SendsPlainData}
use Rattle.mip_law_origin.specs.OwnHistories.{life_of}
use Rattle.mip_law_origin.specs.OwnHistoriesLaws.{kind_at, HasCome}
use Rattle.mip_law_origin.proofs.Own.{call-own-tests}
use Rattle.mip_law_origin.proofs.Coming.{IsGiven, AreGiven, HasTaken, fits_given, all_both, set_keeps}
use Rattle.mip_law_origin.proofs.Adding.{IsGood, HaveSecrets, Adds, adds_same, adds_then, adds_one}
use Rattle.mip_law_origin.proofs.Answering.{IsRight, adds_answers}
use Rattle.mip_law_origin.proofs.Roles.{begins_anew, known_more, correspondent_right, agent_right, mobile_right}

-- what is sent as data is no packet, no mobility message and no extension header
abbrev pub IsPlainCall : Call → Type 0
IsPlainCall (Send to proto payload) = (names_no_body proto ≡ false) × (proto ≡ 135 → ⊥) × (proto ≡ 41 → ⊥)
IsPlainCall _ = Unit {0}

-- the test in a packet that is handed over was handed to the node
abbrev pub HasTold : List Entry → ℕ → Call → Type 0
HasTold front n (Take number shield packet) = (t : List ℕ) → token_in (carried packet) ≡ Some t → HasCome front n t
HasTold front n _ = Unit {0}

-- a call that begins a new life
abbrev pub is_reborn : Call → Bool
is_reborn (Restart secrets) = true
is_reborn _ = false

-- no bytes say no test
nothing_says : (front : List Entry) (n : ℕ) (t : List ℕ) → token_in (carried []) ≡ Some t → HasCome front n t
unfolding carried innermost innermost_after
nothing_says front n t e = absurd cc

-- no restart is among the steps that are nothing to the part
no_anew : (steps : List Step) → list_any concerns_part steps ≡ false → list_any begins_anew steps ≡ false
no_anew [] none = refl
no_anew (step ∷ steps) none =
    let parts = or_parts (concerns_part step) (list_any concerns_part steps) none in
    ap (λ (b : Bool). b || list_any begins_anew steps) (by step parts.0) ∙ no_anew steps parts.1
  where
    by : (step : Step) → concerns_part step ≡ false → begins_anew step ≡ false
    by (Restarts secrets) none = absurd cc
    by _ none = refl

no_restart : (k : Known) (now : ℕ) (c : mobiles.Call) → is_restart c ≡ false → list_any begins_anew (transition_of k now c).steps ≡ false
no_restart k now c other = by (call-part k now c other)
  where
    by : IsPartTransition k now c (transition_of k now c).steps → list_any begins_anew (transition_of k now c).steps ≡ false
    by (Silent none) = no_anew (transition_of k now c).steps none
    by (Asked call rest is none calm) = ap (list_any begins_anew) is ∙ no_anew rest none
    by (Accepting x) = ap (list_any begins_anew) x.steps_are ∙ no_anew x.rest x.none

-- without one the part keeps its secrets
step_secrets : (home : Address) (numbers : ℕ) (p : PartLife) (at : ℕ) (step : Step) → begins_anew step ≡ false → (part_goes_on home numbers p at step).secrets ≡ p.secrets
step_secrets home numbers p at (Restarts secrets) none = absurd cc
step_secrets home numbers p at _ none = refl

life_secrets : (home : Address) (numbers : ℕ) (p : PartLife) (at : ℕ) (steps : List Step) → list_any begins_anew steps ≡ false → (goes_along home numbers at p steps).secrets ≡ p.secrets
life_secrets home numbers p at [] none = refl
life_secrets home numbers p at (step ∷ steps) none =
    let parts = or_parts (begins_anew step) (list_any begins_anew steps) none in
    life_secrets home numbers (part_goes_on home numbers p at step) at steps parts.1 ∙ step_secrets home numbers p at step parts.0

-- another node lives on as one begins anew
pub lives_apart : (s : Setup) (run : Run) (n m : ℕ) → m ≢ n → life_of s (run.past ++ entries.Restarted (node_id n) ∷ []) m ≡ life_of s run.past m
lives_apart s run n m other =
    ap (λ (l : ℕ). let x : Life = record { seed = s.seed; node = m; life = l } in x)
    (fold-append (restarts m) 0 run.past (entries.Restarted (node_id n) ∷ []) ∙ ap (λ (b : Bool). if b then suc (life_in run.past m) else life_in run.past m) (ne_eqb m n other))

-- the run with this history
abbrev at_past : List Entry → Run → Run
at_past past run = record run { past = past }

module _ (s : Setup) (n : ℕ) (own : Address) (agent : Option Address) (host_is : slice_get s.hosts n ≡ Some (record { address = own; kind = Mobile agent })) where
  -- mobile n goes on in a history, and its part has the secrets of its life there
  secrets_set : (a : Run) (past : List Entry) (next : List (Stamped Step)) → ((m : ℕ) → m ≢ n → life_of s past m ≡ life_of s a.past m) → (part_life own s.numbers (secrets_in s n 0) next).secrets ≡ life_of s past n
      → HaveSecrets s a → HaveSecrets s (with_mobile_past n next (at_past past a))
  secrets_set a past next lives mine have = (
    length-set a.mobile_pasts n next ∙ have.0,
    λ m address other host. elim (cases_eq m n) as (λ _. (part_life address s.numbers (secrets_in s m 0) (slice_index_or (slice_set a.mobile_pasts n next) m [])).secrets ≡ life_of s past m) [
      | inl e ↦ this m address other host e
      | inr apart ↦
          ap (λ (l : List (Stamped Step)). let p : PartLife = part_life address s.numbers (secrets_in s m 0) l in p.secrets) (get_or-set_other a.mobile_pasts n m next [] apart)
          ∙ have.1 m address other host
          ∙ sym (lives m apart)
    ],
  )
    where
      inside : n < length a.mobile_pasts
      inside = let i = slice_get_within s.hosts n (record { address = own; kind = Mobile agent }) host_is in let l = have.0 in omega (arith, i, l)

      this : (m : ℕ) (address : Address) (other : Option Address) → slice_get s.hosts m ≡ Some (record { address = address; kind = Mobile other }) → m ≡ n
          → (part_life address s.numbers (secrets_in s m 0) (slice_index_or (slice_set a.mobile_pasts n next) m [])).secrets ≡ life_of s past m
      this m address other host e =
          let same : own ≡ address = same_host (sym host_is ∙ ap (λ (k : ℕ). slice_get s.hosts k) (sym e) ∙ host) in
          subst (λ (k : ℕ). (let p : PartLife = part_life address s.numbers (secrets_in s k 0) (slice_index_or (slice_set a.mobile_pasts n next) k []) in p.secrets) ≡ life_of s past k) (sym e)
          (subst (λ (h : Address). (let p : PartLife = part_life h s.numbers (secrets_in s n 0) (slice_index_or (slice_set a.mobile_pasts n next) n []) in p.secrets) ≡ life_of s past n) same
          (ap (λ (l : List (Stamped Step)). let p : PartLife = part_life own s.numbers (secrets_in s n 0) l in p.secrets) (get_or-set_same a.mobile_pasts n next [] inside) ∙ mine))

  kind_is : kind_at s n ≡ Some (Mobile agent)
  kind_is = ap (option_map (λ (h : Host). h.kind)) host_is

  module _ (Q : Type 0) (run : Run) (good : IsGood run) where
    abbrev known : Known
    known = mobile_known_in s run n own agent

    -- the transition of a call, and the run that has it
    abbrev transition_at : mobiles.Call → mobile_transitions.Transition
    transition_at c = transition_of known (now_in s run) c

    abbrev gone : mobiles.Call → List (Stamped Step)
    gone c = mobile_transitions.with_transition (mobile_past_at run n) (transition_at c)

    abbrev next : mobiles.Call → Run
    next c = with_mobile_past n (gone c) run

    adds_transition : (H : Type 0) (c : mobiles.Call) → HasTaken run.past n c → AllByRecursion (IsRight s H run.past n) (answers_of (transition_at c).steps)
        → Adds s H (next c) (after_mobile_transition s n own (transition_at c) run)
    adds_transition H c came right =
        let given : AreGiven run.past n (gone c) =
        all_both (λ (y : Stamped Step). IsGiven run.past n y.step) (mobile_past_at run n) (stamped (transition_at c).now (transition_at c).steps) (good.mobiles n)
        (fits_given run.past n c (now_in s run) (transition_at c).now known (transition_at c).steps came (call-fits known (now_in s run) c)) in
        let still : IsGood (next c) = record { packets = good.packets; mobiles = set_keeps (AreGiven run.past) run.mobile_pasts n (gone c) [] good.mobiles given } in
        adds_answers s H n (unwrap_or (stands_on s run n own) 0) (answers_of (transition_at c).steps) (next c) still right

    -- a call that is no restart
    module _ (c : mobiles.Call) (came : HasTaken run.past n c) (other : is_restart c ≡ false) (asked : (inner : List ℕ) → c ≡ mobiles.Tunnel inner → ⊥) (plain : Q → SendsPlain c) where
      none : list_any begins_anew (transition_at c).steps ≡ false
      none = no_restart known (now_in s run) c other

      mine : HaveSecrets s run → known.part.identity.secrets ≡ life_of s run.past n
      mine have = ap (λ (x : CorrespondentSeen). x.identity.secrets) (part_is own agent s.numbers (secrets_in s n 0) (mobile_past_at run n)) ∙ have.1 n own agent host_is

      right : AllByRecursion (IsRight s (Q × HaveSecrets s run) run.past n) (answers_of (transition_at c).steps)
      right =
          mobile_right s (Q × HaveSecrets s run) run.past n own agent s.numbers (secrets_in s n 0) c (now_in s run) came kind_is refl asked (mobile_past_at run n) known (transition_at c).steps refl (good.mobiles n)
          (call-fits known (now_in s run) c) (λ q. mine q.1) (λ q. call-says known (now_in s run) c (plain q.0)) none

      secrets_next : HaveSecrets s run → HaveSecrets s (next c)
      secrets_next have =
          secrets_set run run.past (gone c) (λ m other. refl)
          (ap (λ (p : PartLife). p.secrets) (life_along own s.numbers (secrets_in s n 0) (mobile_past_at run n) (transition_at c).now (transition_at c).steps)
          ∙ life_secrets own s.numbers (part_in s run n own) (transition_at c).now (transition_at c).steps none
          ∙ have.1 n own agent host_is) have

      pub adds_roams : Adds s Q run (after_mobile_transition s n own (transition_at c) run)
      adds_roams =
          let a : Adds s (Q × HaveSecrets s run) (next c) (after_mobile_transition s n own (transition_at c) run) = adds_transition (Q × HaveSecrets s run) c came right in
          record {
            es = a.es;
            whole = a.whole;
            own = λ q have. a.own (q, have) (secrets_next have);
            secrets = λ have. a.secrets (secrets_next have);
            followed = a.followed;
            steady = a.steady;
            good = a.good;
          }

  -- a restart, which the history has already
  module _ (Q : Type 0) (base : Run) (good : IsGood (note (entries.Restarted (node_id n)) base)) where
    abbrev again : Run
    again = note (entries.Restarted (node_id n)) base

    abbrev secrets : Life
    secrets = secrets_in s n (life_in again.past n)

    abbrev begun_anew : mobile_transitions.Transition
    begun_anew = transition_at Q again good (mobiles.Restart secrets)

    r : IsPartReborn secrets (transition_of (mobile_known_in s again n own agent) (now_in s again) (mobiles.Restart secrets)).steps
    r = restart-part (mobile_known_in s again n own agent) (now_in s again) secrets

    abbrev H : Type 0
    H = Q × HaveSecrets s base

    lost : (k : Known) (x : Stamped Step) → x.step ≡ Restarts secrets → (let l : Known = after k x in l.part.identity.secrets) ≡ secrets
    unfolding after
    lost k x is = ap (λ (step : Step). let p : CorrespondentSeen = part_after k.part x.at step in p.identity.secrets) is

    -- the steps behind the restart
    rest_right : (steps : List Step) → steps ≡ Called (mobiles.Restart secrets) ∷ Restarts secrets ∷ r.rest → EachFits (mobiles.Restart secrets) (now_in s again) (mobile_known_in s again n own agent) steps
        → EachAnswer (SaysRight (mobiles.Restart secrets) (now_in s again)) (now_in s again) (mobile_known_in s again n own agent) steps
        → AllByRecursion (IsRight s (Q × HaveSecrets s base) again.past n) (answers_of steps)
    rest_right steps is fits says =
        subst (λ (l : List Step). AllByRecursion (IsRight s (Q × HaveSecrets s base) again.past n) (answers_of l)) (sym is)
        (tt, by (subst (EachFits c now k) is fits) (subst (EachAnswer (SaysRight c now) now k) is says))
      where
        c : mobiles.Call
        c = mobiles.Restart secrets

        now : ℕ
        now = now_in s again

        k : Known
        k = mobile_known_in s again n own agent

        old : List (Stamped Step)
        old = mobile_past_at again n

        first : Stamped Step
        first = record { at = now; step = Called c }

        second : Stamped Step
        second = record { at = now; step = Restarts secrets }

        by : EachFits c now k (Called c ∷ Restarts secrets ∷ r.rest) → EachAnswer (SaysRight c now) now k (Called c ∷ Restarts secrets ∷ r.rest) → AllByRecursion (IsRight s (Q × HaveSecrets s base) again.past n) (answers_of r.rest)
        by fits says =
            mobile_right s (Q × HaveSecrets s base) again.past n own agent s.numbers (secrets_in s n 0) c now tt kind_is refl (λ inner e. absurd cc) ((old ++ first ∷ []) ++ second ∷ []) (after (after k first) second) r.rest
            (ap (λ (l : Known). after l second) (known_more own agent s.numbers (secrets_in s n 0) old first) ∙ known_more own agent s.numbers (secrets_in s n 0) (old ++ first ∷ []) second)
            (all_both (λ (y : Stamped Step). IsGiven again.past n y.step) (old ++ first ∷ []) (second ∷ []) (all_both (λ (y : Stamped Step). IsGiven again.past n y.step) old (first ∷ []) (good.mobiles n) (tt, tt)) (tt, tt))
            fits.1.1 (λ q. lost (after k first) second refl) (λ q. says.1.1) (no_anew r.rest r.none)

    pub restart_right : AllByRecursion (IsRight s (Q × HaveSecrets s base) again.past n) (answers_of begun_anew.steps)
    restart_right =
        rest_right begun_anew.steps r.steps_are (call-fits (mobile_known_in s again n own agent) (now_in s again) (mobiles.Restart secrets))
        (call-says (mobile_known_in s again n own agent) (now_in s again) (mobiles.Restart secrets) tt)

    pub restart_adds : Adds s (Q × HaveSecrets s base) (next Q again good (mobiles.Restart secrets)) (after_mobile_transition s n own begun_anew again)
    restart_adds = adds_transition Q again good (Q × HaveSecrets s base) (mobiles.Restart secrets) tt restart_right

    pub restart_secrets : HaveSecrets s base → HaveSecrets s (next Q again good (mobiles.Restart secrets))
    restart_secrets have =
        secrets_set base again.past (gone Q again good (mobiles.Restart secrets)) (λ m other. lives_apart s base n m other)
        (ap (λ (p : PartLife). p.secrets) (reborn_life own s.numbers (secrets_in s n 0) (mobile_past_at again n) begun_anew.now secrets begun_anew.steps r)) have

module _ (s : Setup) (Q : Type 0) (n : ℕ) (run : Run) (good : IsGood run) where
  -- a correspondent
  module _ (own : Address) (room : ℕ) (kind : kind_at s n ≡ Some (Correspondent room)) where
    abbrev corresponds : correspondents.Call → Run → Run
    corresponds c run = after_transition s n own (correspondent_doing.transition_of (identity_in s run n own room) (known_in s run n room) (now_in s run) c) run

    adds_corresponds : (c : correspondents.Call) → (Q → SendsPlainData c) → Adds s Q run (corresponds c run)
    adds_corresponds c plain =
        let me : Identity = identity_in s run n own room in
        let transition : correspondent_transitions.Transition = correspondent_doing.transition_of me (known_in s run n room) (now_in s run) c in
        let next : Run = with_past n (correspondent_transitions.with_transition (past_at run n) transition) run in
        let still : IsGood next = record { packets = good.packets; mobiles = good.mobiles } in
        adds_then s Q run next _ (adds_same s Q run next refl refl still)
        (adds_answers s Q n (link_or_first s own.0) (correspondent_steps.answers_of transition.steps) next still
        (correspondent_right s Q run.past n me (now_in s run) room kind refl refl transition.steps (λ q. call-own-tests me (known_in s run n room) (now_in s run) c (plain q))))

    adds_correspondent : (call : Call) → (Q → IsPlainCall call) → Adds s Q run (asks corresponds (for_correspondent call) run)
    adds_correspondent (Take number shield packet) plain = adds_corresponds (correspondents.Take number shield packet) (λ q. tt)
    adds_correspondent (Send to proto payload) plain = adds_corresponds (correspondents.Send to proto payload) plain
    adds_correspondent (Refresh home) plain = adds_corresponds (correspondents.Refresh home) (λ q. tt)
    adds_correspondent _ plain = adds_one s Q entries.Idle run refl good

  -- an agent
  module _ (own : Address) (preference life room : ℕ) (serves : List Address) (kind : kind_at s n ≡ Some (Agent preference life room serves)) where
    abbrev serves_by : agents.Call → Run → Run
    serves_by c run = after_agent_transition s n own (agent_doing.transition_of (agent_of own preference life room) (agent_known_in run n serves) (now_in s run) c) run

    adds_serves : (c : agents.Call) → ((t : List ℕ) → token_in (carried (bytes_of c)) ≡ Some t → HasCome run.past n t) → Adds s Q run (serves_by c run)
    adds_serves c came =
        let transition : agent_transitions.Transition = agent_doing.transition_of (agent_of own preference life room) (agent_known_in run n serves) (now_in s run) c in
        let next : Run = with_agent_past n (agent_transitions.with_transition (agent_past_at run n) transition) run in
        let still : IsGood next = record { packets = good.packets; mobiles = good.mobiles } in
        adds_then s Q run next _ (adds_same s Q run next refl refl still)
        (adds_answers s Q n (link_or_first s own.0) (agent_steps.answers_of transition.steps) next still
        (agent_right s Q run.past n (bytes_of c) came preference life room serves kind transition.steps
        (agent_says (agent_of own preference life room) (agent_known_in run n serves) (now_in s run) c)))

    adds_agent : (around : Around) (call : Call) → HasTold run.past n call → Adds s Q run (asks serves_by (for_agent around call) run)
    adds_agent around (Take number shield packet) came = adds_serves (agents.Take number shield packet (claim_for around packet)) came
    adds_agent around Tick came = adds_serves agents.Tick (nothing_says run.past n)
    adds_agent around (Plan valid preferred) came = adds_serves (agents.Plan valid preferred) (nothing_says run.past n)
    adds_agent around (Hear agent preference' life') came = adds_serves (agents.Hear agent preference' life') (nothing_says run.past n)
    adds_agent around _ came = adds_one s Q entries.Idle run refl good

  -- a mobile
  module _ (own : Address) (agent : Option Address) (host_is : slice_get s.hosts n ≡ Some (record { address = own; kind = Mobile agent })) where
    abbrev roams : mobiles.Call → Run → Run
    roams c run = after_mobile_transition s n own (transition_of (mobile_known_in s run n own agent) (now_in s run) c) run

    adds_mobile : (around : Around) (call : Call) → is_reborn call ≡ false → (Q → IsPlainCall call) → HasTold run.past n call → Adds s Q run (asks roams (for_mobile around own call) run)
    adds_mobile around (Take number shield packet) calm plain came = adds_roams s n own agent host_is Q run good (mobiles.Take number shield packet) came refl (λ inner e. absurd cc) (λ q. tt)
    adds_mobile around (Send to proto payload) calm plain came = adds_roams s n own agent host_is Q run good (mobiles.Send to proto payload) tt refl (λ inner e. absurd cc) plain
    adds_mobile around (Refresh to) calm plain came = adds_roams s n own agent host_is Q run good (mobiles.Refresh to) tt refl (λ inner e. absurd cc) (λ q. tt)
    adds_mobile around Tick calm plain came = adds_roams s n own agent host_is Q run good mobiles.Tick tt refl (λ inner e. absurd cc) (λ q. tt)
    adds_mobile around (Attach prefix) calm plain came =
        adds_roams s n own agent host_is Q run good (mobiles.Attach prefix (claim_in around own.0) (claim_in around (address_under own prefix).0)) tt refl (λ inner e. absurd cc) (λ q. tt)
    adds_mobile around Leave calm plain came = adds_roams s n own agent host_is Q run good (mobiles.Leave (claim_in around own.0)) tt refl (λ inner e. absurd cc) (λ q. tt)
    adds_mobile around Ask calm plain came = adds_roams s n own agent host_is Q run good mobiles.Ask tt refl (λ inner e. absurd cc) (λ q. tt)
    adds_mobile around (Restart secrets) calm plain came = absurd cc
    adds_mobile around (Plan valid preferred) calm plain came = adds_one s Q entries.Idle run refl good
    adds_mobile around (Hear other preference life) calm plain came = adds_one s Q entries.Idle run refl good

  adds_by_kind : (own : Address) (call : Call) (kind : Kind) → slice_get s.hosts n ≡ Some (record { address = own; kind = kind }) → is_reborn call ≡ false → (Q → IsPlainCall call) → HasTold run.past n call
      → Adds s Q run (by_kind s n own call run kind)
  adds_by_kind own call (Correspondent room) is calm plain came = adds_correspondent own room (ap (option_map (λ (h : Host). h.kind)) is) call plain
  adds_by_kind own call (Agent preference life room serves) is calm plain came = adds_agent own preference life room serves (ap (option_map (λ (h : Host). h.kind)) is) (around_in run n None) call came
  adds_by_kind own call (Mobile agent) is calm plain came = adds_mobile own agent is (around_in run n (Some own.0)) call calm plain came

  -- a call that begins no new life
  pub adds_acts : (call : Call) → is_reborn call ≡ false → (Q → IsPlainCall call) → HasTold run.past n call → Adds s Q run (acts s n call run)
  adds_acts call calm plain came = by (slice_get s.hosts n) refl
    where
      by : (o : Option Host) → slice_get s.hosts n ≡ o → Adds s Q run (by_host s n call run o)
      by None is = adds_one s Q entries.Idle run refl good
      by (Some host) is = adds_by_kind host.address call host.kind is calm plain came
