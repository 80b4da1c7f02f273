-- What a run leaves that tells of no acceptance of a packet by a mobile: all calls of other nodes, and all of the mobile but the one by
-- which it is handed that packet.
use Rattle.std.proofs.Common.{◌≡◌, ◌≢◌, ℕ, List, [], ◌∷◌, ◌++◌, Bool, true, false, ◌⊎◌, inl, inr, length, refl, sym, ap, ◌∙◌, subst}
use Rattle.std.specs.Prelude.{Option, Some, None, ◌||◌, ◌&&◌, ◌==◌, is_some, slice_get}
use Rattle.std.specs.List.{list_any, AllByRecursion}
use Rattle.std.proofs.lemmas.List.{append_assoc}
use Rattle.std.proofs.lemmas.List.Folds.{list_any-append}
use Rattle.std.proofs.lemmas.Bool.{or_parts, cases_eq, ne_eqb}
use Rattle.mip_words.specs.declared.address.Address.{Address}
use Rattle.mip_words.specs.declared.shield.Shield.{Shield}
use Rattle.mip_entries.specs.declared.answer.Answer.{Answer}
use Rattle.mip_entries.specs.declared.answer.Answer.TheVariants.{Send, Note}
use Rattle.mip_entries.specs.declared.entry.Entry.{Entry}
use Rattle.mip_entries.specs.declared.entry.Entry.TheVariants as entries
use Rattle.mip_entries.specs.Completed.{node_id, named}
use Rattle.mip_provenance.specs.declared.accepted_update.AcceptedUpdate.{AcceptedUpdate}
use Rattle.mip_provenance.specs.declared.mark.Mark.{Mark}
use Rattle.mip_provenance.specs.declared.mark.Mark.TheVariants.{Origin, Forged}
use Rattle.mip_provenance.specs.Entries.{update_accepted, mark_entry}
use Rattle.mip_provenance.specs.Marks.{mark_in}
use Rattle.mip_links.specs.Table.{Post}
use Rattle.mip_rules_correspondent.specs.Calls as correspondents
use Rattle.mip_rules_correspondent.specs.Doing as correspondent_doing
use Rattle.mip_rules_agent.specs.Calls as agents
use Rattle.mip_rules_agent.specs.Doing as agent_doing
use Rattle.mip_rules_mobile.specs.Steps as steps
use Rattle.mip_rules_mobile.specs.Steps.{Step, answer_of, answers_of}
use Rattle.mip_rules_mobile.specs.Calls as mobiles
use Rattle.mip_rules_mobile.specs.Known.{Known}
use Rattle.mip_rules_mobile.specs.Doing.{transition_of}
use Rattle.mip_rules_mobile.specs.PartLaws.{accepted_note, IsPartTaken, IsPartTransition, Silent, Asked, Accepting, is_restart}
use Rattle.mip_rules_mobile.proofs.PartTransitions.{call-part, restart-part}
use Rattle.mip_history.specs.Setup.{Setup, Host, Kind, is_mobile_host}
use Rattle.mip_history.specs.Setup.Kind.{Correspondent, Agent, Mobile}
use Rattle.mip_history.specs.Runs.{Run, note, notes, entered}
use Rattle.mip_history.specs.Calls as calls
use Rattle.mip_history.specs.Calls.{Call, for_correspondent, for_agent, for_mobile}
use Rattle.mip_history.specs.Claims.{claims}
use Rattle.mip_history.specs.Knowing.{now_in, identity_in, known_in, agent_of, agent_known_in, mobile_known_in, around_in}
use Rattle.mip_history.specs.Nodes.{marks_of, left_by, answered_one, answered, asks, by_kind, by_host, acts, after_transition, after_agent_transition, after_mobile_transition}
use Rattle.mip_history.proofs.Keeping.{is_busy, keeps_overheard, keeps_claims, keeps_gives_up}
use Rattle.mip_history.proofs.PartTransitions.{mobile_apart}
use Rattle.mip_law_security.specs.Tunnelled.{is_acceptance_of}
use Rattle.mip_law_security.proofs.Tunnelled.{is_accepted, accepts, calm}

or_none : (b : Bool) → b ≡ false → (b || false) ≡ false
or_none true none = absurd cc
or_none false none = refl

and_none : (a b : Bool) → b ≡ false → (a && b) ≡ false
and_none true b none = none
and_none false b none = refl

unbusy : (e : Entry) → is_busy e ≡ false → is_accepted e ≡ false
unbusy (entries.Accepted node number home binding careof sequence end i j) idle = absurd cc
unbusy _ idle = refl

-- an answer tells of an acceptance
abbrev tells : Answer → Bool
tells (Send shield packet) = false
tells (Note entry) = is_accepted entry

named_none : (n next : ℕ) (e : Entry) → is_accepted e ≡ false → is_accepted (named n 0 next e) ≡ false
named_none n next (entries.Accepted node number home binding careof sequence end i j) none = absurd cc
named_none n next _ none = refl

-- what shows of steps
shown_none : (step : Step) → accepts step ≡ false → list_any tells (answer_of step) ≡ false
shown_none (steps.Notes entry) none = or_none (is_accepted entry) none
shown_none _ none = refl

pub all_shown_none : (xs : List Step) → list_any accepts xs ≡ false → list_any tells (answers_of xs) ≡ false
all_shown_none [] none = refl
all_shown_none (step ∷ xs) none =
    let parts = or_parts (accepts step) (list_any accepts xs) none in
    list_any-append tells (answer_of step) (answers_of xs) ∙ ap (λ (b : Bool). b || list_any tells (answers_of xs)) (shown_none step parts.0) ∙ all_shown_none xs parts.1

-- of packet k by node n
module _ (s : Setup) (n k : ℕ) where
  plain : (e : Entry) → is_accepted e ≡ false → is_acceptance_of n k e ≡ false
  plain (entries.Accepted node number home binding careof sequence end i j) none = absurd cc
  plain _ none = refl

  -- an answer of node x tells of no such acceptance
  abbrev pub IsMild : ℕ → Answer → Type 0
  IsMild x (Send shield packet) = Unit {0}
  IsMild x (Note e) = (next : ℕ) → is_acceptance_of n k (named x 0 next e) ≡ false

  pub quiet_mild : (x : ℕ) (answers : List Answer) → list_any tells answers ≡ false → AllByRecursion (IsMild x) answers
  quiet_mild x [] none = tt
  quiet_mild x (Send shield packet ∷ answers) none = (tt, quiet_mild x answers none)
  quiet_mild x (Note e ∷ answers) none =
      let parts = or_parts (is_accepted e) (list_any tells answers) none in (λ next. plain (named x 0 next e) (named_none x next e parts.0), quiet_mild x answers parts.1)

  other_mild : (x : ℕ) → n ≢ x → (answers : List Answer) → AllByRecursion (IsMild x) answers
  other_mild x apart [] = tt
  other_mild x apart (Send shield packet ∷ answers) = (tt, other_mild x apart answers)
  other_mild x apart (Note e ∷ answers) = (λ next. by next e, other_mild x apart answers)
    where
      by : (next : ℕ) (e : Entry) → is_acceptance_of n k (named x 0 next e) ≡ false
      by next (entries.Accepted node number home binding careof sequence end i j) = ap (λ (b : Bool). b && (number == k)) (ne_eqb n x apart)
      by next _ = refl

  -- what a run leaves behind this front tells of none
  module _ (front : List Entry) where
    pub record TellsNone (run : Run) : Type 0 where
      pub rest : List Entry
      pub whole : run.past ≡ front ++ rest
      pub none : list_any (is_acceptance_of n k) rest ≡ false

    pub with_more : (es : List Entry) (run : Run) → list_any (is_acceptance_of n k) es ≡ false → TellsNone run → TellsNone (notes es run)
    with_more es run none t = record {
      rest = t.rest ++ es;
      whole = ap (λ (l : List Entry). l ++ es) t.whole ∙ append_assoc front t.rest es;
      none = list_any-append (is_acceptance_of n k) t.rest es ∙ ap (λ (b : Bool). b || list_any (is_acceptance_of n k) es) t.none ∙ none;
    }

    pub with_one : (e : Entry) (run : Run) → is_accepted e ≡ false → TellsNone run → TellsNone (note e run)
    with_one e run none t = with_more (e ∷ []) run (or_none (is_acceptance_of n k e) (plain e none)) t

    pub with_idle : (run : Run) (e : Entry) → is_busy e ≡ false → TellsNone run → TellsNone (note e run)
    with_idle run e idle t = with_one e run (unbusy e idle) t

    pub same_past : (a b : Run) → b.past ≡ a.past → TellsNone a → TellsNone b
    same_past a b same t = record { rest = t.rest; whole = same ∙ t.whole; none = t.none }

    no_marks : (past : List Entry) (o : Option AcceptedUpdate) → list_any (is_acceptance_of n k) (marks_of past o) ≡ false
    no_marks past None = refl
    no_marks past (Some a) = by (mark_in past a)
      where
        by : (m : Mark) → list_any (is_acceptance_of n k) (mark_entry m ∷ []) ≡ false
        by (Origin hot cot update) = refl
        by (Forged cause) = refl

    pub claims_none : (x : ℕ) (address : Address) (run : Run) → TellsNone run → TellsNone (claims s x address run)
    claims_none x address run t = keeps_claims s TellsNone with_idle x address run (λ link holder. with_one (entries.Taken x link address holder) run refl t) t

    left_none : (x : ℕ) (run : Run) (e : Entry) → ((next : ℕ) → is_acceptance_of n k (named x 0 next e) ≡ false) → TellsNone run → TellsNone (left_by s x run e)
    left_none x run (entries.Claimed who link address) mild t = claims_none x address run t
    left_none x run (entries.Taken who link address holder) mild t = claims_none x address run t
    left_none x run (entries.Released who link address) mild t = keeps_gives_up s TellsNone with_idle x address run t
    left_none x run (entries.Restarted node) mild t = t
    left_none x run e mild t =
        with_more (named x 0 (length run.posts) e ∷ marks_of run.past (update_accepted (named x 0 (length run.posts) e))) run
        (ap (λ (b : Bool). b || list_any (is_acceptance_of n k) (marks_of run.past (update_accepted (named x 0 (length run.posts) e)))) (mild (length run.posts))
        ∙ no_marks run.past (update_accepted (named x 0 (length run.posts) e))) t

    answer_none : (x from : ℕ) (run : Run) (answer : Answer) → IsMild x answer → TellsNone run → TellsNone (answered_one s x from run answer)
    answer_none x from run (Send shield packet) mild t =
        let e : Entry = entries.Sent (length run.posts) (node_id x) (is_some shield) packet in
        let post : Post = record { from = from; shield = shield; packet = packet } in
        keeps_overheard s TellsNone with_idle from shield None (length run.posts) (entered post (note e run)) (same_past (note e run) (entered post (note e run)) refl (with_one e run refl t))
    answer_none x from run (Note e) mild t = left_none x run e mild t

    pub answers_none : (x from : ℕ) (run : Run) (answers : List Answer) → AllByRecursion (IsMild x) answers → TellsNone run → TellsNone (answered s x from run answers)
    unfolding answered
    answers_none x from run [] mild t = t
    answers_none x from run (answer ∷ answers) mild t = answers_none x from (answered_one s x from run answer) answers mild.1 (answer_none x from run answer mild.0 t)

  -- a call by which a mobile is handed this packet
  abbrev Hands : mobiles.Call → Type 0
  Hands (mobiles.Take number shield packet) = number ≡ k
  Hands _ = ⊥

  abbrev pub HandsOver : Call → Type 0
  HandsOver (calls.Take number shield packet) = number ≡ k
  HandsOver _ = ⊥

  -- any other call of the mobile tells of none
  part_mild : (kn : Known) (now : ℕ) (c : mobiles.Call) → (Hands c → ⊥) → is_restart c ≡ false → AllByRecursion (IsMild n) (answers_of (transition_of kn now c).steps)
  part_mild kn now c other still = by (call-part kn now c still)
    where
      not_it : (number : ℕ) (shield : Option Shield) (bytes : List ℕ) → c ≡ mobiles.Take number shield bytes → (number == k) ≡ false
      not_it number shield bytes is = ne_eqb number k (λ same. other (subst Hands (sym is) same))

      taken : (x : IsPartTaken kn now c (transition_of kn now c).steps) → AllByRecursion (IsMild n) (Note (accepted_note x.number x.taken.home x.taken.binding x.taken.accepted) ∷ answers_of x.rest)
      taken x = (λ next. and_none (n == n) (x.number == k) (not_it x.number x.shield x.bytes x.call), quiet_mild n (answers_of x.rest) (all_shown_none x.rest (calm x.rest x.none)))

      by : IsPartTransition kn now c (transition_of kn now c).steps → AllByRecursion (IsMild n) (answers_of (transition_of kn now c).steps)
      by (Silent none) = quiet_mild n (answers_of (transition_of kn now c).steps) (all_shown_none (transition_of kn now c).steps (calm (transition_of kn now c).steps none))
      by (Asked call rest are none quiet) = subst (λ (l : List Step). AllByRecursion (IsMild n) (answers_of l)) (sym are) (quiet_mild n (answers_of rest) (all_shown_none rest (calm rest none)))
      by (Accepting x) = subst (λ (l : List Step). AllByRecursion (IsMild n) (answers_of l)) (sym x.steps_are) (taken x)

  call_mild : (kn : Known) (now : ℕ) (c : mobiles.Call) → (Hands c → ⊥) → AllByRecursion (IsMild n) (answers_of (transition_of kn now c).steps)
  call_mild kn now (mobiles.Restart secrets) other =
      let r = restart-part kn now secrets in
      subst (λ (l : List Step). AllByRecursion (IsMild n) (answers_of l)) (sym r.steps_are)
      (quiet_mild n (answers_of (steps.Called (mobiles.Restart secrets) ∷ steps.Restarts secrets ∷ r.rest)) (all_shown_none (steps.Called (mobiles.Restart secrets) ∷ steps.Restarts secrets ∷ r.rest) (calm r.rest r.none)))
  call_mild kn now c other = part_mild kn now c other refl

  module _ (front : List Entry) (own : Address) (agent : Option Address) (host : slice_get s.hosts n ≡ Some (record { address = own; kind = Mobile agent })) where
    abbrev T : Run → Type 0
    T = TellsNone front

    -- what a call of a node tells
    asks_none : {C : Type 0} (does : C → Run → Run) (call : Option C) (run : Run) → ((c : C) → T (does c run)) → T run → T (asks does call run)
    asks_none does None run each t = with_one front entries.Idle run refl t
    asks_none does (Some c) run each t = each c

    mobile_none : (x : ℕ) (run : Run) (home : Address) (declared : Option Address) (c : mobiles.Call) → (n ≡ x → Hands c → ⊥) → T run
        → T (after_mobile_transition s x home (transition_of (mobile_known_in s run x home declared) (now_in s run) c) run)
    mobile_none x run home declared c other t = by (cases_eq n x)
      where
        by : (n ≡ x) ⊎ (n ≢ x) → T (after_mobile_transition s x home (transition_of (mobile_known_in s run x home declared) (now_in s run) c) run)
        by (inl same) =
            answers_none front x _ _ _ (subst (λ (y : ℕ). AllByRecursion (IsMild y) (answers_of (transition_of (mobile_known_in s run x home declared) (now_in s run) c).steps)) same
            (call_mild (mobile_known_in s run x home declared) (now_in s run) c (other same))) (same_past front run _ refl t)
        by (inr apart) = answers_none front x _ _ _ (other_mild x apart _) (same_past front run _ refl t)

    pub acts_none : (x : ℕ) (call : Call) (run : Run) → (n ≡ x → HandsOver call → ⊥) → T run → T (acts s x call run)
    acts_none x call run other t = by_node (slice_get s.hosts x) refl
      where
        does : Address → Option Address → mobiles.Call → Run → Run
        does home declared c r = after_mobile_transition s x home (transition_of (mobile_known_in s r x home declared) (now_in s r) c) r

        of_mobile : (home : Address) (declared : Option Address) (call : Call) → (n ≡ x → HandsOver call → ⊥) → T (asks (does home declared) (for_mobile (around_in run x (Some home.0)) home call) run)
        of_mobile home declared (calls.Take number shield packet) never = mobile_none x run home declared (mobiles.Take number shield packet) never t
        of_mobile home declared (calls.Send to proto payload) never = mobile_none x run home declared (mobiles.Send to proto payload) never t
        of_mobile home declared (calls.Refresh to) never = mobile_none x run home declared (mobiles.Refresh to) never t
        of_mobile home declared calls.Tick never = mobile_none x run home declared mobiles.Tick never t
        of_mobile home declared (calls.Attach prefix) never = mobile_none x run home declared (mobiles.Attach prefix _ _) never t
        of_mobile home declared calls.Leave never = mobile_none x run home declared (mobiles.Leave _) never t
        of_mobile home declared calls.Ask never = mobile_none x run home declared mobiles.Ask never t
        of_mobile home declared (calls.Restart secrets) never = mobile_none x run home declared (mobiles.Restart secrets) never t
        of_mobile home declared _ never = with_one front entries.Idle run refl t

        kinds : (home : Address) (kind : Kind) → slice_get s.hosts x ≡ Some (record { address = home; kind = kind }) → T (by_kind s x home call run kind)
        kinds home (Correspondent room) is =
            asks_none (λ (c : correspondents.Call) (r : Run). after_transition s x home (correspondent_doing.transition_of (identity_in s r x home room) (known_in s r x room) (now_in s r) c) r) (for_correspondent call) run
            (λ c. answers_none front x _ _ _ (other_mild x (mobile_apart s x (ap is_mobile_host is) n own agent host) _) (same_past front run _ refl t)) t
        kinds home (Agent preference life room serves) is =
            asks_none (λ (c : agents.Call) (r : Run). after_agent_transition s x home (agent_doing.transition_of (agent_of home preference life room) (agent_known_in r x serves) (now_in s r) c) r) (for_agent (around_in run x None) call) run
            (λ c. answers_none front x _ _ _ (other_mild x (mobile_apart s x (ap is_mobile_host is) n own agent host) _) (same_past front run _ refl t)) t
        kinds home (Mobile declared) is = of_mobile home declared call other

        by_node : (o : Option Host) → slice_get s.hosts x ≡ o → T (by_host s x call run o)
        by_node None is = with_one front entries.Idle run refl t
        by_node (Some h) is = kinds h.address h.kind is
