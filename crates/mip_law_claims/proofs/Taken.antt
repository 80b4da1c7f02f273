-- Who finds an address taken: a mobile or an outsider, over every run.
use Rattle.std.proofs.Common.{◌≡◌, ◌≢◌, ℕ, List, [], ◌∷◌, ◌++◌, Bool, true, false, length, inl, inr, refl, sym, ap, ◌∙◌, subst}
use Rattle.std.specs.Prelude.{Option, Some, None, unwrap_or, is_some, ◌==◌, if◌then◌else◌, slice_get}
use Rattle.std.specs.List.{AllByRecursion, list_any}
use Rattle.std.proofs.lemmas.Bool.{or_parts}
use Rattle.std.proofs.lemmas.List.Sums.{fold-append}
use Rattle.mip_words.specs.declared.address.Address.{Address}
use Rattle.mip_words.specs.declared.ids.LinkId.{LinkId}
use Rattle.mip_words.specs.declared.shield.Shield.{Shield}
use Rattle.mip_outside.specs.declared.claim.Claim.{Claim}
use Rattle.mip_outside.specs.Places.{is_held, claim_of}
use Rattle.mip_entries.specs.declared.answer.Answer.{Answer}
use Rattle.mip_entries.specs.declared.answer.Answer.TheVariants.{Send, Note}
use Rattle.mip_entries.specs.declared.entry.Entry.{Entry}
use Rattle.mip_entries.specs.declared.entry.Entry.TheVariants as entries
use Rattle.mip_entries.specs.Completed.{node_id, named}
use Rattle.mip_provenance.specs.declared.accepted_update.AcceptedUpdate.{AcceptedUpdate}
use Rattle.mip_provenance.specs.declared.mark.Mark.{Mark}
use Rattle.mip_provenance.specs.declared.mark.Mark.TheVariants.{Origin, Forged}
use Rattle.mip_provenance.specs.Entries.{update_accepted, mark_entry}
use Rattle.mip_provenance.specs.Marks.{mark_in}
use Rattle.mip_entries.proofs.TransitionLaws.{none-noted}
use Rattle.mip_reception.specs.declared.registration.Registration.{Registration}
use Rattle.mip_reception.specs.Registrations.{home_of, deletes}
use Rattle.mip_rules_correspondent.specs.Steps as correspondents
use Rattle.mip_rules_correspondent.specs.Transitions as correspondent_transitions
use Rattle.mip_rules_correspondent.specs.Calls as correspondent_calls
use Rattle.mip_rules_correspondent.specs.Doing as correspondent_doing
use Rattle.mip_rules_agent.specs.declared.identity.Identity.{Identity}
use Rattle.mip_rules_agent.specs.declared.home_binding.HomeBinding.{HomeBinding}
use Rattle.mip_rules_agent.specs.Known.{Known}
use Rattle.mip_rules_agent.specs.Calls as agent_calls
use Rattle.mip_rules_agent.specs.Calls.{claim_for}
use Rattle.mip_rules_agent.specs.Steps as agents
use Rattle.mip_rules_agent.specs.declared.ending.Ending.{Ending}
use Rattle.mip_rules_agent.specs.declared.home_row.HomeRow.{HomeRow}
use Rattle.mip_rules_agent.specs.Questions.{holds, after, due_ends, rows_at}
use Rattle.mip_rules_agent.specs.Refusing.{is_claim}
use Rattle.mip_rules_agent.specs.Rules.{bench, claim_with, advertises}
use Rattle.mip_rules_agent.specs.Verdicts.{binding_for}
use Rattle.mip_rules_agent.specs.Soundness.{IsSound}
use Rattle.mip_rules_agent.specs.Transitions as agent_transitions
use Rattle.mip_rules_agent.specs.Doing as agent_doing
use Rattle.mip_rules_agent.proofs.VerdictLaws.{sound}
use Rattle.mip_rules_mobile.specs.Transitions as mobile_transitions
use Rattle.mip_rules_mobile.specs.Steps as mobiles
use Rattle.mip_rules_mobile.specs.Calls as mobile_calls
use Rattle.mip_rules_mobile.specs.Doing as mobile_doing
use Rattle.mip_links.specs.Table.{Post, link_of, holder_outside}
use Rattle.mip_schedule.specs.declared.event.Event.{Event}
use Rattle.mip_history.specs.Setup.{Setup, Host, Kind, is_mobile_kind, is_mobile_host, is_mobile_at}
use Rattle.mip_history.specs.Setup.Kind.{Correspondent, Agent, Mobile}
use Rattle.mip_history.specs.Runs.{Run, note, notes, entered, agent_past_at, with_agent_past}
use Rattle.mip_history.specs.Questions.{holder_says, holder_in}
use Rattle.mip_history.specs.Calls.{Call, Take, Tick, Plan, Hear, Leave, Restart, for_correspondent, for_mobile}
use Rattle.mip_history.specs.Claims.{link_id, claim_entry, claimed_on, claims}
use Rattle.mip_history.specs.Knowing.{link_or_first, now_in, identity_in, known_in, agent_of, agent_known_in, mobile_known_in, other_than, around_in}
use Rattle.mip_history.specs.Nodes.{marks_of, marked, left_by, answered_one, answered, after_agent_transition, asks, by_kind, by_host, acts}
use Rattle.mip_history.specs.Permitted.{run_of}
use Rattle.mip_history.specs.Registered.{is_agent_kind, is_agent_host, is_agent_at}
use Rattle.mip_history.proofs.Reasons.{all_append}
use Rattle.mip_history.proofs.Keeping.{is_busy, emptied, Keeps, keeps_overheard, keeps_claims, keeps_gives_up}
use Rattle.mip_history.proofs.Folds.{emptied_keeps}
use Rattle.mip_history.proofs.Walking.{walk_run}
use Rattle.mip_law_claims.specs.Seekers.{MayFindTaken}
use Rattle.mip_law_claims.proofs.Updating.{claiming_steps, acknowledging_steps, IsAccepted, taking_is}

-- an entry `taken` names a mobile or an outsider
abbrev IsFair : Setup → Entry → Type 0
IsFair s (entries.Taken who link address holder) = MayFindTaken s who
IsFair s _ = Unit {0}

abbrev IsFairRun : Setup → Run → Type 0
IsFairRun s run = AllByRecursion (IsFair s) run.past

-- an entry or an answer that claims no address, and finds none taken
abbrev claims_one : Entry → Bool
claims_one (entries.Claimed who link address) = true
claims_one (entries.Taken who link address holder) = true
claims_one _ = false

abbrev answer_claims : Answer → Bool
answer_claims (Send shield packet) = false
answer_claims (Note e) = claims_one e

module _ (s : Setup) where
  noted_fair : (e : Entry) (run : Run) → IsFair s e → IsFairRun s run → IsFairRun s (note e run)
  noted_fair e run fair p = all_append (IsFair s) run.past (e ∷ []) p (fair, tt)

  idle_fair : (e : Entry) → is_busy e ≡ false → IsFair s e
  idle_fair (entries.Taken who link address holder) idle = absurd cc
  idle_fair _ idle = tt

  noted_idle : (run : Run) (e : Entry) → is_busy e ≡ false → IsFairRun s run → IsFairRun s (note e run)
  noted_idle run e idle p = noted_fair e run (idle_fair e idle) p

  mark_fair : (m : Mark) → IsFair s (mark_entry m)
  mark_fair (Origin hot cot update) = tt
  mark_fair (Forged cause) = tt

  marked_fair : (e : Entry) (run : Run) → IsFair s e → IsFairRun s run → IsFairRun s (marked e run)
  marked_fair e run fair p = by (update_accepted e)
    where
      by : (o : Option AcceptedUpdate) → IsFairRun s (notes (e ∷ marks_of run.past o) run)
      by None = all_append (IsFair s) run.past (e ∷ []) p (fair, tt)
      by (Some a) = all_append (IsFair s) run.past (e ∷ mark_entry (mark_in run.past a) ∷ []) p (fair, (mark_fair (mark_in run.past a), tt))

  -- what a node leaves that claims nothing
  left_fair : (n : ℕ) (e : Entry) (run : Run) → claims_one e ≡ false → IsFairRun s run → IsFairRun s (left_by s n run e)
  left_fair n (entries.Claimed who link address) run none p = absurd cc
  left_fair n (entries.Taken who link address holder) run none p = absurd cc
  left_fair n (entries.Released who link address) run none p = keeps_gives_up s (IsFairRun s) noted_idle n address run p
  left_fair n (entries.Restarted node) run none p = p
  left_fair n e run none p = marked_fair (named n 0 (length run.posts) e) run tt p

  sent_fair : (n from : ℕ) (shield : Option Shield) (packet : List ℕ) (run : Run) → IsFairRun s run → IsFairRun s (answered_one s n from run (Send shield packet))
  sent_fair n from shield packet run p =
      let post : Post = record { from = from; shield = shield; packet = packet } in
      let e : Entry = entries.Sent (length run.posts) (node_id n) (is_some shield) packet in
      keeps_overheard s (IsFairRun s) noted_idle from shield None (length run.posts) (entered post (note e run)) (noted_fair e run tt p)

  quiet_answer : (n from : ℕ) (answer : Answer) (run : Run) → answer_claims answer ≡ false → IsFairRun s run → IsFairRun s (answered_one s n from run answer)
  quiet_answer n from (Send shield packet) run none p = sent_fair n from shield packet run p
  quiet_answer n from (Note e) run none p = left_fair n e run none p

  quiet_answers : (n from : ℕ) (answers : List Answer) (run : Run) → list_any answer_claims answers ≡ false → IsFairRun s run → IsFairRun s (answered s n from run answers)
  unfolding answered
  quiet_answers n from [] run none p = p
  quiet_answers n from (answer ∷ answers) run none p =
      let parts = or_parts (answer_claims answer) (list_any answer_claims answers) none in
      quiet_answers n from answers (answered_one s n from run answer) parts.1 (quiet_answer n from answer run parts.0 p)

  -- a node that may find an address taken
  seeker_left : (n : ℕ) (e : Entry) (run : Run) → MayFindTaken s n → IsFairRun s run → IsFairRun s (left_by s n run e)
  seeker_left n (entries.Claimed who link address) run may p =
      keeps_claims s (IsFairRun s) noted_idle n address run (λ on holder. noted_fair (entries.Taken n on address holder) run may p) p
  seeker_left n (entries.Taken who link address holder) run may p =
      keeps_claims s (IsFairRun s) noted_idle n address run (λ on other. noted_fair (entries.Taken n on address other) run may p) p
  seeker_left n (entries.Released who link address) run may p = keeps_gives_up s (IsFairRun s) noted_idle n address run p
  seeker_left n (entries.Restarted node) run may p = p
  seeker_left n e run may p = marked_fair (named n 0 (length run.posts) e) run tt p

  seeker_answer : (n from : ℕ) (answer : Answer) (run : Run) → MayFindTaken s n → IsFairRun s run → IsFairRun s (answered_one s n from run answer)
  seeker_answer n from (Send shield packet) run may p = sent_fair n from shield packet run p
  seeker_answer n from (Note e) run may p = seeker_left n e run may p

  seeker_answers : (n from : ℕ) (answers : List Answer) (run : Run) → MayFindTaken s n → IsFairRun s run → IsFairRun s (answered s n from run answers)
  unfolding answered
  seeker_answers n from [] run may p = p
  seeker_answers n from (answer ∷ answers) run may p =
      seeker_answers n from answers (answered_one s n from run answer) may (seeker_answer n from answer run may p)

  -- an address that nobody else has is had
  free_claim : (n : ℕ) (address : Address) (run : Run) → other_than n (holder_in run.past address.0) ≡ None → IsFairRun s run → IsFairRun s (claims s n address run)
  free_claim n address run free p = by (link_of s.links address.0)
    where
      of_other : (link other : ℕ) (mine : Bool) → (if mine then None else Some other) ≡ None
          → IsFairRun s (note (if mine then entries.Claimed n (link_id link) address else entries.Taken n (link_id link) address other) run)
      of_other link other true is = noted_fair (entries.Claimed n (link_id link) address) run tt p
      of_other link other false is = absurd cc

      claim : (link : ℕ) (holder : Option ℕ) → other_than n holder ≡ None → IsFairRun s (note (claim_entry n address link holder) run)
      claim link None is = noted_fair (entries.Claimed n (link_id link) address) run tt p
      claim link (Some other) is = of_other link other (other == n) is

      by : (link : Option ℕ) → IsFairRun s (claimed_on n address run link)
      by None = noted_fair entries.Idle run tt p
      by (Some link) = claim link (holder_in run.past address.0) free

-- a correspondent claims nothing
correspondent_none : (steps : List correspondents.Step) → list_any answer_claims (correspondents.answers_of steps) ≡ false
correspondent_none [] = refl
correspondent_none (correspondents.Called call ∷ steps) = correspondent_none steps
correspondent_none (correspondents.Sends packet ∷ steps) = correspondent_none steps
correspondent_none (correspondents.Accepts number home binding a ∷ steps) = correspondent_none steps
correspondent_none (correspondents.Denies number status ∷ steps) = correspondent_none steps
correspondent_none (correspondents.Drops number why ∷ steps) = correspondent_none steps
correspondent_none (correspondents.HandsUp number source destination proto payload ∷ steps) = correspondent_none steps
correspondent_none (correspondents.Idles ∷ steps) = correspondent_none steps

-- a step of an agent that claims an address
abbrev claims_home : agents.Step → Bool
claims_home (agents.Claims home) = true
claims_home _ = false

-- what gives up addresses alone claims nothing
ending_none : (steps : List agents.Step) → list_any claims_home steps ≡ false → list_any answer_claims (agents.answers_of steps) ≡ false
ending_none [] none = refl
ending_none (agents.Called call ∷ steps) none = ending_none steps none
ending_none (agents.Sends shield packet ∷ steps) none = ending_none steps none
ending_none (agents.Registers number home binding ∷ steps) none = ending_none steps none
ending_none (agents.Claims home ∷ steps) none = absurd cc
ending_none (agents.Releases home ∷ steps) none = ending_none steps none
ending_none (agents.Denies number status ∷ steps) none = ending_none steps none
ending_none (agents.Drops number why ∷ steps) none = ending_none steps none
ending_none (agents.Rang ∷ steps) none = ending_none steps none

abbrev Silent : agent_transitions.Transition → Type 0
Silent t = list_any claims_home t.steps ≡ false

silent_noted : (step : agents.Step) (t : agent_transitions.Transition) → claims_home step ≡ false → Silent t → Silent (agent_transitions.noted step t)
silent_noted step t none is = none-noted after claims_home step t is none

-- a tick gives up addresses, and other calls do nothing about one
silent_releases : (es : List Ending) (t : agent_transitions.Transition) → Silent t → Silent (agent_doing.releases_all es t)
silent_releases [] t is = is
silent_releases (e ∷ es) t is = silent_releases es (agent_transitions.noted (agents.Releases e.home) t) (silent_noted (agents.Releases e.home) t refl is)

silent_advertises : (own : Address) (k : Known) (now : ℕ) (rows : List HomeRow) (t : agent_transitions.Transition) → Silent t → Silent (agent_doing.advertises_all own k now rows t)
unfolding advertises
silent_advertises own k now [] t is = is
silent_advertises own k now (r ∷ rows) t is =
    silent_advertises own k now rows (advertises own k now r.home r.careof 0 t) (silent_noted _ t refl is)

module _ (me : Identity) (k : Known) (now : ℕ) where
  abbrev begins : agent_calls.Call → agent_transitions.Transition
  begins c = agent_transitions.noted (agents.Called c) (agent_transitions.begun now k)

  silent_begins : (c : agent_calls.Call) → Silent (begins c)
  silent_begins c = silent_noted (agents.Called c) (agent_transitions.begun now k) refl refl

  silent_tick : Silent (agent_doing.transition_of me k now agent_calls.Tick)
  unfolding agent_doing.does agent_doing.ticks
  silent_tick = let t : agent_transitions.Transition = begins agent_calls.Tick in silent_noted agents.Rang _ refl (silent_releases (due_ends t.now t.known.ends) t (silent_begins agent_calls.Tick))

  silent_plan : (valid preferred : ℕ) → Silent (agent_doing.transition_of me k now (agent_calls.Plan valid preferred))
  unfolding agent_doing.does agent_doing.plans
  silent_plan valid preferred =
      let t : agent_transitions.Transition = begins (agent_calls.Plan valid preferred) in
      silent_advertises me.own t.known t.now (rows_at t.now t.known.homes) t (silent_begins (agent_calls.Plan valid preferred))

  silent_hear : (agent : Address) (preference life : ℕ) → Silent (agent_doing.transition_of me k now (agent_calls.Hear agent preference life))
  unfolding agent_doing.does
  silent_hear agent preference life = silent_begins (agent_calls.Hear agent preference life)

-- an agent, where a call claims nothing, and where it accepts an update: then its place had no other holder of the home address
module _ (s : Setup) (n : ℕ) (own : Address) (run : Run) (p : IsFairRun s run) where
  abbrev with_transition : agent_transitions.Transition → Run
  with_transition t = with_agent_past n (agent_transitions.with_transition (agent_past_at run n) t) run

  silent_transition : (t : agent_transitions.Transition) → Silent t → IsFairRun s (after_agent_transition s n own t run)
  silent_transition t is = quiet_answers s n (link_or_first s own.0) (agents.answers_of t.steps) (with_transition t) (ending_none t.steps is) p

  acknowledging_none : (ack : Bool) (me : Identity) (r : Registration) (granted : ℕ) → list_any claims_home (acknowledging_steps ack me r granted) ≡ false
  acknowledging_none true me r granted = refl
  acknowledging_none false me r granted = refl

  still_silent : (steps : List agents.Step) → list_any is_claim steps ≡ false → list_any claims_home steps ≡ false
  still_silent [] none = refl
  still_silent (agents.Called call ∷ steps) none = still_silent steps none
  still_silent (agents.Sends shield packet ∷ steps) none = still_silent steps none
  still_silent (agents.Registers number home binding ∷ steps) none = still_silent steps none
  still_silent (agents.Claims home ∷ steps) none = absurd cc
  still_silent (agents.Releases home ∷ steps) none = absurd cc
  still_silent (agents.Denies number status ∷ steps) none = still_silent steps none
  still_silent (agents.Drops number why ∷ steps) none = still_silent steps none
  still_silent (agents.Rang ∷ steps) none = still_silent steps none

  free_held : (holder : Option ℕ) → is_held (claim_of holder false) ≡ true → holder ≡ None
  free_held None is = refl
  free_held (Some other) is = absurd cc

  module _ (me : Identity) (k : Known) (now number : ℕ) (shield : Option Shield) (bytes : List ℕ) where
    abbrev claim : Claim
    claim = claim_for (around_in run n None) bytes

    -- where the update is accepted
    module _ (t : agent_transitions.Transition) (a : IsAccepted me k now number shield bytes claim t) where
      judged : IsSound (bench me k now a.update) shield (claim_with (holds k (home_of a.update)) claim) a.update a.home a.careof a.sequence a.granted
      judged = sound (bench me k now a.update) shield (claim_with (holds k (home_of a.update)) claim) a.update a.home a.careof a.sequence a.granted a.verdict_is

      -- the entry of the registration changes no holder
      abbrev registered : Run
      registered = note (entries.Home (node_id n) a.home a.careof a.sequence (let b : HomeBinding = binding_for now a.careof a.sequence a.granted in b.end)) (with_transition t)

      same_holder : holder_in registered.past a.home.0 ≡ holder_in run.past a.home.0
      same_holder =
          fold-append (λ (o : Option ℕ) (e : Entry). unwrap_or (holder_says a.home.0 e) o) None run.past
          (entries.Home (node_id n) a.home a.careof a.sequence (let b : HomeBinding = binding_for now a.careof a.sequence a.granted in b.end) ∷ [])

      -- nobody else has the home address where the agent is to claim it
      free : holds k (home_of a.update) ≡ false → deletes a.update ≡ false → other_than n (holder_in registered.past a.home.0) ≡ None
      free new stays =
          let j = judged in
          ap (other_than n) (same_holder ∙ ap (λ (x : Address). holder_in run.past x.0) j.of_home)
          ∙ ap (λ (x : ℕ). other_than n (holder_in run.past x)) (sym a.of_packet)
          ∙ free_held _ (sym (ap (λ (b : Bool). is_held (claim_with b claim)) new) ∙ j.held stays)

      abbrev steps : (held ends : Bool) → List agents.Step
      steps held ends =
          agents.Called (agent_calls.Take number shield bytes claim) ∷ agents.Registers number a.home (binding_for now a.careof a.sequence a.granted)
          ∷ (claiming_steps held ends a.home ++ acknowledging_steps a.update.ack me a.update a.granted)

      abbrev last : List agents.Step
      last = acknowledging_steps a.update.ack me a.update a.granted

      by : (held ends : Bool) → holds k (home_of a.update) ≡ held → deletes a.update ≡ ends → IsFairRun s (answered s n (link_or_first s own.0) (with_transition t) (agents.answers_of (steps held ends)))
      unfolding answered
      by true true is ends = quiet_answers s n _ (agents.answers_of (steps true true)) (with_transition t) (ending_none (steps true true) (acknowledging_none a.update.ack me a.update a.granted)) p
      by true false is ends = quiet_answers s n _ (agents.answers_of (steps true false)) (with_transition t) (ending_none (steps true false) (acknowledging_none a.update.ack me a.update a.granted)) p
      by false true is ends = quiet_answers s n _ (agents.answers_of (steps false true)) (with_transition t) (ending_none (steps false true) (acknowledging_none a.update.ack me a.update a.granted)) p
      by false false is ends =
          quiet_answers s n (link_or_first s own.0) (agents.answers_of last) (claims s n a.home registered) (ending_none last (acknowledging_none a.update.ack me a.update a.granted))
          (free_claim s n a.home registered (free is ends) (noted_fair s _ (with_transition t) tt p))

      accepted_fair : IsFairRun s (after_agent_transition s n own t run)
      accepted_fair =
          subst (λ (l : List agents.Step). IsFairRun s (answered s n (link_or_first s own.0) (with_transition t) (agents.answers_of l))) (sym (ap (λ (u : agent_transitions.Transition). u.steps) a.is))
          (by (holds k (home_of a.update)) (deletes a.update) refl refl)

    taking_fair : IsFairRun s (after_agent_transition s n own (agent_doing.transition_of me k now (agent_calls.Take number shield bytes claim)) run)
    taking_fair =
        let transition : agent_transitions.Transition = agent_doing.transition_of me k now (agent_calls.Take number shield bytes claim) in
        elim (taking_is me k now number shield bytes claim) as (λ _. IsFairRun s (after_agent_transition s n own transition run)) [
          | inl still ↦ silent_transition transition (still_silent transition.steps still.0)
          | inr a ↦ accepted_fair transition a
        ]

-- a node acts
module _ (s : Setup) (n : ℕ) (run : Run) (p : IsFairRun s run) where
  asks_fair : {C : Type 0} (does : C → Run → Run) (call : Option C) → ((c : C) → IsFairRun s (does c run)) → IsFairRun s (asks does call run)
  asks_fair does None go = noted_fair s entries.Idle run tt p
  asks_fair does (Some call) go = go call

  module _ (own : Address) (preference life room : ℕ) (serves : List Address) where
    abbrev transition : agent_calls.Call → agent_transitions.Transition
    transition c = agent_doing.transition_of (agent_of own preference life room) (agent_known_in run n serves) (now_in s run) c

    agent_fair : (call : Call) → IsFairRun s (by_kind s n own call run (Agent preference life room serves))
    agent_fair (Take number shield packet) =
        taking_fair s n own run p (agent_of own preference life room) (agent_known_in run n serves) (now_in s run) number shield packet
    agent_fair Tick =
        silent_transition s n own run p (transition agent_calls.Tick) (silent_tick (agent_of own preference life room) (agent_known_in run n serves) (now_in s run))
    agent_fair (Plan valid preferred) =
        silent_transition s n own run p (transition (agent_calls.Plan valid preferred))
        (silent_plan (agent_of own preference life room) (agent_known_in run n serves) (now_in s run) valid preferred)
    agent_fair (Hear agent preference' life') =
        silent_transition s n own run p (transition (agent_calls.Hear agent preference' life'))
        (silent_hear (agent_of own preference life room) (agent_known_in run n serves) (now_in s run) agent preference' life')
    agent_fair _ = noted_fair s entries.Idle run tt p

  kind_fair : (own : Address) (call : Call) (kind : Kind) → (is_mobile_kind kind ≡ true → MayFindTaken s n) → IsFairRun s (by_kind s n own call run kind)
  kind_fair own call (Correspondent room) may =
      asks_fair _ (for_correspondent call) (λ (c : correspondent_calls.Call).
      let t : correspondent_transitions.Transition = correspondent_doing.transition_of (identity_in s run n own room) (known_in s run n room) (now_in s run) c in
      quiet_answers s n _ (correspondents.answers_of t.steps) _ (correspondent_none t.steps) p)
  kind_fair own call (Agent preference life room serves) may = agent_fair own preference life room serves call
  kind_fair own call (Mobile agent) may =
      asks_fair _ (for_mobile (around_in run n (Some own.0)) own call) (λ (c : mobile_calls.Call).
      let t : mobile_transitions.Transition = mobile_doing.transition_of (mobile_known_in s run n own agent) (now_in s run) c in
      seeker_answers s n _ (mobiles.answers_of t.steps) _ (may refl) p)

  acts_fair : (call : Call) → IsFairRun s (acts s n call run)
  acts_fair call = by (slice_get s.hosts n) refl
    where
      by : (o : Option Host) → slice_get s.hosts n ≡ o → IsFairRun s (by_host s n call run o)
      by None is = noted_fair s entries.Idle run tt p
      by (Some host) is = kind_fair host.address call host.kind (λ mobile. inl (ap is_mobile_host is ∙ mobile))

-- all that can happen
fair_keeps : (s : Setup) → Keeps s (IsFairRun s)
fair_keeps s = record {
  idle = λ run e idle p. noted_idle s run e idle p;
  timed = λ run m p. noted_fair s (entries.At (record { 0 = m })) run tt p;
  injects = λ run o link packet p. noted_fair s (entries.Injected (length run.posts) o (link_id link) packet) run tt p;
  leaves = λ run k p. p;
  taken = λ run o link address holder p. noted_fair s (entries.Taken (holder_outside o) link address holder) run (inr (o, refl)) p;
  acted = λ run n call is stays lives p. acts_fair s n run p call;
  moved = λ run n link is p. noted_fair s (entries.Moved (node_id n) link) (acts s n Leave run) tt (acts_fair s n run p Leave);
  reborn = λ run n other p. noted_fair s (entries.Restarted (node_id n)) (emptied s n run) tt (emptied_keeps s n run (IsFairRun s) p p p);
  renewed = λ run n secrets is p. acts_fair s n (note (entries.Restarted (node_id n)) run) (noted_fair s (entries.Restarted (node_id n)) run tt p) (Restart secrets);
}

fair_run : (s : Setup) (events : List Event) → IsFairRun s (run_of s events)
fair_run s events = walk_run s (IsFairRun s) (fair_keeps s) events tt

at_place : (s : Setup) (before : List Entry) (e : Entry) (after : List Entry) → AllByRecursion (IsFair s) (before ++ e ∷ after) → IsFair s e
at_place s [] e after all = all.0
at_place s (b ∷ before) e after all = at_place s before e after all.1

pub seeker_of_run : (s : Setup) (events : List Event) (before : List Entry) (who : ℕ) (link : LinkId) (address : Address) (holder : ℕ) (after : List Entry)
    → (run_of s events).past ≡ before ++ entries.Taken who link address holder ∷ after → MayFindTaken s who
seeker_of_run s events before who link address holder after is =
    at_place s before (entries.Taken who link address holder) after (subst (AllByRecursion (IsFair s)) is (fair_run s events))

-- a mobile is no agent
mobile_no_agent : (s : Setup) (n : ℕ) → is_mobile_at s n ≡ true → is_agent_at s n ≡ false
mobile_no_agent s n = by (slice_get s.hosts n)
  where
    of_kind : (kind : Kind) → is_mobile_kind kind ≡ true → is_agent_kind kind ≡ false
    of_kind (Correspondent room) is = refl
    of_kind (Agent preference life room serves) is = absurd cc
    of_kind (Mobile agent) is = refl

    by : (o : Option Host) → is_mobile_host o ≡ true → is_agent_host o ≡ false
    by None is = refl
    by (Some host) is = of_kind host.kind is

pub no_agent_seeks : (s : Setup) (events : List Event) (before : List Entry) (who : ℕ) (link : LinkId) (address : Address) (holder : ℕ) (after : List Entry)
    → (run_of s events).past ≡ before ++ entries.Taken who link address holder ∷ after → ((o : ℕ) → who ≢ holder_outside o) → is_agent_at s who ≡ false
no_agent_seeks s events before who link address holder after is node =
    elim (seeker_of_run s events before who link address holder after is) as (λ _. is_agent_at s who ≡ false) [
      | inl mobile ↦ mobile_no_agent s who mobile
      | inr outside ↦ absurd (node outside.0 outside.1)
    ]
