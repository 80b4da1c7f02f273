-- The places that a mobile came to, and so the number of the bindings that it asks for, are those that its entries tell.
use Rattle.std.proofs.Common.{◌≡◌, ◌≢◌, ℕ, zero, suc, ◌+◌, ◌%◌, ◌<◌, ◌≤◌, List, [], ◌∷◌, length, Bool, true, false, inl, inr, refl, sym, ap, ◌∙◌, subst, length-set}
use Rattle.std.specs.Prelude.{fold, map, not, ◌&&◌, ◌==◌, if◌then◌else◌, Option, Some, None, slice_get, slice_index_or}
use Rattle.std.proofs.lemmas.Bool.{cases_eq, eq-eqb, ne_eqb}
use Rattle.std.proofs.Math.Nat.{mod-eq_of_lt, mod-lt}
use Rattle.std.proofs.lemmas.List.{length-map}
use Rattle.std.proofs.lemmas.List.Sums.{fold-append}
use Rattle.mip_words.specs.declared.address.Address.{Address}
use Rattle.mip_nonce.specs.Secrets.{Life}
use Rattle.mip_entries.specs.declared.answer.Answer.{Answer}
use Rattle.mip_entries.specs.declared.entry.Entry.{Entry}
use Rattle.mip_entries.specs.declared.entry.Entry.TheVariants as entries
use Rattle.mip_entries.specs.Completed.{node_id}
use Rattle.mip_entries.specs.Stamped.{Stamped}
use Rattle.mip_entries.specs.Transitions.{noted_by}
use Rattle.mip_outside.specs.Places.{claim_in}
use Rattle.mip_rules_correspondent.specs.Calls as correspondent_calls
use Rattle.mip_rules_correspondent.specs.Wholes.{is_own}
use Rattle.mip_rules_agent.specs.Calls as agent_calls
use Rattle.mip_rules_mobile.specs.declared.attachment.Attachment.{Attachment}
use Rattle.mip_rules_mobile.specs.declared.attachment.Attachment.TheVariants.{Detached, AtHome, Away}
use Rattle.mip_rules_mobile.specs.Calls as mobiles
use Rattle.mip_rules_mobile.specs.Steps.{Step, Called, Notes, Arrives, Restarts, answers_of}
use Rattle.mip_rules_mobile.specs.Known.{Known}
use Rattle.mip_rules_mobile.specs.HomeQuestions.{home_of, numbers_of, binding_number_of}
use Rattle.mip_rules_mobile.specs.Questions.{after, fresh, known}
use Rattle.mip_rules_mobile.specs.Transitions.{Transition, begun, noted}
use Rattle.mip_rules_mobile.specs.MovingRules.{address_under, registers_if_away, restarts}
use Rattle.mip_rules_mobile.specs.PartLaws.{is_restart}
use Rattle.mip_rules_mobile.specs.Doing.{does, transition_of}
use Rattle.mip_rules_mobile.specs.Fitting.{Fits, EachFits, kind_of}
use Rattle.mip_rules_mobile.specs.Fitting.Kind.{Steady}
use Rattle.mip_rules_mobile.proofs.Steady.{standing-noted}
use Rattle.mip_rules_mobile.proofs.HomeWalks.{every-registers}
use Rattle.mip_rules_mobile.proofs.Fits.{known_along, call-along}
use Rattle.mip_rules_mobile.proofs.PartLives.{HasPart, part-kept, fresh-part, part-numbers, part-home}
use Rattle.mip_links.specs.Table.{holder_outside}
use Rattle.mip_schedule.specs.declared.event.Event.{Event}
use Rattle.mip_history.specs.Setup.{Setup, Host, Kind, is_mobile_host}
use Rattle.mip_history.specs.Setup.Kind.{Correspondent, Agent, Mobile}
use Rattle.mip_history.specs.Runs.{Run, note, mobile_past_at, with_past, with_agent_past, with_mobile_past}
use Rattle.mip_history.specs.Calls as calls
use Rattle.mip_history.specs.Calls.{for_correspondent, for_agent, for_mobile}
use Rattle.mip_history.specs.Claims.{claims}
use Rattle.mip_history.specs.Homes.{gives_up}
use Rattle.mip_history.specs.Knowing.{now_in, secrets_in, mobile_known_in, around_in}
use Rattle.mip_history.specs.Nodes.{after_mobile_transition, answered, asks, by_kind, by_host, acts}
use Rattle.mip_history.specs.Permitted.{opening_claims, opened, run_of}
use Rattle.mip_history.proofs.Opening.{claims_none, nothing}
use Rattle.mip_history.proofs.Keeping.{emptied}
use Rattle.mip_history.proofs.Folds.{emptied_keeps}
use Rattle.mip_history.proofs.Effects.{answers_mobiles}
use Rattle.mip_history.proofs.Changes.{IsLeft, IsBy, Change, left, comes, injects, drops, squats, yields, acted, moved, reborn, gives, renewed, all_keep}
use Rattle.mip_settled.proofs.Roaming.{others_acts, known_then}
use Rattle.mip_settled.proofs.Declared.{declared_of_run}
use Rattle.mip_past.specs.Asking.{place_told, places_from, binding_number_told}
use Rattle.mip_past.proofs.Silent.{is_loud, s-notes, s-claims, s-gives_up}
use Rattle.mip_past.proofs.Telling as telling
use Rattle.mip_past.proofs.Telling.{IsDeaf, entry_told, answer_told, other_answers}

module _ (numbers m : ℕ) (own : Address) where
  abbrev f : ℕ → Entry → ℕ
  f x e = place_told numbers m own x e

  places_silent : (x : ℕ) (e : Entry) → is_loud e ≡ false → f x e ≡ x
  places_silent x (entries.Careof node address) quiet = absurd cc
  places_silent x (entries.Restarted node) quiet = absurd cc
  places_silent x _ quiet = refl

  places_deaf : IsDeaf m ℕ f
  places_deaf = record {
    silent = places_silent;
    home = λ x n home careof sequence end other. refl;
    place = λ x n address other. ap (λ (b : Bool). if b && not (address.0 == own.0) then (x + 1) % numbers else x) (ne_eqb m n other);
    life = λ x n other. ap (λ (b : Bool). if b then 0 else x) (ne_eqb m n other);
    advert = λ x n link router other. refl;
  }

  -- places are numbers of bindings
  places_fit : 1 ≤ numbers → (x : ℕ) (e : Entry) → x < numbers → f x e < numbers
  places_fit some x (entries.Careof node address) less = by ((m == node.0) && not (address.0 == own.0))
    where
      by : (b : Bool) → (if b then (x + 1) % numbers else x) < numbers
      by true = mod-lt (x + 1) some
      by false = less
  places_fit some x (entries.Restarted node) less = by (m == node.0)
    where
      by : (b : Bool) → (if b then 0 else x) < numbers
      by true = some
      by false = less
  places_fit some x _ less = less

  places_small : 1 ≤ numbers → (es : List Entry) (x : ℕ) → x < numbers → fold (place_told numbers m own) x es < numbers
  places_small some [] x less = less
  places_small some (e ∷ es) x less = places_small some es (f x e) (places_fit some x e less)

  -- what a step of the mobile tells
  abbrev step_told : ℕ → Step → ℕ
  step_told x (Arrives address) = f x (entries.Careof (node_id m) address)
  step_told x (Notes entry) = entry_told f m x entry
  step_told x _ = x

  own_answers : (x : ℕ) (steps : List Step) → fold (answer_told f m) x (answers_of steps) ≡ fold step_told x steps
  own_answers x [] = refl
  own_answers x (Notes entry ∷ steps) = own_answers (entry_told f m x entry) steps
  own_answers x (Arrives address ∷ steps) = own_answers (f x (entries.Careof (node_id m) address)) steps
  own_answers x (_ ∷ steps) = own_answers x steps

  own_note : (x : ℕ) (e : Entry) → is_own e ≡ true → entry_told f m x e ≡ x
  own_note x (entries.Home node home careof sequence end) own = absurd cc
  own_note x (entries.Careof node address) own = absurd cc
  own_note x _ own = refl

  -- what is told is known
  abbrev Joined : ℕ → Known → Type 0
  Joined x k = (x ≡ k.places) × HasPart own numbers k

  arrives_row : (x : ℕ) (k : Known) (address : Address) → x ≡ k.places → HasPart own numbers k
      → step_told x (Arrives address) ≡ (if address.0 == (home_of k).0 then k.places else (k.places + 1) % numbers_of k)
  arrives_row x k address same part =
      ap (λ (b : Bool). if b && not (address.0 == own.0) then (x + 1) % numbers else x) (eq-eqb m m refl)
      ∙ by (address.0 == own.0)
      ∙ ap (λ (n : ℕ). if address.0 == own.0 then n else (n + 1) % numbers) same
      ∙ ap (λ (n : ℕ). if address.0 == own.0 then k.places else (k.places + 1) % n) (sym (part-numbers own numbers k part))
      ∙ ap (λ (a : Address). if address.0 == a.0 then k.places else (k.places + 1) % numbers_of k) (sym (part-home own numbers k part))
    where
      by : (b : Bool) → (if true && not b then (x + 1) % numbers else x) ≡ (if b then x else (x + 1) % numbers)
      by true = refl
      by false = refl

  row : (c : mobiles.Call) (now x : ℕ) (k : Known) (step : Step) → is_restart c ≡ false → Fits c now k step → Joined x k → step_told x step ≡ (let l : Known = after k (record { at = now; step = step }) in l.places)
  unfolding after
  row c now x k (Arrives address) lives fits is = arrives_row x k address is.0 is.1
  row c now x k (Notes entry) lives fits is = own_note x entry fits ∙ is.0
  row c now x k (Restarts secrets) lives fits is = absurd (let both : false ≡ true = sym lives ∙ ap is_restart fits in cc)
  row c now x k _ lives fits is = is.0

  along : (c : mobiles.Call) (now : ℕ) (steps : List Step) (x : ℕ) (k : Known) → is_restart c ≡ false → EachFits c now k steps → Joined x k → fold step_told x steps ≡ (let l : Known = known_along k now steps in l.places)
  along c now [] x k lives each is = is.0
  along c now (step ∷ steps) x k lives each is =
      along c now steps (step_told x step) (after k (record { at = now; step = step })) lives each.1 (row c now x k step lives each.0 is, part-kept own numbers k (record { at = now; step = step }) is.1)

  lives_told : (k : Known) (now x : ℕ) (c : mobiles.Call) → is_restart c ≡ false → Joined x k → (let t : Transition = transition_of k now c in fold step_told x t.steps ≡ (let l : Known = t.known in l.places))
  lives_told k now x c lives is =
      let a = call-along k now c in
      let t : Transition = transition_of k now c in
      along c now t.steps x k lives a.each is ∙ ap (λ (l : Known). l.places) (sym a.known)

  -- it restarts: its entry stood before the transition
  module _ (k : Known) (now : ℕ) (secrets : Life) where
    record Follows (t : Transition) : Type 0 where
      joined : fold step_told 0 t.steps ≡ (let l : Known = t.known in l.places)

    steady_row : (k : Known) (at x : ℕ) (step : Step) → kind_of step ≡ Steady → x ≡ k.places → step_told x step ≡ (let l : Known = after k (record { at = at; step = step }) in l.places)
    unfolding after
    steady_row k at x (Arrives address) steady same = absurd cc
    steady_row k at x (Notes entry) steady same = absurd cc
    steady_row k at x (Restarts secrets) steady same = absurd cc
    steady_row k at x _ steady same = same

    follows_step : (step : Step) (t : Transition) → kind_of step ≡ Steady → Follows t → Follows (noted step t)
    unfolding noted_by
    follows_step step t steady is = record {
      joined = fold-append step_told 0 t.steps (step ∷ []) ∙ steady_row t.known t.now (fold step_told 0 t.steps) step steady is.joined;
    }

    abbrev c : mobiles.Call
    c = mobiles.Restart secrets

    abbrev first : Transition
    first = noted (Called c) (begun now k)

    follows_next : Follows (noted (Restarts secrets) first)
    unfolding noted_by after
    follows_next = record { joined = refl }

    restart_told : (let t : Transition = transition_of k now c in fold step_told 0 t.steps ≡ (let l : Known = t.known in l.places))
    unfolding does restarts
    restart_told = let is = by first.known.standing refl in is.joined
      where
        by : (st : Attachment) → first.known.standing ≡ st → Follows (registers_if_away st (noted (Restarts secrets) first))
        by Detached here = follows_next
        by AtHome here = follows_next
        by (Away careof) here =
            every-registers c Follows (λ step t steady fits is. follows_step step t steady is) careof (noted (Restarts secrets) first) (standing-noted (Restarts secrets) first ∙ here) follows_next

part_along : (own : Address) (numbers : ℕ) (k : Known) (past : List (Stamped Step)) → HasPart own numbers k → HasPart own numbers (fold after k past)
part_along own numbers k [] has = has
part_along own numbers k (s ∷ past) has = part_along own numbers (after k s) past (part-kept own numbers k s has)

part_known : (own : Address) (agent : Option Address) (numbers : ℕ) (secrets : Life) (past : List (Stamped Step)) → HasPart own numbers (known own agent numbers secrets past)
unfolding known
part_known own agent numbers secrets past = part_along own numbers (fresh own agent numbers secrets) past (fresh-part own agent numbers secrets)

fresh_places : (own : Address) (agent : Option Address) (numbers : ℕ) (secrets : Life) → (let l : Known = known own agent numbers secrets [] in l.places) ≡ 0
unfolding known
fresh_places own agent numbers secrets = refl

pub no_past : (hosts : List Host) (n : ℕ) → slice_index_or (map (λ (host : Host). let l : List (Stamped Step) = [] in l) hosts) n [] ≡ []
no_past [] n = refl
no_past (host ∷ hosts) zero = refl
no_past (host ∷ hosts) (suc n) = no_past hosts n

module _ (s : Setup) (m : ℕ) (own : Address) (agent : Option Address) (host : slice_get s.hosts m ≡ Some (record { address = own; kind = Mobile agent })) where
  abbrev g : ℕ → Entry → ℕ
  g x e = place_told s.numbers m own x e

  abbrev k : Run → Known
  k run = mobile_known_in s run m own agent

  abbrev told : Run → ℕ
  told run = fold g 0 run.past

  record IsTold (run : Run) : Type 0 where
    long : length run.mobile_pasts ≡ length s.hosts
    joined : told run ≡ (let l : Known = k run in l.places)

  goes_on : (run next : Run) → told next ≡ told run → length next.mobile_pasts ≡ length run.mobile_pasts → mobile_past_at next m ≡ mobile_past_at run m → IsTold run → IsTold next
  goes_on run next same long past t = record {
    long = long ∙ t.long;
    joined = same ∙ t.joined ∙ ap (λ (l : List (Stamped Step)). let x : Known = known own agent s.numbers (secrets_in s m 0) l in x.places) (sym past);
  }

  -- what is seen of a run
  record SameAs (run next : Run) : Type 0 where
    told_is : told next ≡ told run
    pasts_are : next.mobile_pasts ≡ run.mobile_pasts

  same_on : (run next : Run) → SameAs run next → IsTold run → IsTold next
  same_on run next same t =
      goes_on run next same.told_is (ap (λ (l : List (List (Stamped Step))). length l) same.pasts_are) (ap (λ (l : List (List (Stamped Step))). slice_index_or l m []) same.pasts_are) t

  same_entry : (run next : Run) (e : Entry) → ((x : ℕ) → g x e ≡ x) → SameAs run next → SameAs run (note e next)
  same_entry run next e silent same = record { told_is = telling.told_push s ℕ g 0 next e ∙ silent (told next) ∙ same.told_is; pasts_are = same.pasts_are }

  one_entry : (run : Run) (e : Entry) → ((x : ℕ) → g x e ≡ x) → IsTold run → IsTold (note e run)
  one_entry run e silent t = same_on run (note e run) (same_entry run run e silent (record { told_is = refl; pasts_are = refl })) t

  silent_one : (e : Entry) → is_loud e ≡ false → (x : ℕ) → g x e ≡ x
  silent_one e quiet x = places_silent s.numbers m own x e quiet

  keep : (run next : Run) (e : Entry) → is_loud e ≡ false → SameAs run next → SameAs run (note e next)
  keep run next e quiet same = same_entry run next e (silent_one e quiet) same

  -- what a node answers
  answers_told : (n from : ℕ) (answers : List Answer) (run start : Run) → told start ≡ told run → told (answered s n from start answers) ≡ fold (answer_told g n) (told run) answers
  answers_told n from answers run start same =
      let seen = telling.seen_answers s ℕ g 0 (places_silent s.numbers m own) (now_in s start) start.agent_pasts (told start) n from answers start (telling.seen_here s ℕ g 0 start) in
      seen.told_is ∙ ap (λ (x : ℕ). fold (answer_told g n) x answers) same

  -- another node
  module _ (n : ℕ) (other : m ≢ n) where
    other_told : (from : ℕ) (answers : List Answer) (run start : Run) → told start ≡ told run → told (answered s n from start answers) ≡ told run
    other_told from answers run start same = answers_told n from answers run start same ∙ other_answers m ℕ g (places_deaf s.numbers m own) n other (told run) answers

    other_asks : {C : Type 0} (does : C → Run → Run) (call : Option C) (run : Run) → ((c : C) → told (does c run) ≡ told run) → told (asks does call run) ≡ told run
    other_asks does None run go = telling.told_push s ℕ g 0 run entries.Idle
    other_asks does (Some call) run go = go call

    other_kind : (at : Address) (call : calls.Call) (run : Run) (kind : Kind) → told (by_kind s n at call run kind) ≡ told run
    other_kind at call run (Correspondent places) = other_asks _ (for_correspondent call) run (λ (c : correspondent_calls.Call). other_told _ _ run (with_past n _ run) refl)
    other_kind at call run (Agent rank lasts places homes) = other_asks _ (for_agent (around_in run n None) call) run (λ (c : agent_calls.Call). other_told _ _ run (with_agent_past n _ run) refl)
    other_kind at call run (Mobile home) = other_asks _ (for_mobile (around_in run n (Some at.0)) at call) run (λ (c : mobiles.Call). other_told _ _ run (with_mobile_past n _ run) refl)

    other_host : (call : calls.Call) (run : Run) → told (acts s n call run) ≡ told run
    other_host call run = by (slice_get s.hosts n)
      where
        by : (o : Option Host) → told (by_host s n call run o) ≡ told run
        by None = telling.told_push s ℕ g 0 run entries.Idle
        by (Some x) = other_kind x.address call run x.kind

    other_acts : (call : calls.Call) (run : Run) → IsTold run → IsTold (acts s n call run)
    other_acts call run t = let o = others_acts s n call run in goes_on run (acts s n call run) (other_host call run) o.long (o.others m other) t

  -- the mobile itself
  own_goes : (run : Run) (c : mobiles.Call) → length run.mobile_pasts ≡ length s.hosts
      → (let t : Transition = transition_of (k run) (now_in s run) c in fold (step_told s.numbers m own) (told run) t.steps ≡ (let l : Known = t.known in l.places))
      → IsTold (after_mobile_transition s m own (transition_of (k run) (now_in s run) c) run)
  own_goes run c long joined =
      let t : Transition = transition_of (k run) (now_in s run) c in
      record {
        long = (let e = answers_mobiles s m _ (answers_of t.steps) (with_mobile_past m _ run) in ap (λ (l : List (List (Stamped Step))). length l) e) ∙ long_set run _ long;
        joined =
            answers_told m _ (answers_of t.steps) run (with_mobile_past m _ run) refl
            ∙ own_answers s.numbers m own (told run) t.steps ∙ joined
            ∙ ap (λ (l : Known). l.places) (sym (known_then s m own agent host run long c));
      }
    where
      long_set : (run : Run) (past : List (Stamped Step)) → length run.mobile_pasts ≡ length s.hosts → length (let r : Run = with_mobile_past m past run in r.mobile_pasts) ≡ length s.hosts
      long_set run past long = length-set run.mobile_pasts m past ∙ long

  lives_on : (run : Run) (c : mobiles.Call) → is_restart c ≡ false → IsTold run → IsTold (after_mobile_transition s m own (transition_of (k run) (now_in s run) c) run)
  lives_on run c lives t =
      own_goes run c t.long (lives_told s.numbers m own (k run) (now_in s run) (told run) c lives (t.joined, part_known own agent s.numbers (secrets_in s m 0) (mobile_past_at run m)))

  abbrev is_rebirth : calls.Call → Bool
  is_rebirth (calls.Restart secrets) = true
  is_rebirth _ = false

  mine : (call : calls.Call) (run : Run) → is_rebirth call ≡ false → IsTold run → IsTold (by_kind s m own call run (Mobile agent))
  mine (calls.Take number shield packet) run lives t = lives_on run (mobiles.Take number shield packet) refl t
  mine (calls.Send to proto payload) run lives t = lives_on run (mobiles.Send to proto payload) refl t
  mine (calls.Refresh to) run lives t = lives_on run (mobiles.Refresh to) refl t
  mine calls.Tick run lives t = lives_on run mobiles.Tick refl t
  mine (calls.Attach prefix) run lives t =
      let around = around_in run m (Some own.0) in
      lives_on run (mobiles.Attach prefix (claim_in around own.0) (claim_in around (address_under own prefix).0)) refl t
  mine calls.Leave run lives t = lives_on run (mobiles.Leave (claim_in (around_in run m (Some own.0)) own.0)) refl t
  mine calls.Ask run lives t = lives_on run mobiles.Ask refl t
  mine (calls.Restart secrets) run lives t = absurd cc
  mine (calls.Plan valid preferred) run lives t = one_entry run entries.Idle (silent_one entries.Idle refl) t
  mine (calls.Hear agent' preference life) run lives t = one_entry run entries.Idle (silent_one entries.Idle refl) t

  told_acts : (n : ℕ) (call : calls.Call) (run : Run) → is_rebirth call ≡ false → IsTold run → IsTold (acts s n call run)
  told_acts n call run lives t =
      elim (cases_eq m n) as (λ _. IsTold (acts s n call run)) [
        | inl same ↦ subst (λ (x : ℕ). IsTold (acts s x call run)) same (subst (λ (o : Option Host). IsTold (by_host s m call run o)) (sym host) (mine call run lives t))
        | inr other ↦ other_acts n other call run t
      ]

  -- its next life
  born_mine : (secrets : Life) (run : Run) → IsTold run → IsTold (by_kind s m own (calls.Restart secrets) (note (entries.Restarted (node_id m)) run) (Mobile agent))
  born_mine secrets run t =
      let next : Run = note (entries.Restarted (node_id m)) run in
      let none : told next ≡ 0 = telling.told_push s ℕ g 0 run (entries.Restarted (node_id m)) ∙ ap (λ (b : Bool). if b then 0 else told run) (eq-eqb m m refl) in
      own_goes next (mobiles.Restart secrets) t.long
      (ap (λ (x : ℕ). let u : Transition = transition_of (k next) (now_in s next) (mobiles.Restart secrets) in fold (step_told s.numbers m own) x u.steps) none
      ∙ restart_told s.numbers m own (k next) (now_in s next) secrets)

  restarted_other : (n : ℕ) → m ≢ n → (x : ℕ) → g x (entries.Restarted (node_id n)) ≡ x
  restarted_other n other x = let deaf = places_deaf s.numbers m own in deaf.life x n other

  told_renewed : (n : ℕ) (secrets : Life) (run : Run) → IsTold run → IsTold (acts s n (calls.Restart secrets) (note (entries.Restarted (node_id n)) run))
  told_renewed n secrets run t =
      elim (cases_eq m n) as (λ _. IsTold (acts s n (calls.Restart secrets) (note (entries.Restarted (node_id n)) run))) [
        | inl same ↦
            subst (λ (x : ℕ). IsTold (acts s x (calls.Restart secrets) (note (entries.Restarted (node_id x)) run))) same
            (subst (λ (o : Option Host). IsTold (by_host s m (calls.Restart secrets) (note (entries.Restarted (node_id m)) run) o)) (sym host) (born_mine secrets run t))
        | inr other ↦ other_acts n other (calls.Restart secrets) (note (entries.Restarted (node_id n)) run) (one_entry run (entries.Restarted (node_id n)) (restarted_other n other) t)
      ]

  not_here : (n : ℕ) → is_mobile_host (slice_get s.hosts n) ≡ false → m ≢ n
  not_here n is same = absurd (let both : true ≡ false = sym (ap is_mobile_host host) ∙ ap (λ (x : ℕ). is_mobile_host (slice_get s.hosts x)) same ∙ is in cc)

  told_reborn : (n : ℕ) (run : Run) → is_mobile_host (slice_get s.hosts n) ≡ false → IsTold run → IsTold (note (entries.Restarted (node_id n)) (emptied s n run))
  told_reborn n run is t =
      one_entry (emptied s n run) (entries.Restarted (node_id n)) (restarted_other n (not_here n is))
      (emptied_keeps s n run IsTold t (record { long = t.long; joined = t.joined }) (record { long = t.long; joined = t.joined }))

  told_gives : (who : ℕ) (address : Address) (run : Run) → IsTold run → IsTold (gives_up s who address run)
  told_gives who address run t = same_on run (gives_up s who address run) (s-gives_up s (SameAs run) (keep run) who address run (record { told_is = refl; pasts_are = refl })) t

  told_claims : (who : ℕ) (address : Address) (run : Run) → IsTold run → IsTold (claims s who address run)
  told_claims who address run t = same_on run (claims s who address run) (s-claims s (SameAs run) (keep run) who address run (record { told_is = refl; pasts_are = refl })) t

  left_silent : (event : Event) (run : Run) (e : Entry) → IsLeft s event run e → (x : ℕ) → g x e ≡ x
  left_silent event run (entries.Careof node address) is = absurd is
  left_silent event run (entries.Restarted node) is = absurd is
  left_silent event run _ is = λ x. refl

  by_event : (event : Event) (run : Run) (n : ℕ) (call : calls.Call) → IsBy s event run n call → is_rebirth call ≡ false
  by_event event run n (calls.Restart secrets) is = absurd is
  by_event event run n _ is = refl

  change : (event : Event) (a b : Run) → Change s event a b → IsTold a → IsTold b
  change event _ _ (left run e is) t = one_entry run e (left_silent event run e is) t
  change event _ _ (comes run u wait early) t = one_entry run (entries.At (record { 0 = u })) (λ x. refl) t
  change event _ _ (injects run o link packet is) t =
      let noted : IsTold (note (entries.Injected (length run.posts) o link packet) run) = one_entry run (entries.Injected (length run.posts) o link packet) (λ x. refl) t in
      record { long = noted.long; joined = noted.joined }
  change event _ _ (drops run number) t = record { long = t.long; joined = t.joined }
  change event _ _ (squats run o address so) t = told_claims (holder_outside o) address run t
  change event _ _ (yields run o address so) t = told_gives (holder_outside o) address run t
  change event _ _ (acted run n call is) t = told_acts n call run (by_event event run n call is) t
  change event _ _ (moved run node link so is) t = one_entry (acts s node.0 calls.Leave run) (entries.Moved node link) (λ x. refl) (told_acts node.0 calls.Leave run refl t)
  change event _ _ (reborn run node so is) t = told_reborn node.0 run is t
  change event _ _ (gives run node address so within) t = told_gives node.0 address run t
  change event _ _ (renewed run node secrets so is life) t = told_renewed node.0 secrets run t

  told_nothing : IsTold (nothing s)
  told_nothing = record {
    long = length-map s.hosts (λ (x : Host). let l : List (Stamped Step) = [] in l);
    joined = sym (ap (λ (l : List (Stamped Step)). let x : Known = known own agent s.numbers (secrets_in s m 0) l in x.places) (no_past s.hosts m) ∙ fresh_places own agent s.numbers (secrets_in s m 0));
  }

  told_opened : IsTold (opened s)
  told_opened =
      same_on (nothing s) (opened s)
      (s-notes s (SameAs (nothing s)) (keep (nothing s)) (opening_claims s) (nothing s) (claims_none is_loud (λ who link address. refl) s.links [] s.hosts) (record { told_is = refl; pasts_are = refl })) told_nothing

  told_run : (es : List Event) → IsTold (run_of s es)
  told_run es = all_keep s IsTold (λ event a b so t. change event a b so t) (opened s) es told_opened

  -- the number that is asked is known
  pub number_as_told : 1 ≤ s.numbers → (es : List Event) → binding_number_told s.numbers (run_of s es).past m ≡ binding_number_of (mobile_known_in s (run_of s es) m own agent)
  number_as_told some es =
      let t : IsTold (run_of s es) = told_run es in
      ap (places_from s.numbers (run_of s es).past m) (declared_of_run s es m (record { address = own; kind = Mobile agent }) host)
      ∙ sym (mod-eq_of_lt (places_small s.numbers m own some (run_of s es).past 0 some))
      ∙ ap (λ (n : ℕ). n % s.numbers) t.joined
      ∙ ap (λ (n : ℕ). (let l : Known = mobile_known_in s (run_of s es) m own agent in l.places) % n)
      (sym (part-numbers own s.numbers (mobile_known_in s (run_of s es) m own agent) (part_known own agent s.numbers (secrets_in s m 0) (mobile_past_at (run_of s es) m))))
