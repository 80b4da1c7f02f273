-- A transition of a correspondent keeps a run, whether an update is accepted in it or not.
use Rattle.std.proofs.Common.{◌≡◌, ◌≢◌, ℕ, ◌<◌, ◌≤◌, List, [], ◌∷◌, ◌++◌, Bool, true, false, length, inl, inr, refl, sym, ap, ◌∙◌, subst, arith, length-set}
use Rattle.std.specs.Prelude.{fold, unwrap_or, option_map, ◌==◌, if◌then◌else◌}
use Rattle.std.specs.List.{list_any, AllByRecursion}
use Rattle.std.proofs.lemmas.List.{append-nil, append_assoc, get_or-set_same, get_or-set_other}
use Rattle.std.proofs.lemmas.List.Concat.{flat_map-append}
use Rattle.std.proofs.lemmas.List.Sums.{fold-append}
use Rattle.std.proofs.lemmas.Bool.{or_parts, cases_eq, eq-eqb, ne_eqb}
use Rattle.mip_words.specs.declared.address.Address.{Address}
use Rattle.mip_words.specs.EachAfter.{EachAfter}
use Rattle.mip_words.proofs.EachLaws.{each-append}
use Rattle.mip_binding.specs.Acceptance.{Acceptance}
use Rattle.mip_bcache.specs.declared.accepted.Accepted.{Accepted}
use Rattle.mip_bcache.specs.Seen.{acceptance}
use Rattle.mip_entries.specs.declared.entry.Entry.{Entry}
use Rattle.mip_entries.specs.declared.entry.Entry.TheVariants as entries
use Rattle.mip_entries.specs.Stamped.{Stamped, stamped}
use Rattle.mip_entries.proofs.PastLaws.{rises_transition}
use Rattle.mip_rules_correspondent.specs.Calls.{Call}
use Rattle.mip_rules_correspondent.specs.Steps.{Step, Called, Accepts, answers_of}
use Rattle.mip_rules_correspondent.specs.StepsLaws.{is_acceptance}
use Rattle.mip_rules_correspondent.specs.Pasts.{acceptance_in, accepted_in}
use Rattle.mip_nonce.specs.Window.{index_of}
use Rattle.mip_entries.specs.Completed.{node_id}
use Rattle.mip_provenance.specs.declared.accepted_update.AcceptedUpdate.{AcceptedUpdate}
use Rattle.mip_provenance.specs.Entries.{mark_entry}
use Rattle.mip_provenance.specs.Marks.{mark_in}
use Rattle.mip_history.specs.Setup.{Setup}
use Rattle.mip_history.specs.SetupLaws.{is_correspondent_host, is_correspondent_at}
use Rattle.mip_history.specs.Runs.{Run, past_at, with_past}
use Rattle.mip_history.specs.Questions.{moment_says, moment_in, restarts, life_in}
use Rattle.mip_history.specs.KnowingLaws.{part_in}
use Rattle.mip_history.specs.Nodes.{answered}
use Rattle.mip_history.specs.Bound.{Lived, lived, accepted_by, IsAccepted, accepted_entry}
use Rattle.mip_history.proofs.Runs.{Meets, IsPast, past_stays, part_stays, IsRun, IsQuiet, Goes, goes_quietly, goes_then, quiet_then, quiet_one}
use Rattle.mip_history.proofs.Answering.{mark_quiet, differs, quiet_steps}

-- the moment that goes along with the acceptances is the moment
pub lived_at : (n : ℕ) (l : Lived) (past : List Entry) → (fold (lived n) l past).at ≡ moment_in l.at past
lived_at n l [] = refl
lived_at n l (e ∷ past) = lived_at n (lived n l e) past ∙ ap (λ (at : ℕ). moment_in at past) (by e)
  where
    if_at : (b : Bool) (xs ys : List Acceptance) → (let x : Lived = (if b then record { at = l.at; accepted = xs } else l) in x.at) ≡ l.at
    if_at true xs ys = refl
    if_at false xs ys = refl

    by : (e : Entry) → (lived n l e).at ≡ unwrap_or (moment_says e) l.at
    by (entries.Accepted node number home binding careof sequence end i j) =
        if_at (n == node.0) (l.accepted ++ record { at = l.at; home = home.0; number = binding; careof = careof.0; sequence = sequence; end = end.0 } ∷ []) []
    by _ = refl

-- the acceptances of a transition stand behind those before it
accepted_transition : (past transition : List (Stamped Step)) → accepted_in (past ++ transition) ≡ accepted_in past ++ accepted_in transition
unfolding accepted_in
accepted_transition past transition = flat_map-append (λ (t : Stamped Step). acceptance_in t.at t.step) past transition

none_in : (at : ℕ) (step : Step) → is_acceptance step ≡ false → acceptance_in at step ≡ []
none_in at (Accepts number home binding accepted) none = absurd cc
none_in at _ none = refl

none_accepted : (at : ℕ) (steps : List Step) → list_any is_acceptance steps ≡ false → accepted_in (stamped at steps) ≡ []
unfolding accepted_in
none_accepted at [] none = refl
none_accepted at (step ∷ steps) none =
    let parts = or_parts (is_acceptance step) (list_any is_acceptance steps) none in
    ap (λ (l : List Acceptance). l ++ accepted_in (stamped at steps)) (none_in at step parts.0) ∙ none_accepted at steps parts.1

-- moments rise through a transition
early_stamped : (at : ℕ) (steps : List Step) → AllByRecursion (λ t. t.at ≤ at) (stamped at steps)
early_stamped at [] = tt
early_stamped at (step ∷ steps) = (omega arith, early_stamped at steps)

early_transition : (at : ℕ) (past : List (Stamped Step)) (steps : List Step) → AllByRecursion (λ t. t.at ≤ at) past → AllByRecursion (λ t. t.at ≤ at) (past ++ stamped at steps)
early_transition at [] steps all = early_stamped at steps
early_transition at (t ∷ past) steps all = (all.0, early_transition at past steps all.1)

-- a past goes on by a transition at the present moment, in which nothing is accepted; or by one in which an update is accepted
pub quiet_past : (s : Setup) (past : List Entry) (old : List (Stamped Step)) (n : ℕ) (steps : List Step) → list_any is_acceptance steps ≡ false → IsPast s past old n
    → IsPast s past (old ++ stamped (moment_in s.start past) steps) n
quiet_past s past old n steps none p = record {
  accepted =
      accepted_transition old (stamped (moment_in s.start past) steps)
      ∙ ap (λ (l : List Acceptance). accepted_in old ++ l) (none_accepted (moment_in s.start past) steps none)
      ∙ append-nil (accepted_in old)
      ∙ p.accepted;
  rises = rises_transition 0 (moment_in s.start past) old steps (omega arith) p.early p.rises;
  early = early_transition (moment_in s.start past) old steps p.early;
}

-- the history with one acceptance more
pub accepted_more : (start n k : ℕ) (past : List Entry) (home : Address) (binding : ℕ) (a : Accepted)
    → accepted_by start (past ++ accepted_entry n k home binding a ∷ []) n ≡ accepted_by start past n ++ acceptance (moment_in start past) home binding a ∷ []
unfolding accepted_by
accepted_more start n k past home binding a =
    ap (λ (l : Lived). l.accepted) (fold-append (lived n) (record { at = start; accepted = [] }) past (accepted_entry n k home binding a ∷ []))
    ∙ by (fold (lived n) (record { at = start; accepted = [] }) past) (lived_at n (record { at = start; accepted = [] }) past) (n == n) (eq-eqb n n refl)
  where
    by : (l : Lived) → l.at ≡ moment_in start past → (b : Bool) → b ≡ true
        → (let x : Lived = (if b then record { at = l.at; accepted = l.accepted ++ acceptance l.at home binding a ∷ [] } else l) in x.accepted) ≡ l.accepted ++ acceptance (moment_in start past) home binding a ∷ []
    by l at true is = ap (λ (m : ℕ). l.accepted ++ acceptance m home binding a ∷ []) at
    by l at false is = absurd cc

pub accepted_moment : (start n k : ℕ) (past : List Entry) (home : Address) (binding : ℕ) (a : Accepted) → moment_in start (past ++ accepted_entry n k home binding a ∷ []) ≡ moment_in start past
accepted_moment start n k past home binding a = fold-append (λ (at : ℕ) (x : Entry). unwrap_or (moment_says x) at) start past (accepted_entry n k home binding a ∷ [])

pub accepted_lives : (n k : ℕ) (past : List Entry) (home : Address) (binding : ℕ) (a : Accepted) (m : ℕ) → life_in (past ++ accepted_entry n k home binding a ∷ []) m ≡ life_in past m
accepted_lives n k past home binding a m = fold-append (restarts m) 0 past (accepted_entry n k home binding a ∷ [])

-- and it meets what it should
pub accepted_kept : (s : Setup) (past : List Entry) (n k : ℕ) (home : Address) (binding : ℕ) (a : Accepted) → IsAccepted s past n k home binding a
    → EachAfter (Meets s) [] past → EachAfter (Meets s) [] (past ++ accepted_entry n k home binding a ∷ [])
accepted_kept s past n k home binding a stands kept =
    each-append (Meets s) [] past (accepted_entry n k home binding a ∷ []) kept
    (record { node = n; number = k; home = home; binding = binding; accepted = a; is = refl; stands = stands }, tt)

pub accepted_other : (start m n k : ℕ) (past : List Entry) (home : Address) (binding : ℕ) (a : Accepted) → m ≢ n
    → accepted_by start (past ++ accepted_entry n k home binding a ∷ []) m ≡ accepted_by start past m
unfolding accepted_by
accepted_other start m n k past home binding a other =
    ap (λ (l : Lived). l.accepted) (fold-append (lived m) (record { at = start; accepted = [] }) past (accepted_entry n k home binding a ∷ []))
    ∙ by (fold (lived m) (record { at = start; accepted = [] }) past) (m == n) (ne_eqb m n other)
  where
    by : (l : Lived) (b : Bool) → b ≡ false → (let x : Lived = (if b then record { at = l.at; accepted = l.accepted ++ acceptance l.at home binding a ∷ [] } else l) in x.accepted) ≡ l.accepted
    by l true is = absurd cc
    by l false is = refl

-- a past goes on by a transition in which an update is accepted, and so does the history
pub accepting_past : (s : Setup) (past : List Entry) (old : List (Stamped Step)) (n number : ℕ) (home : Address) (binding : ℕ) (a : Accepted) (call : Call) (rest : List Step) → list_any is_acceptance rest ≡ false → IsPast s past old n
    → IsPast s (past ++ accepted_entry n number home binding a ∷ []) (old ++ stamped (moment_in s.start past) (Called call ∷ Accepts number home binding a ∷ rest)) n
unfolding accepted_in
accepting_past s past old n number home binding a call rest none p = record {
  accepted =
      accepted_transition old (stamped (moment_in s.start past) (Called call ∷ Accepts number home binding a ∷ rest))
      ∙ ap (λ (l : List Acceptance). accepted_in old ++ acceptance (moment_in s.start past) home binding a ∷ l) (none_accepted (moment_in s.start past) rest none)
      ∙ ap (λ (l : List Acceptance). l ++ acceptance (moment_in s.start past) home binding a ∷ []) p.accepted
      ∙ sym (accepted_more s.start n number past home binding a);
  rises = rises_transition 0 (moment_in s.start past) old (Called call ∷ Accepts number home binding a ∷ rest) (omega arith) p.early p.rises;
  early =
      subst (λ (at : ℕ). AllByRecursion (λ t. t.at ≤ at) (old ++ stamped (moment_in s.start past) (Called call ∷ Accepts number home binding a ∷ rest))) (sym (accepted_moment s.start n number past home binding a))
      (early_transition (moment_in s.start past) old (Called call ∷ Accepts number home binding a ∷ rest) p.early);
}

-- what a node does in a transition, from the history before it
abbrev pub done : Setup → ℕ → ℕ → ℕ → List Step → Run → Run
done s n from now steps run = answered s n from (with_past n (past_at run n ++ stamped now steps) run) (answers_of steps)

-- the run with this history
abbrev pub at_past : List Entry → Run → Run
at_past past run = record run { past = past }

-- with the mark of an update that was accepted behind this history
abbrev pub mark_of_accepted : ℕ → ℕ → Address → Accepted → List Entry → Entry
mark_of_accepted n number home a past =
    mark_entry (mark_in past (record { node = node_id n; number = number; home = home; careof = a.careof; home_index = index_of a.home_nonce; careof_index = option_map index_of a.careof_nonce }))

abbrev pub marked_with : ℕ → ℕ → Address → ℕ → Accepted → Run → List Entry → Run
marked_with n number home binding a run past = at_past (past ++ accepted_entry n number home binding a ∷ mark_of_accepted n number home a past ∷ []) run

pub quiet_mark : (s : Setup) (n number : ℕ) (home : Address) (binding : ℕ) (a : Accepted) (past : List Entry) (run : Run) → run.past ≡ past ++ accepted_entry n number home binding a ∷ []
    → IsQuiet s run (marked_with n number home binding a run past)
quiet_mark s n number home binding a past run is =
    let mark : Entry = mark_of_accepted n number home a past in
    let update : AcceptedUpdate = record { node = node_id n; number = number; home = home; careof = a.careof; home_index = index_of a.home_nonce; careof_index = option_map index_of a.careof_nonce } in
    subst (λ (l : List Entry). IsQuiet s run (at_past l run)) (ap (λ (l : List Entry). l ++ mark ∷ []) is ∙ append_assoc past (accepted_entry n number home binding a ∷ []) (mark ∷ []))
    (quiet_one s run mark (mark_quiet (mark_in past update)))

module _ (s : Setup) (n from : ℕ) (run : Run) (is : IsRun s run) (inside : n < length s.hosts) (corresponds : is_correspondent_at s n ≡ true) where
  here : (past : List (Stamped Step)) → past_at (with_past n past run) n ≡ past
  here past = get_or-set_same run.pasts n past [] (omega (arith, is.nodes))

  there : (m : ℕ) (past : List (Stamped Step)) → m ≢ n → past_at (with_past n past run) m ≡ past_at run m
  there m past other = get_or-set_other run.pasts n m past [] other

  count : (past : List (Stamped Step)) → length (with_past n past run).pasts ≡ length s.hosts
  count past = length-set run.pasts n past ∙ is.nodes

  -- the past of the node goes on, the others' stand
  goes_on : (steps : List Step) (past : List Entry)
      → IsPast s past (past_at run n ++ stamped (moment_in s.start run.past) steps) n
      → ((m : ℕ) → m ≢ n → accepted_by s.start past m ≡ accepted_by s.start run.past m)
      → moment_in s.start past ≡ moment_in s.start run.past
      → ((m : ℕ) → life_in past m ≡ life_in run.past m)
      → EachAfter (Meets s) [] past
      → IsRun s (at_past past (with_past n (past_at run n ++ stamped (moment_in s.start run.past) steps) run))
  goes_on steps past mine others moment lives kept = record {
    nodes = count next;
    agents = is.agents;
    mobiles = is.mobiles;
    kept = kept;
    pasts = λ m within. elim (cases_eq m n) as (λ _. IsPast s past (past_at (with_past n next run) m) m) [
      | inl e ↦ subst (λ (m : ℕ). IsPast s past (past_at (with_past n next run) m) m) (sym e) (subst (λ (l : List (Stamped Step)). IsPast s past l n) (sym (here next)) mine)
      | inr other ↦ subst (λ (l : List (Stamped Step)). IsPast s past l m) (sym (there m next other)) (past_stays s run.past past (past_at run m) m (others m other) moment (is.pasts m within))
    ];
    parts = λ m home agent e.
        part_stays s run.past past (part_in s run m home) m (others m (λ same. differs s n m corresponds (ap is_correspondent_host e) (sym same))) moment (lives m) (is.parts m home agent e);
  }
    where
      next : List (Stamped Step)
      next = past_at run n ++ stamped (moment_in s.start run.past) steps

  -- from a run of the same moment and lives on quietly
  quietly : (middle end : Run) → IsRun s middle → moment_in s.start middle.past ≡ moment_in s.start run.past
      → ((m : ℕ) → life_in middle.past m ≡ life_in run.past m) → IsQuiet s middle end → Goes s run end
  quietly middle end run_is moment life quiet =
      goes_then s run middle end (record { run = run_is; moment = moment; life = life }) (goes_quietly s middle end run_is quiet)

  pub quiet_transition : (steps : List Step) → list_any is_acceptance steps ≡ false → Goes s run (done s n from (moment_in s.start run.past) steps run)
  quiet_transition steps none =
      let middle = with_past n (past_at run n ++ stamped (moment_in s.start run.past) steps) run in
      quietly middle (answered s n from middle (answers_of steps))
      (goes_on steps run.past (quiet_past s run.past (past_at run n) n steps none (is.pasts n corresponds)) (λ m other. refl) refl (λ m. refl) is.kept)
      refl (λ m. refl)
      (quiet_steps s n from middle steps none)

  pub accepting_transition : (call : Call) (number : ℕ) (home : Address) (binding : ℕ) (a : Accepted) (rest : List Step) → list_any is_acceptance rest ≡ false
      → IsAccepted s run.past n number home binding a
      → Goes s run (done s n from (moment_in s.start run.past) (Called call ∷ Accepts number home binding a ∷ rest) run)
  unfolding answered
  accepting_transition call number home binding a rest none stands =
      quietly middle (answered s n from (marked_with n number home binding a middle run.past) (answers_of rest))
      (goes_on steps (run.past ++ accepted_entry n number home binding a ∷ [])
      (accepting_past s run.past (past_at run n) n number home binding a call rest none (is.pasts n corresponds))
      (λ m other. accepted_other s.start m n number run.past home binding a other)
      (accepted_moment s.start n number run.past home binding a) (accepted_lives n number run.past home binding a)
      (accepted_kept s run.past n number home binding a stands is.kept))
      (accepted_moment s.start n number run.past home binding a) (accepted_lives n number run.past home binding a)
      (quiet_then s middle (marked_with n number home binding a middle run.past) (answered s n from (marked_with n number home binding a middle run.past) (answers_of rest))
      (quiet_mark s n number home binding a run.past middle refl)
      (quiet_steps s n from (marked_with n number home binding a middle run.past) rest none))
    where
      steps : List Step
      steps = Called call ∷ Accepts number home binding a ∷ rest

      middle : Run
      middle = at_past (run.past ++ accepted_entry n number home binding a ∷ []) (with_past n (past_at run n ++ stamped (moment_in s.start run.past) steps) run)
