-- A node begins its next life.
use Rattle.std.proofs.Common.{◌≡◌, ◌≢◌, ℕ, suc, ◌+◌, ◌<◌, List, [], ◌∷◌, ◌++◌, Bool, true, false, length, inl, inr, refl, sym, ap, ◌∙◌, subst, arith, length-set}
use Rattle.std.specs.Prelude.{Option, Some, unwrap_or, ◌==◌, if◌then◌else◌, slice_get, slice_set, slice_index_or}
use Rattle.std.proofs.lemmas.List.{get_or-set_same, get_or-set_other}
use Rattle.std.proofs.lemmas.List.Sums.{fold-append}
use Rattle.std.proofs.lemmas.Bool.{cases_eq, eq-eqb, ne_eqb}
use Rattle.mip_words.specs.declared.address.Address.{Address}
use Rattle.mip_words.specs.EachAfter.{EachAfter}
use Rattle.mip_words.proofs.EachLaws.{each-append}
use Rattle.mip_entries.specs.declared.entry.Entry.{Entry}
use Rattle.mip_entries.specs.declared.entry.Entry.TheVariants as entries
use Rattle.mip_entries.specs.Completed.{node_id}
use Rattle.mip_entries.specs.Stamped.{Stamped, stamped}
use Rattle.mip_nonce.specs.Secrets.{Life}
use Rattle.mip_rules_correspondent.specs.Steps.{Step}
use Rattle.mip_rules_correspondent.specs.Pasts.{accepted_in}
use Rattle.mip_rules_mobile.specs.Calls as mobiles
use Rattle.mip_rules_mobile.specs.Steps as mobile_steps
use Rattle.mip_rules_mobile.specs.Transitions.{Transition}
use Rattle.mip_rules_mobile.specs.Doing.{transition_of}
use Rattle.mip_rules_mobile.specs.PartLaws.{PartLife, part_life, IsPartReborn}
use Rattle.mip_rules_mobile.proofs.Calls.{call-now}
use Rattle.mip_rules_mobile.proofs.PartTransitions.{restart-part}
use Rattle.mip_history.specs.Setup.{Setup, is_mobile_host}
use Rattle.mip_history.specs.SetupLaws.{is_correspondent_at}
use Rattle.mip_history.specs.Setup.Kind.{Mobile}
use Rattle.mip_history.specs.Runs.{Run, note, past_at, mobile_past_at, with_past, with_mobile_past}
use Rattle.mip_history.specs.Questions.{moment_says, moment_in, restarts, life_in}
use Rattle.mip_history.specs.Knowing.{now_in, secrets_in, mobile_known_in, stands_on}
use Rattle.mip_history.specs.KnowingLaws.{part_in}
use Rattle.mip_history.specs.Nodes.{after_mobile_transition}
use Rattle.mip_history.specs.Bound.{Lived, lived, accepted_by}
use Rattle.mip_history.proofs.Runs.{Meets, IsPast, IsPart, past_stays, part_stays, IsRun, goes_quietly}
use Rattle.mip_history.proofs.Answering.{differs}
use Rattle.mip_history.proofs.PartTransitions.{mobile_apart, part_goes, mobile_done, reborn_life, quiet_reborn}
use Rattle.mip_history.proofs.Passes.{Passes, passes_before}

-- how often this restarts a node
abbrev pub again : ℕ → ℕ → ℕ
again n m = if m == n then 1 else 0

pub born_life : (past : List Entry) (n m : ℕ) → life_in (past ++ entries.Restarted (node_id n) ∷ []) m ≡ life_in past m + again n m
born_life past n m = fold-append (restarts m) 0 past (entries.Restarted (node_id n) ∷ []) ∙ by (m == n) (life_in past m)
  where
    by : (b : Bool) (count : ℕ) → (if b then suc count else count) ≡ count + (if b then 1 else 0)
    by true count = omega arith
    by false count = omega arith

module _ (s : Setup) (run : Run) (n : ℕ) (is : IsRun s run) where
  abbrev past : List Entry
  past = run.past ++ entries.Restarted (node_id n) ∷ []

  accepted_then : (m : ℕ) → accepted_by s.start past m ≡ (if m == n then [] else accepted_by s.start run.past m)
  unfolding accepted_by
  accepted_then m = ap (λ (l : Lived). l.accepted) (fold-append (lived m) (record { at = s.start; accepted = [] }) run.past (entries.Restarted (node_id n) ∷ []))

  moment_then : moment_in s.start past ≡ moment_in s.start run.past
  moment_then = fold-append (λ (at : ℕ) (x : Entry). unwrap_or (moment_says x) at) s.start run.past (entries.Restarted (node_id n) ∷ [])

  life_then : (m : ℕ) → life_in past m ≡ life_in run.past m + again n m
  life_then m = born_life run.past n m

  kept_then : EachAfter (Meets s) [] (run.past ++ entries.Restarted (node_id n) ∷ [])
  kept_then = each-append (Meets s) [] run.past (entries.Restarted (node_id n) ∷ []) is.kept (tt, tt)

  -- what another node has accepted counts on
  accepted_apart : (m : ℕ) → m ≢ n → accepted_by s.start past m ≡ accepted_by s.start run.past m
  accepted_apart m other = accepted_then m ∙ ap (λ (b : Bool). if b then [] else accepted_by s.start run.past m) (ne_eqb m n other)

  life_apart : (m : ℕ) → m ≢ n → life_in past m ≡ life_in run.past m
  life_apart m other = let e = life_then m in let none : again n m ≡ 0 = ap (λ (b : Bool). if b then 1 else 0) (ne_eqb m n other) in omega (arith, e, none)

  past_of_other : (m : ℕ) → is_correspondent_at s m ≡ true → m ≢ n → IsPast s past (past_at run m) m
  past_of_other m mine other = past_stays s run.past past (past_at run m) m (accepted_apart m other) moment_then (is.pasts m mine)

  part_of_other : (m : ℕ) (home : Address) (agent : Option Address) → slice_get s.hosts m ≡ Some (record { address = home; kind = Mobile agent }) → m ≢ n → IsPart s past (part_in s run m home) m
  part_of_other m home agent e other = part_stays s run.past past (part_in s run m home) m (accepted_apart m other) moment_then (life_apart m other) (is.parts m home agent e)

  -- what this one has accepted does not
  past_of_this : IsPast s past [] n
  unfolding accepted_in
  past_of_this = record {
    accepted = sym (accepted_then n ∙ ap (λ (b : Bool). if b then [] else accepted_by s.start run.past n) (eq-eqb n n refl));
    rises = tt;
    early = tt;
  }

  -- a node that is neither a correspondent nor a mobile
  pub other_reborn : is_correspondent_at s n ≡ false → is_mobile_host (slice_get s.hosts n) ≡ false → Passes s run (note (entries.Restarted (node_id n)) run) 0 (again n)
  other_reborn none unmoved = record {
    run = record {
      nodes = is.nodes;
      agents = is.agents;
      mobiles = is.mobiles;
      kept = kept_then;
      pasts = λ m mine. past_of_other m mine (differs s m n mine none);
      parts = λ m home agent e. part_of_other m home agent e (mobile_apart s n unmoved m home agent e);
    };
    moment = moment_then ∙ omega arith;
    life = life_then;
  }

  -- a correspondent
  pub correspondent_reborn : n < length s.hosts → is_mobile_host (slice_get s.hosts n) ≡ false → Passes s run (note (entries.Restarted (node_id n)) (with_past n [] run)) 0 (again n)
  correspondent_reborn inside unmoved = record {
    run = record {
      nodes = length-set run.pasts n [] ∙ is.nodes;
      agents = is.agents;
      mobiles = is.mobiles;
      kept = kept_then;
      pasts = pasts;
      parts = λ m home agent e. part_of_other m home agent e (mobile_apart s n unmoved m home agent e);
    };
    moment = moment_then ∙ omega arith;
    life = life_then;
  }
    where
      pasts : (m : ℕ) → is_correspondent_at s m ≡ true → IsPast s past (slice_index_or (slice_set run.pasts n []) m []) m
      pasts m mine = elim (cases_eq m n) as (λ _. IsPast s past (slice_index_or (slice_set run.pasts n []) m []) m) [
        | inl e ↦
            subst (λ (k : ℕ). IsPast s past (slice_index_or (slice_set run.pasts n []) k []) k) (sym e)
            (subst (λ (l : List (Stamped Step)). IsPast s past l n) (sym (get_or-set_same run.pasts n [] [] (let i = is.nodes in omega (arith, i, inside)))) past_of_this)
        | inr other ↦
            subst (λ (l : List (Stamped Step)). IsPast s past l m) (sym (get_or-set_other run.pasts n m [] [] other)) (past_of_other m mine other)
      ]

  -- a mobile: its correspondent part begins anew, with the secrets of the new life
  module _ (home : Address) (agent : Option Address) (host_is : slice_get s.hosts n ≡ Some (record { address = home; kind = Mobile agent })) where
    abbrev next : Run
    next = note (entries.Restarted (node_id n)) run

    abbrev secrets : Life
    secrets = secrets_in s n (life_in next.past n)

    abbrev transition : Transition
    transition = transition_of (mobile_known_in s next n home agent) (now_in s next) (mobiles.Restart secrets)

    reborn : IsPartReborn secrets (transition_of (mobile_known_in s next n home agent) (now_in s next) (mobiles.Restart secrets)).steps
    reborn = restart-part (mobile_known_in s next n home agent) (now_in s next) secrets

    abbrev moved : List (Stamped mobile_steps.Step)
    moved = mobile_past_at run n ++ stamped (now_in s next) transition.steps

    begins_anew : IsPart s past (part_life home s.numbers (secrets_in s n 0) (mobile_past_at run n ++ stamped (now_in s next) transition.steps)) n
    begins_anew =
        subst (λ (q : PartLife). IsPart s past q n)
        (sym (reborn_life home s.numbers (secrets_in s n 0) (mobile_past_at run n) (now_in s next) secrets transition.steps reborn))
        (record { secrets = refl; past = past_of_this })

    pub mobile_reborn : Passes s run (after_mobile_transition s n home transition next) 0 (again n)
    mobile_reborn =
        let middle = with_mobile_past n moved next in
        let there : IsRun s middle = part_goes s n home agent run is host_is past moved begins_anew accepted_apart moment_then life_apart kept_then in
        subst (λ (at : ℕ). Passes s run (mobile_done s n (unwrap_or (stands_on s next n home) 0) at transition.steps next) 0 (again n)) (sym (call-now (mobile_known_in s next n home agent) (now_in s next) (mobiles.Restart secrets)))
        (passes_before s run middle _ 0 (again n) (record { run = there; moment = moment_then ∙ omega arith; life = life_then })
        (goes_quietly s middle _ there (quiet_reborn s n (unwrap_or (stands_on s next n home) 0) middle secrets transition.steps reborn)))
