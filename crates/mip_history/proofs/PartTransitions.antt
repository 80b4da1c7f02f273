-- A transition of a mobile keeps a run: its correspondent part goes on as the history does, whether it accepts an update or not.
use Rattle.std.proofs.Common.{◌≡◌, ◌≢◌, ℕ, ◌<◌, List, [], ◌∷◌, ◌++◌, false, length, inl, inr, refl, sym, ap, ◌∙◌, subst, arith, length-set}
use Rattle.std.specs.Prelude.{fold, Option, Some, None, unwrap_or, slice_get, slice_set, slice_index_or}
use Rattle.std.specs.List.{list_any}
use Rattle.std.proofs.lemmas.List.{get_or-set_same, get_or-set_other}
use Rattle.std.proofs.lemmas.List.Sums.{fold-append}
use Rattle.std.proofs.lemmas.Option.{slice_get_within}
use Rattle.std.proofs.lemmas.Bool.{or_parts, cases_eq}
use Rattle.mip_words.specs.declared.address.Address.{Address}
use Rattle.mip_words.specs.EachAfter.{EachAfter}
use Rattle.mip_nonce.specs.Secrets.{Life}
use Rattle.mip_entries.specs.declared.entry.Entry.{Entry}
use Rattle.mip_entries.specs.Stamped.{Stamped, stamped}
use Rattle.mip_rules_correspondent.specs.Calls as parts
use Rattle.mip_rules_correspondent.specs.Steps as part_steps
use Rattle.mip_rules_correspondent.specs.StepsLaws as part_steps_laws
use Rattle.mip_rules_correspondent.specs.Seen.{CorrespondentSeen, transition_at}
use Rattle.mip_rules_correspondent.proofs.Moments as part_moments
use Rattle.mip_rules_mobile.specs.Calls.{Call, Restart}
use Rattle.mip_rules_mobile.specs.Steps.{Step, Called, Parts, Notes, Restarts, answers_of}
use Rattle.mip_rules_mobile.specs.Known.{Known}
use Rattle.mip_rules_mobile.specs.Doing.{transition_of}
use Rattle.mip_rules_mobile.specs.PartLaws.{PartLife, part_of, part_goes_on, new_part, part_life, concerns_part, accepted_note, IsPartTaken, IsPartTransition, Silent, Asked, Accepting, is_restart, IsPartReborn}
use Rattle.mip_rules_mobile.proofs.Calls.{call-now}
use Rattle.mip_rules_mobile.proofs.PartLives.{part_is}
use Rattle.mip_rules_mobile.proofs.PartTransitions.{call-part}
use Rattle.mip_history.specs.Setup.{Setup, Host, is_mobile_host}
use Rattle.mip_history.specs.SetupLaws.{is_correspondent_host}
use Rattle.mip_history.specs.Setup.Kind.{Mobile}
use Rattle.mip_history.specs.Runs.{Run, mobile_past_at, with_mobile_past}
use Rattle.mip_history.specs.Questions.{moment_in, life_in}
use Rattle.mip_history.specs.Knowing.{now_in, secrets_in, mobile_known_in, stands_on}
use Rattle.mip_history.specs.KnowingLaws.{part_in}
use Rattle.mip_history.specs.Nodes.{answered, after_mobile_transition}
use Rattle.mip_history.specs.Bound.{accepted_by, accepted_entry, IsAccepted}
use Rattle.mip_history.proofs.Runs.{Meets, IsPart, past_stays, part_stays, IsRun, IsQuiet, Goes, goes_quietly, goes_then, quiet_then}
use Rattle.mip_history.proofs.Answering.{clash, differs, quiet_answers, mobile_silence}
use Rattle.mip_history.proofs.Transitions.{quiet_past, accepting_past, accepted_moment, accepted_lives, accepted_kept, accepted_other, at_past, marked_with, quiet_mark}

-- a mobile is another node than one that is none
pub mobile_apart : (s : Setup) (n : ℕ) → is_mobile_host (slice_get s.hosts n) ≡ false → (m : ℕ) (home : Address) (agent : Option Address)
    → slice_get s.hosts m ≡ Some (record { address = home; kind = Mobile agent }) → m ≢ n
mobile_apart s n unmoved m home agent e same =
    clash (sym (ap is_mobile_host e) ∙ ap (λ (k : ℕ). is_mobile_host (slice_get s.hosts k)) same ∙ unmoved)

-- what steps of one moment make of the part
abbrev pub goes_along : Address → (numbers : ℕ) → ℕ → PartLife → List Step → PartLife
goes_along home numbers now p steps = fold (λ (q : PartLife) (s : Stamped Step). part_goes_on home numbers q s.at s.step) p (stamped now steps)

silent_step : (home : Address) (numbers now : ℕ) (p : PartLife) (step : Step) → concerns_part step ≡ false → part_goes_on home numbers p now step ≡ p
silent_step home numbers now p (Parts call) none = absurd cc
silent_step home numbers now p (Restarts secrets) none = absurd cc
silent_step home numbers now p _ none = refl

silent_steps : (home : Address) (numbers now : ℕ) (p : PartLife) (steps : List Step) → list_any concerns_part steps ≡ false → goes_along home numbers now p steps ≡ p
silent_steps home numbers now p [] none = refl
silent_steps home numbers now p (step ∷ steps) none =
    let both = or_parts (concerns_part step) (list_any concerns_part steps) none in
    ap (λ (q : PartLife). goes_along home numbers now q steps) (silent_step home numbers now p step both.0) ∙ silent_steps home numbers now p steps both.1

-- the part behind a transition
pub life_along : (home : Address) (numbers : ℕ) (secrets : Life) (old : List (Stamped Step)) (now : ℕ) (steps : List Step)
    → part_life home numbers secrets (old ++ stamped now steps) ≡ goes_along home numbers now (part_life home numbers secrets old) steps
unfolding part_life
life_along home numbers secrets old now steps = fold-append (λ (q : PartLife) (s : Stamped Step). part_goes_on home numbers q s.at s.step) (new_part secrets) old (stamped now steps)

abbrev address_or : Address → Option Host → Address
address_or d None = d
address_or d (Some host) = host.address

pub same_host : {x y : Address} {a b : Option Address} → (let h : Host = record { address = x; kind = Mobile a } in Some h) ≡ Some (record { address = y; kind = Mobile b }) → x ≡ y
same_host {x} {y} e = ap (address_or x) e

-- the past of mobile n goes on in a history, and with it its part
module _ (s : Setup) (n : ℕ) (home : Address) (agent : Option Address) (before : Run) (is : IsRun s before) (host_is : slice_get s.hosts n ≡ Some (record { address = home; kind = Mobile agent })) where
  mobile_inside : n < length before.mobile_pasts
  mobile_inside = let i = slice_get_within s.hosts n (record { address = home; kind = Mobile agent }) host_is in let c = is.mobiles in omega (arith, i, c)

  pub part_goes : (past : List Entry) (next : List (Stamped Step)) → IsPart s past (part_life home s.numbers (secrets_in s n 0) next) n
      → ((m : ℕ) → m ≢ n → accepted_by s.start past m ≡ accepted_by s.start before.past m)
      → moment_in s.start past ≡ moment_in s.start before.past
      → ((m : ℕ) → m ≢ n → life_in past m ≡ life_in before.past m)
      → EachAfter (Meets s) [] past
      → IsRun s (at_past past (with_mobile_past n next before))
  part_goes past next mine others moment lives kept = record {
    nodes = is.nodes;
    agents = is.agents;
    mobiles = length-set before.mobile_pasts n next ∙ is.mobiles;
    kept = kept;
    pasts = λ m within. past_stays s before.past past _ m (others m (differs s m n within (ap is_correspondent_host host_is))) moment (is.pasts m within);
    parts = λ m address other host. elim (cases_eq m n) as (λ _. IsPart s past (part_life address s.numbers (secrets_in s m 0) (slice_index_or (slice_set before.mobile_pasts n next) m [])) m) [
      | inl e ↦ this m address other host e
      | inr apart ↦
          subst (λ (l : List (Stamped Step)). IsPart s past (part_life address s.numbers (secrets_in s m 0) l) m) (sym (get_or-set_other before.mobile_pasts n m next [] apart))
          (part_stays s before.past past (part_in s before m address) m (others m apart) moment (lives m apart) (is.parts m address other host))
    ];
  }
    where
      here : slice_index_or (slice_set before.mobile_pasts n next) n [] ≡ next
      here = get_or-set_same before.mobile_pasts n next [] mobile_inside

      this : (m : ℕ) (address : Address) (other : Option Address) → slice_get s.hosts m ≡ Some (record { address = address; kind = Mobile other }) → m ≡ n
          → IsPart s past (part_life address s.numbers (secrets_in s m 0) (slice_index_or (slice_set before.mobile_pasts n next) m [])) m
      this m address other host e =
          let same : home ≡ address = same_host (sym host_is ∙ ap (λ (k : ℕ). slice_get s.hosts k) (sym e) ∙ host) in
          subst (λ (k : ℕ). IsPart s past (part_life address s.numbers (secrets_in s k 0) (slice_index_or (slice_set before.mobile_pasts n next) k [])) k) (sym e)
          (subst (λ (a : Address). IsPart s past (part_life a s.numbers (secrets_in s n 0) (slice_index_or (slice_set before.mobile_pasts n next) n [])) n) same
          (subst (λ (l : List (Stamped Step)). IsPart s past (part_life home s.numbers (secrets_in s n 0) l) n) (sym here) mine))

-- what a mobile's call leaves, from its steps
abbrev pub mobile_done : Setup → ℕ → ℕ → ℕ → List Step → Run → Run
mobile_done s n from now steps run = answered s n from (with_mobile_past n (mobile_past_at run n ++ stamped now steps) run) (answers_of steps)

module _ (s : Setup) (n : ℕ) (home : Address) (agent : Option Address) (run : Run) (is : IsRun s run) (host_is : slice_get s.hosts n ≡ Some (record { address = home; kind = Mobile agent })) where
  abbrev now : ℕ
  now = now_in s run

  abbrev old : List (Stamped Step)
  old = mobile_past_at run n

  abbrev p : PartLife
  p = part_in s run n home

  abbrev k : Known
  k = mobile_known_in s run n home agent

  p_is : IsPart s run.past (part_in s run n home) n
  p_is = is.parts n home agent host_is

  known_part : k.part ≡ part_of home s.numbers p
  known_part = part_is home agent s.numbers (secrets_in s n 0) old

  -- a transition at a moment and with these steps, from a history on
  module _ (from : ℕ) (steps : List Step) where
    abbrev next : List (Stamped Step)
    next = old ++ stamped now steps

    next_life : part_life home s.numbers (secrets_in s n 0) (mobile_past_at run n ++ stamped now steps) ≡ goes_along home s.numbers now (part_in s run n home) steps
    next_life = life_along home s.numbers (secrets_in s n 0) old now steps

    -- the part goes on, and the history stands
    calm_transition : IsPart s run.past (part_life home s.numbers (secrets_in s n 0) (mobile_past_at run n ++ stamped now steps)) n → IsQuiet s (with_mobile_past n next run) (mobile_done s n from now steps run)
        → Goes s run (mobile_done s n from now steps run)
    calm_transition mine quiet =
        let middle = with_mobile_past n next run in
        let there : IsRun s middle = part_goes s n home agent run is host_is run.past next mine (λ m other. refl) refl (λ m other. refl) is.kept in
        goes_then s run middle _ (record { run = there; moment = refl; life = λ m. refl }) (goes_quietly s middle _ there quiet)

    silent_transition : list_any concerns_part steps ≡ false → Goes s run (mobile_done s n from now steps run)
    silent_transition none =
        calm_transition (subst (λ (q : PartLife). IsPart s run.past q n) (sym (next_life ∙ silent_steps home s.numbers now p steps none)) p_is)
        (quiet_answers s n from (with_mobile_past n next run) (answers_of steps) (mobile_silence steps none))

  -- the transition of the part
  abbrev part_transition : parts.Call → List part_steps.Step
  part_transition call = (transition_at (part_of home s.numbers p) now call).steps

  asked_life : (call : parts.Call) → (let q : PartLife = part_goes_on home s.numbers p now (Parts call) in q) ≡ record { secrets = p.secrets; past = p.past ++ stamped now (part_transition call) }
  asked_life call =
      let c = part_of home s.numbers p in
      ap (λ (at : ℕ). let q : PartLife = record { secrets = p.secrets; past = p.past ++ stamped at (part_transition call) } in q) (part_moments.call-now c.identity c.known now call)

  asked_transition : (from : ℕ) (c : Call) (call : parts.Call) (rest : List Step) → list_any concerns_part rest ≡ false → list_any part_steps_laws.is_acceptance (transition_at k.part now call).steps ≡ false
      → Goes s run (mobile_done s n from now (Called c ∷ Parts call ∷ rest) run)
  asked_transition from c call rest none calm =
      calm_transition from steps (subst (λ (q : PartLife). IsPart s run.past q n) (sym life) gone)
      (quiet_answers s n from (with_mobile_past n (old ++ stamped now steps) run) (answers_of rest) (mobile_silence rest none))
    where
      steps : List Step
      steps = Called c ∷ Parts call ∷ rest

      life : part_life home s.numbers (secrets_in s n 0) (mobile_past_at run n ++ stamped now (Called c ∷ Parts call ∷ rest)) ≡ record { secrets = p.secrets; past = p.past ++ stamped now (part_transition call) }
      life = next_life from steps ∙ silent_steps home s.numbers now (part_goes_on home s.numbers p now (Parts call)) rest none ∙ asked_life call

      gone : IsPart s run.past (record { secrets = p.secrets; past = p.past ++ stamped now (part_transition call) }) n
      gone = record {
        secrets = p_is.secrets;
        past = quiet_past s run.past p.past n (part_transition call)
            (subst (λ (x : CorrespondentSeen). list_any part_steps_laws.is_acceptance (transition_at x now call).steps ≡ false) known_part calm) p_is.past;
      }

  -- it accepts an update
  module _ (c : Call) (x : IsPartTaken k now c (transition_of k now c).steps) (stands : IsAccepted s run.past n x.number x.taken.home x.taken.binding x.taken.accepted) (from : ℕ) where
    abbrev call : parts.Call
    call = parts.Part x.number x.packet

    abbrev past : List Entry
    past = run.past ++ accepted_entry n x.number x.taken.home x.taken.binding x.taken.accepted ∷ []

    abbrev taken : List Step
    taken = Called c ∷ Parts call ∷ Notes (accepted_note x.number x.taken.home x.taken.binding x.taken.accepted) ∷ x.rest

    abbrev part_taken : List part_steps.Step
    part_taken = part_steps.Called call ∷ part_steps.Accepts x.number x.taken.home x.taken.binding x.taken.accepted ∷ x.taken.rest

    part_taken_is : part_transition call ≡ part_taken
    part_taken_is = ap (λ (y : CorrespondentSeen). (transition_at y now call).steps) (sym known_part) ∙ x.taken.steps_are

    taken_life : part_life home s.numbers (secrets_in s n 0) (mobile_past_at run n ++ stamped now taken) ≡ record { secrets = p.secrets; past = p.past ++ stamped now part_taken }
    taken_life =
        next_life from taken
        ∙ silent_steps home s.numbers now (part_goes_on home s.numbers p now (Parts call)) x.rest x.none
        ∙ asked_life call
        ∙ ap (λ (l : List part_steps.Step). let q : PartLife = record { secrets = p.secrets; past = p.past ++ stamped now l } in q) part_taken_is

    mine : IsPart s past (record { secrets = p.secrets; past = p.past ++ stamped now part_taken }) n
    mine = record {
      secrets = p_is.secrets ∙ ap (λ (l : ℕ). secrets_in s n l) (sym (accepted_lives n x.number run.past x.taken.home x.taken.binding x.taken.accepted n));
      past = accepting_past s run.past p.past n x.number x.taken.home x.taken.binding x.taken.accepted call x.taken.rest x.taken.none p_is.past;
    }

    abbrev middle : Run
    middle = at_past past (with_mobile_past n (old ++ stamped now taken) run)

    middle_is : IsRun s middle
    middle_is =
        part_goes s n home agent run is host_is past (old ++ stamped now taken) (subst (λ (q : PartLife). IsPart s past q n) (sym taken_life) mine)
        (λ m other. accepted_other s.start m n x.number run.past x.taken.home x.taken.binding x.taken.accepted other)
        (accepted_moment s.start n x.number run.past x.taken.home x.taken.binding x.taken.accepted) (λ m other. accepted_lives n x.number run.past x.taken.home x.taken.binding x.taken.accepted m)
        (accepted_kept s run.past n x.number x.taken.home x.taken.binding x.taken.accepted stands is.kept)

    taken_transition : Goes s run (mobile_done s n from now taken run)
    unfolding answered
    taken_transition =
        let left = marked_with n x.number x.taken.home x.taken.binding x.taken.accepted middle run.past in
        goes_then s run middle _
        (record {
          run = middle_is;
          moment = accepted_moment s.start n x.number run.past x.taken.home x.taken.binding x.taken.accepted;
          life = λ m. accepted_lives n x.number run.past x.taken.home x.taken.binding x.taken.accepted m;
        })
        (goes_quietly s middle _ middle_is
        (quiet_then s middle left (answered s n from left (answers_of x.rest))
        (quiet_mark s n x.number x.taken.home x.taken.binding x.taken.accepted run.past middle refl)
        (quiet_answers s n from left (answers_of x.rest) (mobile_silence x.rest x.none))))

  -- a call that is no restart
  pub mobile_transition : (c : Call) → is_restart c ≡ false
      → ((x : IsPartTaken k now c (transition_of k now c).steps) → IsAccepted s run.past n x.number x.taken.home x.taken.binding x.taken.accepted)
      → Goes s run (after_mobile_transition s n home (transition_of k now c) run)
  mobile_transition c other stands =
      subst (λ (at : ℕ). Goes s run (mobile_done s n from at (transition_of k now c).steps run)) (sym (call-now k now c)) (by (call-part k now c other))
    where
      from : ℕ
      from = unwrap_or (stands_on s run n home) 0

      by : IsPartTransition k now c (transition_of k now c).steps → Goes s run (mobile_done s n from now (transition_of k now c).steps run)
      by (Silent none) = silent_transition from (transition_of k now c).steps none
      by (Asked call rest steps none calm) = subst (λ (l : List Step). Goes s run (mobile_done s n from now l run)) (sym steps) (asked_transition from c call rest none calm)
      by (Accepting x) = subst (λ (l : List Step). Goes s run (mobile_done s n from now l run)) (sym x.steps_are) (taken_transition c x (stands x) from)

-- a restart begins the part anew, and no update is accepted in it
pub reborn_life : (home : Address) (numbers : ℕ) (first : Life) (old : List (Stamped Step)) (now : ℕ) (secrets : Life) (steps : List Step) → IsPartReborn secrets steps
    → part_life home numbers first (old ++ stamped now steps) ≡ new_part secrets
reborn_life home numbers first old now secrets steps r =
    ap (λ (l : List Step). part_life home numbers first (old ++ stamped now l)) r.steps_are
    ∙ life_along home numbers first old now (Called (Restart secrets) ∷ Restarts secrets ∷ r.rest)
    ∙ silent_steps home numbers now (new_part secrets) r.rest r.none

pub quiet_reborn : (s : Setup) (n from : ℕ) (run : Run) (secrets : Life) (steps : List Step) → IsPartReborn secrets steps → IsQuiet s run (answered s n from run (answers_of steps))
quiet_reborn s n from run secrets steps r =
    subst (λ (l : List Step). IsQuiet s run (answered s n from run (answers_of l))) (sym r.steps_are)
    (quiet_answers s n from run (answers_of (Called (Restart secrets) ∷ Restarts secrets ∷ r.rest)) (mobile_silence r.rest r.none))
