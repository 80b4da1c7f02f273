-- What is registered of a home changes only by an update for it.
use Rattle.std.proofs.Common.{◌≡◌, ℕ, ◌≤◌, List, [], ◌∷◌, Bool, true, false, ◌⊎◌, inl, inr, refl, sym, ap, ◌∙◌, subst, arith, nat_lt}
use Rattle.std.specs.Prelude.{Option, Some, None, option_map, not, ◌&&◌, ◌||◌, ◌==◌, if◌then◌else◌}
use Rattle.std.specs.List.{list_any}
use Rattle.std.proofs.lemmas.Bool.{eqb-true}
use Rattle.std.proofs.lemmas.Bool.Decides.{nat_tests}
use Rattle.mip_words.specs.declared.address.Address.{Address}
use Rattle.mip_words.specs.declared.shield.Shield.{Shield}
use Rattle.mip_words.specs.Last.{or_else, last_where}
use Rattle.mip_words.proofs.LastLaws.{last_where-push, last_where-none}
use Rattle.mip_outside.specs.declared.claim.Claim.{Claim}
use Rattle.mip_entries.proofs.TransitionLaws.{noted-known, noted-steps, none-noted, none-parts}
use Rattle.mip_reception.specs.Registrations.{home_of, registered_of}
use Rattle.mip_rules_agent.specs.declared.home_binding.HomeBinding.{HomeBinding}
use Rattle.mip_rules_agent.specs.declared.home_row.HomeRow.{HomeRow}
use Rattle.mip_rules_agent.specs.declared.served.Served.{Served}
use Rattle.mip_rules_agent.specs.declared.ending.Ending.{Ending}
use Rattle.mip_rules_agent.specs.declared.identity.Identity.{Identity}
use Rattle.mip_rules_agent.specs.Known.{Known}
use Rattle.mip_rules_agent.specs.Calls as calls
use Rattle.mip_rules_agent.specs.Calls.{Call}
use Rattle.mip_rules_agent.specs.Steps.{Step, Called, Sends, Registers, Claims, Releases, Denies, Drops, Rang}
use Rattle.mip_rules_agent.specs.StepsLaws.{is_registration}
use Rattle.mip_rules_agent.specs.Questions.{bound_to, holding, after, served_at, is_served, binding_of, kept_of, if_standing, careof_at, holds, due_ends, rows_at}
use Rattle.mip_rules_agent.specs.Transitions.{Transition, begun, noted}
use Rattle.mip_rules_agent.specs.Verdicts.{binding_for}
use Rattle.mip_rules_agent.specs.Rules.{bench, claim_with, advertises}
use Rattle.mip_rules_agent.specs.Doing.{releases_all, ticks, advertises_all, plans, does, transition_of}
use Rattle.mip_rules_agent.specs.Pasts.{is_registration_of, registered_by}
use Rattle.mip_rules_agent.specs.Soundness.{IsSound}
use Rattle.mip_rules_agent.specs.TakenLaws.{IsUpdateTaken, IsRegisteredBy}
use Rattle.mip_rules_agent.proofs.Homes.{found_if}
use Rattle.mip_rules_agent.proofs.Pasts.{row_after, served-after, served-same, binding_in, or_binding, binding-after}
use Rattle.mip_rules_agent.proofs.VerdictLaws.{sound}
use Rattle.mip_rules_agent.proofs.Taken.{taken_is}
use Rattle.mip_rules_agent.proofs.Walks.{every-call}

module _ (home : Address) where
  same-found : (change : Served → Served) → ((s : Served) → (change s).binding ≡ s.binding) → (same : Bool) (o : Option Served) → binding_in home (found_if change same o) ≡ binding_in home o
  same-found change keeps true None = refl
  same-found change keeps true (Some s) = keeps s
  same-found change keeps false o = refl

  -- no other step changes what is registered of a home
  same-row : (step : Step) (o : Option Served) → is_registration_of home step ≡ false → binding_in home (row_after home step o) ≡ binding_in home o
  same-row (Registers number h b) o other = ap (λ (same : Bool). binding_in home (found_if (bound_to b) same o)) other
  same-row (Claims h) o other = same-found (holding true) (λ s. refl) (h.0 == home.0) o
  same-row (Releases h) o other = same-found (holding false) (λ s. refl) (h.0 == home.0) o
  same-row _ o other = refl

  binding-noted : (step : Step) (t : Transition) → is_registration_of home step ≡ false → binding_of (noted step t).known home ≡ binding_of t.known home
  binding-noted step t other =
      ap (λ (k : Known). binding_of k home) (noted-known after step t)
      ∙ ap (binding_in home) (served-after home t.known t.now step) ∙ same-row step (served_at t.known home) other

  -- unless it was registered on the way, what is registered of it is the same
  abbrev Keeps : Known → Transition → Type 0
  Keeps k u = list_any (is_registration_of home) u.steps ≡ false → binding_of u.known home ≡ binding_of k home

  keeps-noted : (k : Known) (step : Step) (u : Transition) → Keeps k u → Keeps k (noted step u)
  keeps-noted k step u keeps none =
      let parts = none-parts after (is_registration_of home) step u none in
      binding-noted step u parts.1 ∙ keeps parts.0

  pub keeps-call : (me : Identity) (k : Known) (now : ℕ) (c : Call) → Keeps k (transition_of me k now c)
  keeps-call me k now c =
      every-call me (Keeps k) c (λ step u silent own keeps. keeps-noted k step u keeps) (λ u keeps. keeps-noted k (Called c) u keeps) (begun now k) (λ none. refl)

  -- what the last registration on the way made of it
  abbrev or_step : Option Step → Option HomeBinding → Option HomeBinding
  or_step None b = b
  or_step (Some step) b = registered_by step

  abbrev Binds : Known → Transition → Type 0
  Binds k u = (is_served u.known home ≡ true) × (binding_of u.known home ≡ or_step (last_where (is_registration_of home) u.steps) (binding_of k home))

  binds-step : (same : Bool) (step : Step) (o : Option Step) (b : Option HomeBinding) (at : ℕ)
      → or_step (if same then Some step else None) (or_step o b) ≡ or_step (if same then Some step else o) b
  binds-step true step o b at = refl
  binds-step false step o b at = refl

  binds-noted : (k : Known) (step : Step) (u : Transition) → Binds k u → Binds k (noted step u)
  binds-noted k step u binds = (
    ap (λ (m : Known). is_served m home) (noted-known after step u) ∙ served-same home u.known u.now step ∙ binds.0,
    ap (λ (m : Known). binding_of m home) (noted-known after step u)
        ∙ binding-after home u.known u.now step binds.0
        ∙ stamp (is_registration_of home step)
        ∙ ap (or_step (if is_registration_of home step then Some step else None)) binds.1
        ∙ binds-step (is_registration_of home step) step (last_where (is_registration_of home) u.steps) (binding_of k home) u.now
        ∙ ap (λ (o : Option Step). or_step o (binding_of k home)) (sym (ap (last_where (is_registration_of home)) (noted-steps after step u) ∙ last_where-push (is_registration_of home) u.steps step)),
  )
    where
      stamp : (same : Bool) → or_binding home (if same then Some (record { at = u.now; step = step }) else None) (binding_of u.known home) ≡ or_step (if same then Some step else None) (binding_of u.known home)
      stamp true = refl
      stamp false = refl

  binds-call : (me : Identity) (k : Known) (now : ℕ) (c : Call) → is_served k home ≡ true → Binds k (transition_of me k now c)
  binds-call me k now c served =
      every-call me (Binds k) c (λ step u silent own binds. binds-noted k step u binds) (λ u binds. binds-noted k (Called c) u binds) (begun now k) (served, refl)

-- calls that register nothing
abbrev Quiet : Transition → Type 0
Quiet t = list_any is_registration t.steps ≡ false

released-quiet : (es : List Ending) (t : Transition) → Quiet t → Quiet (releases_all es t)
released-quiet [] t none = none
released-quiet (e ∷ es) t none = released-quiet es (noted (Releases e.home) t) (none-noted after is_registration (Releases e.home) t none refl)

advertised-quiet : (own : Address) (m : Known) (at : ℕ) (rows : List HomeRow) (t : Transition) → Quiet t → Quiet (advertises_all own m at rows t)
unfolding advertises
advertised-quiet own m at [] t none = none
advertised-quiet own m at (r ∷ rows) t none = advertised-quiet own m at rows _ (none-noted after is_registration _ t none refl)

called-quiet : (now : ℕ) (k : Known) (c : Call) → Quiet (noted (Called c) (begun now k))
called-quiet now k c = none-noted after is_registration (Called c) (begun now k) refl refl

pub tick-quiet : (me : Identity) (k : Known) (now : ℕ) → Quiet (transition_of me k now calls.Tick)
unfolding does ticks
tick-quiet me k now =
    let t : Transition = noted (Called calls.Tick) (begun now k) in
    none-noted after is_registration Rang (releases_all (due_ends t.now t.known.ends) t)
    (released-quiet (due_ends t.now t.known.ends) t (called-quiet now k calls.Tick)) refl

pub plan-quiet : (me : Identity) (k : Known) (now valid preferred : ℕ) → Quiet (transition_of me k now (calls.Plan valid preferred))
unfolding does plans
plan-quiet me k now valid preferred =
    let t : Transition = noted (Called (calls.Plan valid preferred)) (begun now k) in
    advertised-quiet me.own t.known t.now (rows_at t.now t.known.homes) t (called-quiet now k (calls.Plan valid preferred))

pub hear-quiet : (me : Identity) (k : Known) (now : ℕ) (agent : Address) (preference life : ℕ) → Quiet (transition_of me k now (calls.Hear agent preference life))
unfolding does
hear-quiet me k now agent preference life = called-quiet now k (calls.Hear agent preference life)

-- no registration is none of a home
pub of_home_none : (home : Address) (steps : List Step) → list_any is_registration steps ≡ false → list_any (is_registration_of home) steps ≡ false
of_home_none home [] none = refl
of_home_none home (Registers number h b ∷ steps) none = absurd cc
of_home_none home (Called call ∷ steps) none = of_home_none home steps none
of_home_none home (Sends shield packet ∷ steps) none = of_home_none home steps none
of_home_none home (Claims h ∷ steps) none = of_home_none home steps none
of_home_none home (Releases h ∷ steps) none = of_home_none home steps none
of_home_none home (Denies number status ∷ steps) none = of_home_none home steps none
of_home_none home (Drops number why ∷ steps) none = of_home_none home steps none
of_home_none home (Rang ∷ steps) none = of_home_none home steps none

same-address : (a b : Address) → a.0 ≡ b.0 → a ≡ b
same-address a b e = ap (λ (n : ℕ). record { 0 = n }) e

or_false : (a b : Bool) → (a || b) ≡ true → b ≡ false → a ≡ true
or_false true b e none = refl
or_false false b e none = absurd cc

-- the update that was taken registers its home
module _ (me : Identity) (k : Known) (now number : ℕ) (shield : Option Shield) (bytes : List ℕ) (claim : Claim) (home : Address)
    (some : list_any (is_registration_of home) (transition_of me k now (calls.Take number shield bytes claim)).steps ≡ true)
    (is : IsUpdateTaken me k now number shield bytes claim (transition_of me k now (calls.Take number shield bytes claim)).steps) where
  abbrev call : Call
  call = calls.Take number shield bytes claim

  judged-sound : IsSound (bench me k now is.update) shield (claim_with (holds k (home_of is.update)) claim) is.update is.home is.careof is.sequence is.granted
  judged-sound = sound (bench me k now is.update) shield (claim_with (holds k (home_of is.update)) claim) is.update is.home is.careof is.sequence is.granted is.verdict_is

  abbrev accepted : Step
  accepted = Registers number is.home (binding_for now is.careof is.sequence is.granted)

  -- it is this home
  home-found : is.home.0 ≡ home.0
  home-found =
      let some : (is.home.0 == home.0 || list_any (is_registration_of home) is.rest) ≡ true = sym (ap (list_any (is_registration_of home)) is.steps_are) ∙ some in
      eqb-true is.home.0 home.0 (or_false (is.home.0 == home.0) (list_any (is_registration_of home) is.rest) some (of_home_none home is.rest is.none))

  update-home : home_of is.update ≡ home
  update-home = let s = judged-sound in sym s.of_home ∙ same-address is.home home home-found

  served : is_served k home ≡ true
  served = let s = judged-sound in let f = s.fit in subst (λ (a : Address). is_served k a ≡ true) update-home f.served

  last-one : last_where (is_registration_of home) (transition_of me k now call).steps ≡ Some accepted
  last-one =
      ap (last_where (is_registration_of home)) is.steps_are
      ∙ ap (λ (o : Option Step). or_else (or_else o (if is.home.0 == home.0 then Some accepted else None)) None) (last_where-none (is_registration_of home) is.rest (of_home_none home is.rest is.none))
      ∙ by (is.home.0 == home.0) found
    where
      found : (is.home.0 == home.0) ≡ true
      found =
          let some : (is.home.0 == home.0 || list_any (is_registration_of home) is.rest) ≡ true = sym (ap (list_any (is_registration_of home)) is.steps_are) ∙ some in
          or_false (is.home.0 == home.0) (list_any (is_registration_of home) is.rest) some (of_home_none home is.rest is.none)

      by : (same : Bool) → same ≡ true → or_else (if same then Some accepted else None) None ≡ Some accepted
      by true is = refl
      by false is = absurd cc

  pub becomes : binding_of (transition_of me k now call).known home ≡ Some (binding_for now (registered_of is.update) is.update.sequence is.granted)
  becomes =
      let s = judged-sound in
      let b = binds-call home me k now call served in
      b.1 ∙ ap (λ (o : Option Step). or_step home o (binding_of k home)) last-one
      ∙ ap (λ (a : Address). Some (binding_for now a is.sequence is.granted)) s.of_careof
      ∙ ap (λ (n : ℕ). Some (binding_for now (registered_of is.update) n is.granted)) s.of_sequence

  pub registered : IsRegisteredBy me k now call home
  registered =
      let s = judged-sound in
      let f = s.fit in
      let under = f.shielded in
      record {
        number = number;
        shield = under.ends;
        bytes = bytes;
        claim = claim;
        called = ap (λ (o : Option Shield). calls.Take number o bytes claim) under.stands;
        from = under.from ∙ ap (λ (a : Address). a.0) update-home;
        update = is.update;
        is_in = is.is_in;
        of_home = ap (λ (a : Address). a.0) update-home;
        newer = λ last e. s.newer last (ap (kept_of k) update-home ∙ e);
        granted = is.granted;
        becomes = becomes;
      }

module _ (me : Identity) (k : Known) (now : ℕ) (home : Address) where
  some-registered : (c : Call) → list_any (is_registration_of home) (transition_of me k now c).steps ≡ true → IsRegisteredBy me k now c home
  some-registered (calls.Take number shield bytes claim) some =
      elim (taken_is me k now number shield bytes claim) as (λ _. IsRegisteredBy me k now (calls.Take number shield bytes claim) home) [
        | inl quiet ↦ absurd (let none = of_home_none home (transition_of me k now (calls.Take number shield bytes claim)).steps quiet.0 in let both : true ≡ false = sym some ∙ none in cc)
        | inr is ↦ registered me k now number shield bytes claim home some is
      ]
  some-registered calls.Tick some =
      absurd (let none = of_home_none home (transition_of me k now calls.Tick).steps (tick-quiet me k now) in let both : true ≡ false = sym some ∙ none in cc)
  some-registered (calls.Plan valid preferred) some =
      absurd (let none = of_home_none home (transition_of me k now (calls.Plan valid preferred)).steps (plan-quiet me k now valid preferred) in let both : true ≡ false = sym some ∙ none in cc)
  some-registered (calls.Hear agent preference life) some =
      absurd (let none = of_home_none home (transition_of me k now (calls.Hear agent preference life)).steps (hear-quiet me k now agent preference life) in let both : true ≡ false = sym some ∙ none in cc)

  -- the registered care-of address stays, or the call hands over an update for the home
  pub careof-changes : (c : Call) (later : ℕ) → (careof_at (transition_of me k now c).known later home ≡ careof_at k later home) ⊎ IsRegisteredBy me k now c home
  careof-changes c later = by (list_any (is_registration_of home) (transition_of me k now c).steps) refl
    where
      by : (some : Bool) → list_any (is_registration_of home) (transition_of me k now c).steps ≡ some → (careof_at (transition_of me k now c).known later home ≡ careof_at k later home) ⊎ IsRegisteredBy me k now c home
      by true is = inr (some-registered c is)
      by false is = inl (ap (λ (o : Option HomeBinding). option_map (λ (b : HomeBinding). b.careof) (if_standing home later o)) (keeps-call home me k now c is))

-- what is registered at a moment was registered before it, as long as no update changed it
module _ (careof : Address) (b : HomeBinding) where
  abbrev At : Bool → Bool → Type 0
  At same lasts = option_map (λ (b : HomeBinding). b.careof) (if not same && lasts then Some b else None) ≡ Some careof

  still : (same late early : Bool) → (late ≡ true → early ≡ true) → At same late → At same early
  still true late early goes e = absurd cc
  still false false early goes e = absurd cc
  still false true true goes e = e
  still false true false goes e = absurd (let never = goes refl in cc)

pub careof-earlier : (k : Known) (home careof : Address) (earlier later : ℕ) → earlier ≤ later → careof_at k later home ≡ Some careof → careof_at k earlier home ≡ Some careof
careof-earlier k home careof earlier later before is = by (binding_of k home) is
  where
    by : (o : Option HomeBinding) → option_map (λ (b : HomeBinding). b.careof) (if_standing home later o) ≡ Some careof → option_map (λ (b : HomeBinding). b.careof) (if_standing home earlier o) ≡ Some careof
    by None e = absurd cc
    by (Some b) e = still careof b (b.careof.0 == home.0) (nat_lt later b.end.0) (nat_lt earlier b.end.0) (λ (l : nat_lt later b.end.0 ≡ true). grind (arith, nat_tests, before, l)) e
