-- A home is registered only in its place, and its address is held behind that.
use Rattle.std.proofs.Common.{◌≡◌, ◌≢◌, ◌⊎◌, inl, inr, ℕ, ◌+◌, ◌*◌, ◌≤◌, ◌<◌, List, [], ◌∷◌, ◌++◌, length, refl, sym, ap, ◌∙◌, subst, Bool, true, false, not, ◌&&◌, ◌||◌, ltb, arith}
use Rattle.std.specs.Prelude.{◌==◌, nat_lt, if◌then◌else◌, fold, Option, Some, None, is_some}
use Rattle.std.specs.Option.{option_map_or}
use Rattle.std.specs.List.{AllByRecursion, list_any}
use Rattle.std.proofs.lemmas.Bool.{cond-true, cond-false, eq-eqb, eqb-true, ltb-true, or_parts}
use Rattle.std.proofs.lemmas.List.{map_push}
use Rattle.mip_words.specs.Sequence.{is_after}
use Rattle.mip_words.specs.declared.address.Address.{Address}
use Rattle.mip_words.specs.declared.shield.Shield.{Shield}
use Rattle.mip_outside.specs.declared.claim.Claim.{Claim}
use Rattle.mip_entries.specs.Stamped.{Stamped, stamped}
use Rattle.mip_entries.specs.Transitions.{known_by}
use Rattle.mip_entries.proofs.TransitionLaws.{noted-now, noted-known, noted-steps, known-push}
use Rattle.mip_reception.specs.declared.registration.Registration.{Registration}
use Rattle.mip_reception.specs.Registrations.{home_of, careof_of, deletes, registered_of}
use Rattle.mip_rules_agent.specs.declared.bench.Bench.{Bench}
use Rattle.mip_rules_agent.specs.declared.identity.Identity.{Identity}
use Rattle.mip_rules_agent.specs.declared.home_binding.HomeBinding.{HomeBinding}
use Rattle.mip_rules_agent.specs.declared.served.Served.{Served}
use Rattle.mip_rules_agent.specs.Known.{Known}
use Rattle.mip_rules_agent.specs.Calls as calls
use Rattle.mip_rules_agent.specs.Calls.{Call}
use Rattle.mip_rules_agent.specs.Steps.{Step, Called, Sends, Registers, Claims, Releases, Denies, Drops, Rang}
use Rattle.mip_rules_agent.specs.StepsLaws.{is_registration}
use Rattle.mip_rules_agent.specs.Questions.{bound_to, holding, after, served_at, is_served, holds, kept_of, careof_at, rows_at, is_full}
use Rattle.mip_rules_agent.specs.Transitions.{Transition, begun, noted}
use Rattle.mip_rules_agent.specs.Verdicts.{binding_for}
use Rattle.mip_rules_agent.specs.Rules.{bench, claim_with}
use Rattle.mip_rules_agent.specs.Doing.{transition_of}
use Rattle.mip_rules_agent.specs.Soundness.{IsSound}
use Rattle.mip_rules_agent.specs.Granting.{IsBounded}
use Rattle.mip_rules_agent.specs.TakenLaws.{claims_behind, IsUpdateTaken, HoldsBehind}
use Rattle.mip_rules_agent.specs.Answering.{ack_of}
use Rattle.mip_rules_agent.specs.Placing.{AreOfOneLink, IsElsewhere, IsInPlace, RegistersInPlace}
use Rattle.mip_rules_agent.proofs.Homes.{found_if}
use Rattle.mip_rules_agent.proofs.Pasts.{row_after, served-after, served-same}
use Rattle.mip_rules_agent.proofs.VerdictLaws.{sound}
use Rattle.mip_rules_agent.proofs.RowLaws.{near-link, away-elsewhere}
use Rattle.mip_rules_agent.proofs.Granting.{accepted-bounded}
use Rattle.mip_rules_agent.proofs.Taken.{taken_is}
use Rattle.mip_rules_agent.proofs.HomeLaws.{tick-quiet, plan-quiet, hear-quiet}
use Rattle.mip_rules_agent.proofs.Walks.{every-call}

-- whether an update ends a registration shows in what it registers
registers-home : (r : Registration) (ends : Bool) → deletes r ≡ ends → ((registered_of r).0 == (home_of r).0) ≡ ends
registers-home r true is = ap (λ (a : Address). a.0 == (home_of r).0) (cond-true (deletes r) (home_of r) (careof_of r) is) ∙ eq-eqb (home_of r).0 (home_of r).0 refl
registers-home r false is =
    ap (λ (a : Address). a.0 == (home_of r).0) (cond-false (deletes r) (home_of r) (careof_of r) is)
    ∙ (or_parts (r.lifetime == 0) ((careof_of r).0 == (home_of r).0) is).1

no-room : (there : Bool) (used room : ℕ) → (not there && not (nat_lt used room)) ≡ false → (there ≡ true) ⊎ (used < room)
no-room true used room is = inl refl
no-room false used room is = by (nat_lt used room) refl is
  where
    by : (less : Bool) → nat_lt used room ≡ less → not less ≡ false → (false ≡ true) ⊎ (used < room)
    by true e is = inr (ltb-true used room e)
    by false e is = absurd cc

-- steps without a registration
module _ (Q : Step → Type 0) (other : (step : Step) → is_registration step ≡ false → Q step) where
  all-quiet : (steps : List Step) → list_any is_registration steps ≡ false → AllByRecursion Q steps
  all-quiet [] none = tt
  all-quiet (step ∷ steps) none = let parts = or_parts (is_registration step) (list_any is_registration steps) none in (other step parts.0, all-quiet steps parts.1)

  all-taken : (call : Call) (number : ℕ) (home : Address) (b : HomeBinding) (steps rest : List Step) → Q (Registers number home b) → steps ≡ Called call ∷ Registers number home b ∷ rest
      → list_any is_registration rest ≡ false → AllByRecursion Q steps
  all-taken call number home b steps rest is are none = subst (AllByRecursion Q) (sym are) (other (Called call) refl, (is, all-quiet rest none))

other-place : (me : Identity) (k : Known) (now : ℕ) (step : Step) → is_registration step ≡ false → RegistersInPlace me k now step
other-place me k now (Registers number home b) none = absurd cc
other-place me k now (Called call) none = tt
other-place me k now (Sends shield packet) none = tt
other-place me k now (Claims home) none = tt
other-place me k now (Releases home) none = tt
other-place me k now (Denies number status) none = tt
other-place me k now (Drops number why) none = tt
other-place me k now Rang none = tt

other-held : (behind : Known) (step : Step) → is_registration step ≡ false → HoldsBehind behind step
other-held behind (Registers number home b) none = absurd cc
other-held behind (Called call) none = tt
other-held behind (Sends shield packet) none = tt
other-held behind (Claims home) none = tt
other-held behind (Releases home) none = tt
other-held behind (Denies number status) none = tt
other-held behind (Drops number why) none = tt
other-held behind Rang none = tt

-- what a call leaves known is what its steps leave known
abbrev IsFolded : Known → ℕ → Transition → Type 0
IsFolded k now t = (t.now ≡ now) × (t.known ≡ known_by after k (stamped now t.steps))

folded-noted : (k : Known) (now : ℕ) (step : Step) (t : Transition) → IsFolded k now t → IsFolded k now (noted step t)
folded-noted k now step t is = (
  noted-now after step t ∙ is.0,
  noted-known after step t
      ∙ ap (λ (n : ℕ). after t.known (record { at = n; step = step })) is.0
      ∙ ap (λ (m : Known). after m (record { at = now; step = step })) is.1
      ∙ sym (known-push after k (stamped now t.steps) (record { at = now; step = step }))
      ∙ ap (known_by after k) (sym (map_push (λ (s : Step). record { at = now; step = s }) t.steps step))
      ∙ ap (λ (l : List Step). known_by after k (stamped now l)) (sym (noted-steps after step t)),
)

call-folded : (me : Identity) (k : Known) (now : ℕ) (c : Call) → IsFolded k now (transition_of me k now c)
call-folded me k now c = every-call me (IsFolded k now) c (λ step t silent own is. folded-noted k now step t is) (λ t is. folded-noted k now (Called c) t is) (begun now k) (refl, refl)

-- whether a home address is held, step by step
module _ (home : Address) where
  abbrev held_after : Bool → Step → Bool
  held_after held (Claims h) = if h.0 == home.0 then true else held
  held_after held (Releases h) = if h.0 == home.0 then false else held
  held_after held _ = held

  abbrev held_in : Option Served → Bool
  held_in o = option_map_or (λ (s : Served). s.held) o false

  held-found : (to : Bool) (same : Bool) (o : Option Served) → is_some o ≡ true → held_in (found_if (holding to) same o) ≡ (if same then to else held_in o)
  held-found to true (Some s) there = refl
  held-found to false (Some s) there = refl
  held-found to same None there = absurd cc

  bound-found : (b : HomeBinding) (same : Bool) (o : Option Served) → held_in (found_if (bound_to b) same o) ≡ held_in o
  bound-found b true None = refl
  bound-found b true (Some s) = refl
  bound-found b false o = refl

  held-row : (step : Step) (o : Option Served) → is_some o ≡ true → held_in (row_after home step o) ≡ held_after (held_in o) step
  held-row (Registers number h b) o there = bound-found b (h.0 == home.0) o
  held-row (Claims h) o there = held-found true (h.0 == home.0) o there
  held-row (Releases h) o there = held-found false (h.0 == home.0) o there
  held-row _ o there = refl

  held-fold : (now : ℕ) (k : Known) (steps : List Step) → is_served k home ≡ true → holds (known_by after k (stamped now steps)) home ≡ fold held_after (holds k home) steps
  held-fold now k [] there = refl
  held-fold now k (step ∷ steps) there =
      held-fold now (after k (record { at = now; step = step })) steps (served-same home k now step ∙ there)
      ∙ ap (λ (b : Bool). fold held_after b steps) (ap held_in (served-after home k now step) ∙ held-row step (served_at k home) there)

  behind-held : (me : Identity) (r : Registration) (granted : ℕ) (held ends ack : Bool)
      → fold held_after held (claims_behind held ends home ++ (if ack then ack_of me r 0 r.sequence granted ∷ [] else [])) ≡ not ends
  behind-held me r granted true true true = ap (λ (b : Bool). if b then false else true) (eq-eqb home.0 home.0 refl)
  behind-held me r granted true true false = ap (λ (b : Bool). if b then false else true) (eq-eqb home.0 home.0 refl)
  behind-held me r granted true false true = refl
  behind-held me r granted true false false = refl
  behind-held me r granted false true true = refl
  behind-held me r granted false true false = refl
  behind-held me r granted false false true = ap (λ (b : Bool). if b then true else false) (eq-eqb home.0 home.0 refl)
  behind-held me r granted false false false = ap (λ (b : Bool). if b then true else false) (eq-eqb home.0 home.0 refl)

module _ (me : Identity) (k : Known) (now number : ℕ) (shield : Option Shield) (bytes : List ℕ) (claim : Claim)
    (is : IsUpdateTaken me k now number shield bytes claim (transition_of me k now (calls.Take number shield bytes claim)).steps) where
  abbrev judge : Bench
  judge = bench me k now is.update

  abbrev bound : HomeBinding
  bound = binding_for now is.careof is.sequence is.granted

  judged : IsSound judge shield (claim_with (holds k (home_of is.update)) claim) is.update is.home is.careof is.sequence is.granted
  judged = sound judge shield (claim_with (holds k (home_of is.update)) claim) is.update is.home is.careof is.sequence is.granted is.verdict_is

  bounded : IsBounded judge.valid is.update is.granted
  bounded = accepted-bounded judge shield (claim_with (holds k (home_of is.update)) claim) is.update is.home is.careof is.sequence is.granted is.verdict_is

  at-home : (is.careof.0 == is.home.0) ≡ deletes is.update
  at-home =
      let s = judged in
      ap (λ (a : Address). a.0 == is.home.0) s.of_careof ∙ ap (λ (a : Address). (registered_of is.update).0 == a.0) s.of_home ∙ registers-home is.update (deletes is.update) refl

  lasts : is.careof.0 ≢ is.home.0 → deletes is.update ≡ false
  lasts apart = by (deletes is.update) at-home
    where
      by : (ends : Bool) → (is.careof.0 == is.home.0) ≡ ends → ends ≡ false
      by true e = absurd (apart (eqb-true is.careof.0 is.home.0 e))
      by false e = refl

  taken-place : IsInPlace me k now is.home bound
  taken-place =
      let s = judged in
      let f = s.fit in
      let g = bounded in
      record {
        near = subst (λ (a : Address). AreOfOneLink a me.own) (sym s.of_home) (near-link (home_of is.update) me.own f.near);
        served = ap (is_served k) s.of_home ∙ f.served;
        newer = λ last kept. subst (λ (n : ℕ). is_after n last ≡ true) (sym s.of_sequence) (s.newer last (ap (kept_of k) (sym s.of_home) ∙ kept));
        elsewhere = λ apart.
            subst (λ (a : Address). IsElsewhere me.own a) (sym (s.of_careof ∙ cond-false (deletes is.update) (home_of is.update) (careof_of is.update) (lasts apart)))
            (away-elsewhere judge is.update (f.away (lasts apart)));
        room = λ apart.
            subst (λ (a : Address). (is_some (careof_at k now a) ≡ true) ⊎ (length (rows_at now k.homes) < me.room)) (sym s.of_home)
            (no-room (is_some (careof_at k now (home_of is.update))) (length (rows_at now k.homes)) me.room (s.room (lasts apart)));
        short = until g.hour;
      }
    where
      until : is.granted ≤ 900 → now + 4000 * is.granted ≤ now + 3600000
      until hour = omega (arith, hour)

  taken-held : holds (transition_of me k now (calls.Take number shield bytes claim)).known is.home ≡ not (is.careof.0 == is.home.0)
  taken-held =
      let s = judged in
      let f = s.fit in
      let folded = call-folded me k now (calls.Take number shield bytes claim) in
      ap (λ (m : Known). holds m is.home) folded.1
      ∙ held-fold is.home now k (transition_of me k now (calls.Take number shield bytes claim)).steps (ap (is_served k) s.of_home ∙ f.served)
      ∙ ap (fold (held_after is.home) (holds k is.home)) is.steps_are
      ∙ ap (fold (held_after is.home) (holds k is.home)) is.behind
      ∙ ap (λ (b : Bool). fold (held_after is.home) b (claims_behind (holds k (home_of is.update)) (deletes is.update) is.home ++ (if is.update.ack then ack_of me is.update 0 is.update.sequence is.granted ∷ [] else [])))
      (ap (holds k) s.of_home)
      ∙ behind-held is.home me is.update is.granted (holds k (home_of is.update)) (deletes is.update) is.update.ack
      ∙ ap not (sym at-home)

-- of any call
module _ (me : Identity) (k : Known) (now : ℕ) where
  pub call-place : (c : Call) → AllByRecursion (RegistersInPlace me k now) (transition_of me k now c).steps
  call-place (calls.Take number shield bytes claim) =
      elim (taken_is me k now number shield bytes claim) as (λ _. AllByRecursion (RegistersInPlace me k now) (transition_of me k now (calls.Take number shield bytes claim)).steps) [
        | inl quiet ↦ all-quiet (RegistersInPlace me k now) (other-place me k now) (transition_of me k now (calls.Take number shield bytes claim)).steps quiet.0
        | inr is ↦ all-taken (RegistersInPlace me k now) (other-place me k now) (calls.Take number shield bytes claim) number is.home (binding_for now is.careof is.sequence is.granted) _ is.rest
            (taken-place me k now number shield bytes claim is) is.steps_are is.none
      ]
  call-place calls.Tick = all-quiet (RegistersInPlace me k now) (other-place me k now) _ (tick-quiet me k now)
  call-place (calls.Plan valid preferred) = all-quiet (RegistersInPlace me k now) (other-place me k now) _ (plan-quiet me k now valid preferred)
  call-place (calls.Hear agent preference life) = all-quiet (RegistersInPlace me k now) (other-place me k now) _ (hear-quiet me k now agent preference life)

  pub call-held : (c : Call) → AllByRecursion (HoldsBehind (transition_of me k now c).known) (transition_of me k now c).steps
  call-held (calls.Take number shield bytes claim) =
      let Q : Step → Type 0 = HoldsBehind (transition_of me k now (calls.Take number shield bytes claim)).known in
      let other = other-held (transition_of me k now (calls.Take number shield bytes claim)).known in
      elim (taken_is me k now number shield bytes claim) as (λ _. AllByRecursion Q (transition_of me k now (calls.Take number shield bytes claim)).steps) [
        | inl quiet ↦ all-quiet Q other (transition_of me k now (calls.Take number shield bytes claim)).steps quiet.0
        | inr is ↦ all-taken Q other (calls.Take number shield bytes claim) number is.home (binding_for now is.careof is.sequence is.granted) _ is.rest
            (taken-held me k now number shield bytes claim is) is.steps_are is.none
      ]
  call-held calls.Tick = all-quiet _ (other-held (transition_of me k now calls.Tick).known) _ (tick-quiet me k now)
  call-held (calls.Plan valid preferred) = all-quiet _ (other-held (transition_of me k now (calls.Plan valid preferred)).known) _ (plan-quiet me k now valid preferred)
  call-held (calls.Hear agent preference life) = all-quiet _ (other-held (transition_of me k now (calls.Hear agent preference life)).known) _ (hear-quiet me k now agent preference life)
