-- What the rows before the claim leave to it.
use Rattle.std.proofs.Common.{◌≡◌, ℕ, ◌∙◌, refl, sym, ap, subst, true, false, not, ◌&&◌, ◌||◌}
use Rattle.std.proofs.lemmas.Bool.{cond_both, not-false}
use Rattle.std.specs.Prelude.{Bool, Option, Some, None, nat_lt}
use Rattle.std.specs.Option.{option_map}
use Rattle.mip_words.specs.Sequence.{is_after}
use Rattle.mip_words.specs.declared.address.Address.{Address}
use Rattle.mip_words.specs.declared.shield.Shield.{Shield}
use Rattle.mip_outside.specs.declared.claim.Claim.{Claim}
use Rattle.mip_outside.specs.declared.claim.Claim.TheVariants.{Held, Waiting, Taken}
use Rattle.mip_outside.specs.Places.{is_held, with_claim}
use Rattle.mip_reception.specs.declared.registration.Registration.{Registration}
use Rattle.mip_reception.specs.Registrations.{home_of, deletes}
use Rattle.mip_rules_agent.specs.declared.bench.Bench.{Bench}
use Rattle.mip_rules_agent.specs.declared.home_verdict.HomeVerdict.{HomeVerdict}
use Rattle.mip_rules_agent.specs.Verdicts.{is_from, is_near, by_room, by_sequence, is_away, before_claim, by_claim}
use Rattle.mip_homeagent.specs.declared.change.Change.{Change}
use Rattle.mip_homeagent.specs.Changes.{Claiming, unclaimed, claims_held, claims_with, holding_of, holding_by, claim_part, release_part, IsOfHome}

module _ (b : Bench) (shield : Option Shield) (r : Registration) (held : Bool) where
  -- a verdict of these rows claims nothing, and it is of the home of the update
  record Quiet (v : HomeVerdict) : Type 0 where
    unclaimed : claim_part (holding_by held r v) ≡ None
    of_home : IsOfHome r v

  abbrev IfSomeQuiet : Option HomeVerdict → Type 0
  IfSomeQuiet None = (b.served ≡ true) × (deletes r ≡ false)
  IfSomeQuiet (Some v) = Quiet v

  ended : (held ends : Bool) → ends ≡ true → claim_part (holding_of held ends) ≡ None
  ended true true e = refl
  ended false true e = refl
  ended held false e = absurd cc

  of_room : b.served ≡ true → IfSomeQuiet (by_room b r)
  of_room served =
      cond_both (deletes r) _ _ IfSomeQuiet (λ ends. record { unclaimed = ended held (deletes r) ends; of_home = refl }) (λ lasts.
      cond_both b.full _ _ IfSomeQuiet (λ _. record { unclaimed = refl; of_home = tt }) (λ _. (served, lasts)))

  of_sequence : b.served ≡ true → (o : Option ℕ) → IfSomeQuiet (by_sequence b r o)
  of_sequence served None = of_room served
  of_sequence served (Some last) =
      cond_both (not (is_after r.sequence last)) _ _ IfSomeQuiet (λ _. record { unclaimed = refl; of_home = tt }) (λ _. of_room served)

  before : IfSomeQuiet (before_claim b shield r)
  unfolding before_claim
  before =
      cond_both (not r.for_agent) _ _ IfSomeQuiet (λ _. record { unclaimed = refl; of_home = tt }) (λ _.
      cond_both (not (is_from (home_of r) shield)) _ _ IfSomeQuiet (λ _. record { unclaimed = refl; of_home = tt }) (λ _.
      cond_both (not (is_near (home_of r) b.own) || nat_lt b.valid 4) _ _ IfSomeQuiet (λ _. record { unclaimed = refl; of_home = tt }) (λ _.
      cond_both (not b.served) _ _ IfSomeQuiet (λ _. record { unclaimed = refl; of_home = tt }) (λ served.
      cond_both (not (deletes r) && not (is_away b r)) _ _ IfSomeQuiet (λ _. record { unclaimed = refl; of_home = tt }) (λ _.
      of_sequence (not-false _ served) b.kept)))))

  pub before_some : (v : HomeVerdict) → Some v ≡ before_claim b shield r → (claim_part (holding_by held r v) ≡ None) × IsOfHome r v
  before_some v e = let q = subst IfSomeQuiet (sym e) before in (q.unclaimed, q.of_home)

  pub before_none : None ≡ before_claim b shield r → (b.served ≡ true) × (deletes r ≡ false)
  before_none e = subst IfSomeQuiet (sym e) before

-- no claim is changed
pub claims_same : (holding : Option Bool) (home : Address) (claims : Option (ℕ → Bool)) → holding ≡ None → claims ≡ option_map (claims_held holding home) claims
claims_same holding home None e = refl
claims_same holding home (Some claims) e = ap (λ (h : Option Bool). Some (claims_held h home claims)) (sym e)

-- what is claimed with the verdict and what is given up at the end, together
pub claims_joined : (holding : Option Bool) (home : Address) (a b c : Option (ℕ → Bool)) → b ≡ option_map (claims_held (claim_part holding) home) a
    → c ≡ option_map (claims_held (release_part holding) home) b → c ≡ option_map (claims_held holding home) a
claims_joined holding home a b c first second = second ∙ ap (option_map (claims_held (release_part holding) home)) first ∙ by holding a
  where
    by : (h : Option Bool) (o : Option (ℕ → Bool)) → option_map (claims_held (release_part h) home) (option_map (claims_held (claim_part h) home) o) ≡ option_map (claims_held h home) o
    by None None = refl
    by None (Some claims) = refl
    by (Some true) None = refl
    by (Some true) (Some claims) = refl
    by (Some false) None = refl
    by (Some false) (Some claims) = refl

-- nothing is claimed or given up
pub unchanged : (claims : Option (ℕ → Bool)) → claims ≡ option_map unclaimed claims
unchanged None = refl
unchanged (Some claims) = refl

-- claims that are the same, whatever they were
pub claims_told : (claims : Option (ℕ → Bool)) (f h : (ℕ → Bool) → ℕ → Bool) → ((c : ℕ → Bool) → h c ≡ f c) → option_map f claims ≡ option_map h claims
claims_told None f h same = refl
claims_told (Some c) f h same = ap (λ (x : ℕ → Bool). Some x) (sym (same c))

-- an address that the place gave is claimed for its registration
pub claims_given : (b : Bench) (r : Registration) (change : Option Change) (claim : Claim) (home : Address) (old new : Option (ℕ → Bool)) → is_held claim ≡ true → deletes r ≡ false
    → new ≡ option_map (with_claim (is_held claim) home.0) old → claims_with change ≡ claims_held (holding_by false r (by_claim b r Held)) home → new ≡ option_map (claims_with change) old
claims_given b r change claim home old new given lasts is with =
    is ∙ ap (λ (h : Bool). option_map (with_claim h home.0) old) given
    ∙ ap (λ (f : Claiming). option_map f old) (sym (with ∙ ap (λ (ends : Bool). claims_held (holding_of false ends) home) lasts))

-- one that it did not give is not
pub claims_denied : (b : Bench) (r : Registration) (change : Option Change) (claim : Claim) (home : Address) (old new : Option (ℕ → Bool)) → is_held claim ≡ false
    → new ≡ option_map (with_claim (is_held claim) home.0) old → claims_with change ≡ claims_held (holding_by false r (by_claim b r claim)) home → new ≡ option_map (claims_with change) old
claims_denied b r change Held home old new denied is with = absurd cc
claims_denied b r change Waiting home old new denied is with = is ∙ ap (λ (f : Claiming). option_map f old) (sym with)
claims_denied b r change (Taken by) home old new denied is with = is ∙ ap (λ (f : Claiming). option_map f old) (sym with)

pub left_denied : (claim : Claim) (home : Address) (old new : Option (ℕ → Bool)) → is_held claim ≡ false → new ≡ option_map (with_claim (is_held claim) home.0) old → new ≡ old
left_denied claim home None new denied is = is
left_denied claim home (Some claims) new denied is = is ∙ ap (λ (h : Bool). Some (with_claim h home.0 claims)) denied
