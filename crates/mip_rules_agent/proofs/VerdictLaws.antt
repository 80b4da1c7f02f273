-- Which rows a verdict comes from.
use Rattle.std.proofs.Common.{◌≡◌, ℕ, refl, subst, ap, ◌∙◌, true, false, not, ◌&&◌, ◌||◌, arith}
use Rattle.std.proofs.lemmas.Bool.{cond_both, not-true, not-false, eqb-true}
use Rattle.std.proofs.lemmas.Bool.Decides.{nat_tests}
use Rattle.std.specs.Prelude.{◌≢◌, Bool, Option, Some, None, nat_lt}
use Rattle.mip_words.specs.Sequence.{is_after}
use Rattle.mip_words.specs.declared.address.Address.{Address}
use Rattle.mip_words.specs.declared.shield.Shield.{Shield}
use Rattle.mip_words.specs.declared.why.Why.{Why}
use Rattle.mip_words.specs.declared.why.Why.TheVariants as whys
use Rattle.mip_outside.specs.declared.claim.Claim.{Claim}
use Rattle.mip_outside.specs.Places.{is_held}
use Rattle.mip_reception.specs.declared.registration.Registration.{Registration}
use Rattle.mip_reception.specs.Registrations.{home_of, deletes, registered_of}
use Rattle.mip_rules_agent.specs.declared.bench.Bench.{Bench}
use Rattle.mip_rules_agent.specs.declared.home_verdict.HomeVerdict.{HomeVerdict}
use Rattle.mip_rules_agent.specs.declared.home_verdict.HomeVerdict.TheVariants.{Refuse, Deny, Accept}
use Rattle.mip_rules_agent.specs.Verdicts.{is_from, is_near, granted_of, accepted, by_room, by_sequence, is_away, before_claim, with_claim, verdict}
use Rattle.mip_rules_agent.specs.Soundness.{IsShielded, IsFit, IsSound, IsBehind}

pub shielded_is : (shield : Option Shield) (home : Address) → is_from home shield ≡ true → IsShielded shield home
shielded_is None home e = absurd cc
shielded_is (Some s) home e = record { ends = s; stands = refl; from = eqb-true s.from.0 home.0 e }

or_parts : (a b : Bool) → (a || b) ≡ false → (a ≡ false) × (b ≡ false)
or_parts true b e = absurd cc
or_parts false b e = (refl, e)

away_is : (a b : Bool) → (not a && not b) ≡ false → a ≡ false → b ≡ true
away_is true b e lasts = absurd cc
away_is false true e lasts = refl
away_is false false e lasts = absurd cc

-- silence, or it came under the shield of this home address
abbrev pub IsHeard : Option Shield → Address → HomeVerdict → Type 0
IsHeard shield home (Refuse why) = Unit {0}
IsHeard shield home (Deny status last) = IsShielded shield home
IsHeard shield home (Accept of careof sequence granted) = IsShielded shield home

whatever-heard : (shield : Option Shield) (home : Address) (v : HomeVerdict) → IsShielded shield home → IsHeard shield home v
whatever-heard shield home (Refuse why) under = tt
whatever-heard shield home (Deny status last) under = under
whatever-heard shield home (Accept of careof sequence granted) under = under

pub verdict-heard : (b : Bench) (shield : Option Shield) (claim : Claim) (r : Registration) → IsHeard shield (home_of r) (verdict b shield claim r)
unfolding verdict before_claim
verdict-heard b shield claim r =
    cond_both (not r.for_agent) _ _ Q (λ _. tt) (λ agent.
    cond_both (not (is_from (home_of r) shield)) _ _ Q (λ _. tt)
    (λ from. whatever-heard shield (home_of r) _ (shielded_is shield (home_of r) (not-false _ from))))
  where
    Q : Option HomeVerdict → Type 0
    Q o = IsHeard shield (home_of r) (with_claim b r claim o)

module _ (b : Bench) (shield : Option Shield) (claim : Claim) (r : Registration) where
  -- a verdict is silence, a denial with the update's own sequence, or comes from the row of the sequence and those behind it
  walk : (P : HomeVerdict → Type 0) → ((why : Why) → P (Refuse why)) → ((status : ℕ) → status ≢ 135 → P (Deny status r.sequence))
      → (IsFit b shield r → P (with_claim b r claim (by_sequence b r b.kept))) → P (verdict b shield claim r)
  unfolding verdict before_claim
  walk P silent denied fit =
      cond_both (not r.for_agent) _ _ Q (λ _. silent whys.Role) (λ agent.
      cond_both (not (is_from (home_of r) shield)) _ _ Q (λ _. silent whys.Unshielded) (λ from.
      cond_both (not (is_near (home_of r) b.own) || nat_lt b.valid 4) _ _ Q (λ _. denied 132 (λ e. omega arith)) (λ near.
      cond_both (not b.served) _ _ Q (λ _. denied 133 (λ e. omega arith)) (λ served.
      cond_both (not (deletes r) && not (is_away b r)) _ _ Q (λ _. denied 174 (λ e. omega arith)) (λ away.
      let parts = or_parts (not (is_near (home_of r) b.own)) (nat_lt b.valid 4) near in
      fit (record {
        for_agent = not-false _ agent;
        shielded = shielded_is shield (home_of r) (not-false _ from);
        near = not-false _ parts.0;
        valid = let few : nat_lt b.valid 4 ≡ false = parts.1 in grind (arith, nat_tests, few);
        served = not-false _ served;
        away = away_is (deletes r) (is_away b r) away;
      }))))))
    where
      Q : Option HomeVerdict → Type 0
      Q o = P (with_claim b r claim o)

status_is : (s t m n : ℕ) → Deny s m ≡ Deny t n → s ≡ t
status_is s t m n e = cc

last_is : (s t m n : ℕ) → Deny s m ≡ Deny t n → m ≡ n
last_is s t m n e = cc

-- what an acceptance says of its parts
module _ (home home' careof careof' : Address) (sequence sequence' granted granted' : ℕ) (e : Accept home careof sequence granted ≡ Accept home' careof' sequence' granted') where
  home_is : home' ≡ home
  home_is = cc

  careof_is : careof' ≡ careof
  careof_is = cc

  sequence_is : sequence' ≡ sequence
  sequence_is = cc

  granted_is : granted' ≡ granted
  granted_is = cc

module _ (b : Bench) (shield : Option Shield) (claim : Claim) (r : Registration) (home careof : Address) (sequence granted : ℕ) where
  abbrev Sound : HomeVerdict → Type 0
  Sound v = v ≡ Accept home careof sequence granted → IsSound b shield claim r home careof sequence granted

  abbrev Newer : Type 0
  Newer = (last : ℕ) → b.kept ≡ Some last → is_after r.sequence last ≡ true

  accepted_sound : IsFit b shield r → Newer → (deletes r ≡ false → b.full ≡ false) → (deletes r ≡ false → is_held claim ≡ true) → Sound (accepted b r)
  accepted_sound fit newer room held e = record {
    fit = fit;
    of_home = home_is (home_of r) home (registered_of r) careof r.sequence sequence (granted_of b r) granted e;
    of_careof = careof_is (home_of r) home (registered_of r) careof r.sequence sequence (granted_of b r) granted e;
    of_sequence = sequence_is (home_of r) home (registered_of r) careof r.sequence sequence (granted_of b r) granted e;
    of_time = granted_is (home_of r) home (registered_of r) careof r.sequence sequence (granted_of b r) granted e;
    newer = newer;
    room = room;
    held = held;
  }

  by_room_sound : IsFit b shield r → Newer → Sound (with_claim b r claim (by_room b r))
  by_room_sound fit newer =
      cond_both (deletes r) _ _ Q (λ ends. accepted_sound fit newer (λ lasts. absurd (apart ends lasts)) (λ lasts. absurd (apart ends lasts))) (λ lasts.
      cond_both b.full _ _ Q (λ full e. absurd cc) (λ room.
      cond_both (is_held claim) _ _ Sound (λ held. accepted_sound fit newer (λ _. room) (λ _. held)) (λ taken e. absurd cc)))
    where
      Q : Option HomeVerdict → Type 0
      Q o = Sound (with_claim b r claim o)

      apart : deletes r ≡ true → deletes r ≡ false → ⊥
      apart ends lasts = cc

  some_is : (x y : ℕ) → Some x ≡ Some y → x ≡ y
  some_is x y e = cc

  by_sequence_sound : IsFit b shield r → (o : Option ℕ) → b.kept ≡ o → Sound (with_claim b r claim (by_sequence b r o))
  by_sequence_sound fit None is = by_room_sound fit (λ last e. absurd (never last e is))
    where
      never : (last : ℕ) → b.kept ≡ Some last → b.kept ≡ None → ⊥
      never last e is = cc
  by_sequence_sound fit (Some n) is =
      cond_both (not (is_after r.sequence n)) _ _ (λ o. Sound (with_claim b r claim o)) (λ behind e. absurd cc)
      (λ after. by_room_sound fit (λ last e. subst (λ (m : ℕ). is_after r.sequence m ≡ true) (same last e) (not-false _ after)))
    where
      same : (last : ℕ) → b.kept ≡ Some last → n ≡ last
      same last e = cc

  pub sound : verdict b shield claim r ≡ Accept home careof sequence granted → IsSound b shield claim r home careof sequence granted
  sound = walk b shield claim r Sound (λ why e. absurd cc) (λ status other e. absurd cc) (λ fit. by_sequence_sound fit b.kept refl)

module _ (b : Bench) (shield : Option Shield) (claim : Claim) (r : Registration) (last : ℕ) where
  abbrev Behind : HomeVerdict → Type 0
  Behind v = v ≡ Deny 135 last → IsBehind b r last

  by_room_behind : Behind (with_claim b r claim (by_room b r))
  by_room_behind =
      cond_both (deletes r) _ _ Q (λ ends e. absurd cc) (λ lasts.
      cond_both b.full _ _ Q (λ full e. absurd (let same = status_is 130 135 r.sequence last e in omega arith)) (λ room.
      cond_both (is_held claim) _ _ Behind (λ held e. absurd cc) (λ taken e. absurd (let same = status_is 134 135 r.sequence last e in omega arith))))
    where
      Q : Option HomeVerdict → Type 0
      Q o = Behind (with_claim b r claim o)

  by_sequence_behind : (o : Option ℕ) → b.kept ≡ o → Behind (with_claim b r claim (by_sequence b r o))
  by_sequence_behind None is = by_room_behind
  by_sequence_behind (Some n) is =
      cond_both (not (is_after r.sequence n)) _ _ (λ o. Behind (with_claim b r claim o)) (λ behind e. record {
        kept = is ∙ ap Some (last_is 135 135 n last e);
        behind = subst (λ (m : ℕ). is_after r.sequence m ≡ false) (last_is 135 135 n last e) (not-true _ behind);
      }) (λ after. by_room_behind)

  pub behind_kept : verdict b shield claim r ≡ Deny 135 last → IsBehind b r last
  behind_kept = walk b shield claim r Behind (λ why e. absurd cc) (λ status other e. absurd (other (status_is status 135 r.sequence last e))) (λ fit. by_sequence_behind b.kept refl)
