-- What each row of the verdict answers, and which addresses are of one link.
use Rattle.std.proofs.Common.{◌≡◌, ℕ, ◌+◌, ◌*◌, ◌^◌, ◌≤◌, ◌<◌, refl, sym, ap, ◌∙◌, subst, Bool, true, false, not, ◌&&◌, ◌||◌, arith}
use Rattle.std.specs.Prelude.{◌↔◌, ◌/◌, ◌==◌, nat_lt, if◌then◌else◌, Option, Some, None}
use Rattle.std.specs.Option.{option_map_or}
use Rattle.std.proofs.lemmas.Bool.{cond-true, cond-false, eq-eqb, eqb-true, and_parts, not-false, not_from_true, not_from_false}
use Rattle.std.proofs.lemmas.Bool.Decides.{nat_tests}
use Rattle.std.proofs.Math.Nat.{div-lt_iff_lt-mul, le-div_iff_mul-le}
use Rattle.mip_words.specs.Addresses.{is_routable, prefix_of}
use Rattle.mip_words.specs.Sequence.{is_after}
use Rattle.mip_words.specs.declared.address.Address.{Address}
use Rattle.mip_words.specs.declared.shield.Shield.{Shield}
use Rattle.mip_words.specs.declared.why.Why.TheVariants as whys
use Rattle.mip_outside.specs.declared.claim.Claim.{Claim}
use Rattle.mip_outside.specs.Places.{is_held}
use Rattle.mip_reception.specs.declared.registration.Registration.{Registration}
use Rattle.mip_reception.specs.Registrations.{home_of, careof_of, deletes, registered_of}
use Rattle.mip_rules_agent.specs.declared.bench.Bench.{Bench}
use Rattle.mip_rules_agent.specs.declared.home_verdict.HomeVerdict.{HomeVerdict}
use Rattle.mip_rules_agent.specs.declared.home_verdict.HomeVerdict.TheVariants.{Refuse, Deny, Accept}
use Rattle.mip_rules_agent.specs.Verdicts.{is_from, is_near, granted_of, accepted, by_room, by_sequence, is_away, before_claim, with_claim, verdict}
use Rattle.mip_rules_agent.specs.Soundness.{IsShielded}
use Rattle.mip_rules_agent.specs.Placing.{HasPrefix, AreOfOneLink, IsElsewhere}
use Rattle.mip_rules_agent.specs.Rows.{IsHeard, IsNear, IsServed, IsPlaced, IsNewer, JudgesInOrder}
use Rattle.mip_rules_agent.proofs.VerdictLaws.{shielded_is}

-- the prefix of an address is its quotient
module _ (size prefix a : ℕ) (some : 0 < size) where
  lower : (prefix ≤ a / size) ↔ (prefix * size ≤ a)
  lower = le-div_iff_mul-le some

  upper : (a / size < prefix + 1) ↔ (a < (prefix + 1) * size)
  upper = div-lt_iff_lt-mul some

  quotient-within : a / size ≡ prefix → (prefix * size ≤ a) × (a < (prefix + 1) * size)
  quotient-within is = (lower.0 (omega (arith, is)), upper.0 (omega (arith, is)))

  within-quotient : (prefix * size ≤ a) × (a < (prefix + 1) * size) → a / size ≡ prefix
  within-quotient is = let first = lower.1 is.0 in let last = upper.1 is.1 in omega (arith, first, last)

pub near-link : (a b : Address) → is_near a b ≡ true → AreOfOneLink a b
near-link a b is = record {
  prefix = a.0 / 2 ^ 64;
  first = quotient-within (2 ^ 64) (a.0 / 2 ^ 64) a.0 (omega arith) refl;
  last = quotient-within (2 ^ 64) (a.0 / 2 ^ 64) b.0 (omega arith) (sym (eqb-true (a.0 / 2 ^ 64) (b.0 / 2 ^ 64) is));
}

pub link-near : (a b : Address) → AreOfOneLink a b → is_near a b ≡ true
link-near a b is = eq-eqb (a.0 / 2 ^ 64) (b.0 / 2 ^ 64) (within-quotient (2 ^ 64) is.prefix a.0 (omega arith) is.first ∙ sym (within-quotient (2 ^ 64) is.prefix b.0 (omega arith) is.last))

-- what cannot be true is false
never-true : (b : Bool) → (b ≡ true → ⊥) → b ≡ false
never-true true never = absurd (never refl)
never-true false never = refl

pub away-elsewhere : (b : Bench) (r : Registration) → is_away b r ≡ true → IsElsewhere b.own (careof_of r)
away-elsewhere b r is =
    let parts = and_parts _ _ is in
    record {
      routable = parts.0;
      other = λ link. absurd (let both : not true ≡ true = ap not (sym (link-near (careof_of r) b.own link)) ∙ parts.1 in cc);
    }

elsewhere-away : (b : Bench) (r : Registration) → IsElsewhere b.own (careof_of r) → is_away b r ≡ true
elsewhere-away b r is =
    let far : is_near (careof_of r) b.own ≡ false = never-true (is_near (careof_of r) b.own) (λ near. is.other (near-link (careof_of r) b.own near)) in
    ap (λ (x : Bool). x && not (is_near (careof_of r) b.own)) is.routable ∙ ap not far

shielded-from : (shield : Option Shield) (home : Address) → IsShielded shield home → is_from home shield ≡ true
shielded-from shield home is = ap (λ (s : Option Shield). option_map_or (λ (e : Shield). e.from.0 == home.0) s false) is.stands ∙ eq-eqb is.ends.from.0 home.0 is.from

module _ (b : Bench) (shield : Option Shield) (claim : Claim) (r : Registration) where
  abbrev far : Bool
  far = not (is_near (home_of r) b.own) || nat_lt b.valid 4

  -- behind the rows that are passed
  heard : IsHeard shield r → (r.for_agent ≡ true) × (is_from (home_of r) shield ≡ true)
  heard is = (is.for_agent, shielded-from shield (home_of r) is.shielded)

  either-true : (a c : Bool) → c ≡ true → (a || c) ≡ true
  either-true true c is = refl
  either-true false c is = is

  other_links : IsHeard shield r → far ≡ true → verdict b shield claim r ≡ Deny 132 r.sequence
  unfolding verdict before_claim
  other_links is other =
      let h = heard is in
      ap (with_claim b r claim)
      (cond-false (not r.for_agent) _ _ (not_from_true _ h.0) ∙ cond-false (not (is_from (home_of r) shield)) _ _ (not_from_true _ h.1) ∙ cond-true far _ _ other)

  no-far : IsNear b shield r → far ≡ false
  no-far is =
      let valid : nat_lt b.valid 4 ≡ false = (let v = is.valid in grind (arith, nat_tests, v)) in
      ap (λ (x : Bool). not x || nat_lt b.valid 4) (link-near (home_of r) b.own is.near) ∙ valid

  unserved : IsNear b shield r → b.served ≡ false → verdict b shield claim r ≡ Deny 133 r.sequence
  unfolding verdict before_claim
  unserved is other =
      let h = heard is.heard in
      ap (with_claim b r claim)
      (cond-false (not r.for_agent) _ _ (not_from_true _ h.0) ∙ cond-false (not (is_from (home_of r) shield)) _ _ (not_from_true _ h.1) ∙ cond-false far _ _ (no-far is)
      ∙ cond-true (not b.served) _ _ (not_from_false _ other))

  module _ (is : IsServed b shield r) where
    abbrev bad : Bool
    bad = not (deletes r) && not (is_away b r)

    served : before_claim b shield r ≡ (if bad then Some (Deny 174 r.sequence) else by_sequence b r b.kept)
    unfolding before_claim
    served =
        let n = is.near in
        let h = heard n.heard in
        cond-false (not r.for_agent) _ _ (not_from_true _ h.0) ∙ cond-false (not (is_from (home_of r) shield)) _ _ (not_from_true _ h.1) ∙ cond-false far _ _ (no-far n)
        ∙ cond-false (not b.served) _ _ (not_from_true _ is.served)

    bad_careof : deletes r ≡ false → (IsElsewhere b.own (careof_of r) → ⊥) → verdict b shield claim r ≡ Deny 174 r.sequence
    unfolding verdict
    bad_careof lasts other =
        let near : is_away b r ≡ false = never-true (is_away b r) (λ away. other (away-elsewhere b r away)) in
        ap (with_claim b r claim) (served ∙ cond-true bad _ _ (ap (λ (x : Bool). not x && not (is_away b r)) lasts ∙ ap not near))

  good_careof : (ends : Bool) → deletes r ≡ ends → (deletes r ≡ false → IsElsewhere b.own (careof_of r)) → (not (deletes r) && not (is_away b r)) ≡ false
  good_careof true ends place = ap (λ (x : Bool). not x && not (is_away b r)) ends
  good_careof false lasts place = ap (λ (x : Bool). not (deletes r) && not x) (elsewhere-away b r (place lasts)) ∙ none (not (deletes r))
    where
      none : (x : Bool) → (x && false) ≡ false
      none true = refl
      none false = refl

  placed : (is : IsPlaced b shield r) → before_claim b shield r ≡ by_sequence b r b.kept
  placed is = served is.served ∙ cond-false (bad is.served) _ _ (good_careof (deletes r) refl is.elsewhere)

  behind : (last : ℕ) → IsPlaced b shield r → b.kept ≡ Some last → is_after r.sequence last ≡ false → verdict b shield claim r ≡ Deny 135 last
  unfolding verdict
  behind last is kept older = ap (with_claim b r claim) (placed is ∙ ap (by_sequence b r) kept ∙ cond-true (not (is_after r.sequence last)) _ _ (not_from_false _ older))

  in_sequence : (o : Option ℕ) → ((last : ℕ) → o ≡ Some last → is_after r.sequence last ≡ true) → by_sequence b r o ≡ by_room b r
  in_sequence None newer = refl
  in_sequence (Some last) newer = cond-false (not (is_after r.sequence last)) _ _ (not_from_true _ (newer last refl))

  newer : IsNewer b shield r → before_claim b shield r ≡ by_room b r
  newer is = placed is.placed ∙ in_sequence b.kept is.newer

  full : IsNewer b shield r → deletes r ≡ false → b.full ≡ true → verdict b shield claim r ≡ Deny 130 r.sequence
  unfolding verdict
  full is lasts none = ap (with_claim b r claim) (newer is ∙ cond-false (deletes r) _ _ lasts ∙ cond-true b.full _ _ none)

  claims : IsNewer b shield r → deletes r ≡ false → b.full ≡ false → before_claim b shield r ≡ None
  claims is lasts room = newer is ∙ cond-false (deletes r) _ _ lasts ∙ cond-false b.full _ _ room

  taken : IsNewer b shield r → deletes r ≡ false → b.full ≡ false → is_held claim ≡ false → verdict b shield claim r ≡ Deny 134 r.sequence
  unfolding verdict
  taken is lasts room other = ap (with_claim b r claim) (claims is lasts room) ∙ cond-false (is_held claim) _ _ other

  ended : IsNewer b shield r → deletes r ≡ true → verdict b shield claim r ≡ accepted b r
  unfolding verdict
  ended is ends = ap (with_claim b r claim) (newer is ∙ cond-true (deletes r) _ _ ends)

  registered : IsNewer b shield r → deletes r ≡ false → b.full ≡ false → is_held claim ≡ true → verdict b shield claim r ≡ accepted b r
  unfolding verdict
  registered is lasts room held = ap (with_claim b r claim) (claims is lasts room) ∙ cond-true (is_held claim) _ _ held

  role : r.for_agent ≡ false → verdict b shield claim r ≡ Refuse whys.Role
  unfolding verdict before_claim
  role other = ap (with_claim b r claim) (cond-true (not r.for_agent) _ _ (not_from_false _ other))

  unshielded : r.for_agent ≡ true → (IsShielded shield (home_of r) → ⊥) → verdict b shield claim r ≡ Refuse whys.Unshielded
  unfolding verdict before_claim
  unshielded agent bare =
      let other : is_from (home_of r) shield ≡ false = never-true (is_from (home_of r) shield) (λ from. bare (shielded_is shield (home_of r) from)) in
      ap (with_claim b r claim) (cond-false (not r.for_agent) _ _ (not_from_true _ agent) ∙ cond-true (not (is_from (home_of r) shield)) _ _ (not_from_false _ other))

  pub judges : JudgesInOrder b shield claim r
  judges = record {
    role = role;
    unshielded = unshielded;
    other_link = λ is other.
        let away : is_near (home_of r) b.own ≡ false = never-true (is_near (home_of r) b.own) (λ near. other (near-link (home_of r) b.own near)) in
        other_links is (ap (λ (x : Bool). not x || nat_lt b.valid 4) away);
    invalid = λ is few. other_links is (let less : nat_lt b.valid 4 ≡ true = grind (arith, nat_tests, few) in either-true (not (is_near (home_of r) b.own)) (nat_lt b.valid 4) less);
    unserved = unserved;
    careof = λ is lasts other. bad_careof is lasts other;
    sequence = behind;
    room = full;
    taken = taken;
    ended = λ is ends. (granted_of b r, ended is ends);
    registered = λ is lasts room held. (granted_of b r, registered is lasts room held);
  }
