-- What the words of the verdicts mean.
use Rattle.std.proofs.Common.{◌≡◌, ◌≢◌, ◌⊎◌, ℕ, zero, suc, ◌+◌, ◌-◌, ◌*◌, ◌^◌, ◌≤◌, ◌<◌, List, Bool, true, false, not, ◌&&◌, ◌||◌, ltb, inl, inr, refl, sym, ap, ◌∙◌, subst, arith}
use Rattle.std.specs.Prelude.{◌↔◌, ◌/◌, ◌%◌, ◌==◌, Option, Some, None, Result, Ok, Err, unwrap_or}
use Rattle.std.proofs.lemmas.Bool.{cond-true, cond-false, eq-eqb, eqb-true, ltb-true, and_parts, not-false}
use Rattle.std.proofs.lemmas.Bool.Decides.{nat_tests}
use Rattle.std.proofs.Math.Nat.{div-lt_iff_lt-mul, le-div_iff_mul-le}
use Rattle.mip_words.specs.Addresses.{is_routable}
use Rattle.mip_words.specs.Sequence.{step_from, is_after}
use Rattle.mip_words.specs.declared.address.Address.{Address}
use Rattle.mip_mobhdr.specs.declared.fault.Fault.{Fault}
use Rattle.mip_mobhdr.specs.Said.{Said}
use Rattle.mip_mobhdr.specs.Said.Said.{Update}
use Rattle.mip_mobhdr.specs.Reading.{update_of}
use Rattle.mip_nonce.specs.Window.{IsValidAt}
use Rattle.mip_tokens.specs.declared.kbm.Kbm.{Kbm}
use Rattle.mip_bcache.specs.declared.accepted.Accepted.{Accepted}
use Rattle.mip_reception.specs.declared.registration.Registration.{Registration}
use Rattle.mip_reception.specs.Registrations.{registration_said, registration_in, home_of, careof_of, deletes, registered_of}
use Rattle.mip_rules_correspondent.specs.declared.verdict.Verdict.TheVariants.{Accept}
use Rattle.mip_rules_correspondent.specs.Verdicts.{Bench, kbm_of, verdict}
use Rattle.mip_rules_correspondent.specs.Soundness.{IsGenuine, IsCareofNonce}
use Rattle.mip_rules_correspondent.specs.Meanings.{IsAhead, IsLiving, IsWithin, IsOrdinary, NamesAddresses, IsAsked, IsKeyed}
use Rattle.mip_rules_correspondent.proofs.VerdictLaws.{sound}

-- sequences
ahead_of : (last new : ℕ) → last < 65536 → new < 65536 → is_after new last ≡ true → IsAhead last new
ahead_of last new low high is =
    let tests = and_parts _ _ is in
    let some : 0 < (new + 65536 - last) % 65536 = ltb-true 0 (step_from last new) tests.0 in
    let few : (new + 65536 - last) % 65536 < 32768 = ltb-true (step_from last new) 32768 tests.1 in
    record { steps = (new + 65536 - last) % 65536; some = omega (arith, some); few = omega (arith, few); there = by (ltb last new) refl some few }
  where
    by : (more : Bool) → ltb last new ≡ more → 0 < (new + 65536 - last) % 65536 → (new + 65536 - last) % 65536 < 32768
        → (new ≡ last + (new + 65536 - last) % 65536) ⊎ (new + 65536 ≡ last + (new + 65536 - last) % 65536)
    by true more some few = let less : last < new = ltb-true last new more in inl (omega (arith, less, low, high))
    by false more some few =
        let least : new ≤ last = grind (arith, nat_tests, more) in inr (omega (arith, least, low, high, some))

after_of : (last new : ℕ) → last < 65536 → new < 65536 → IsAhead last new → is_after new last ≡ true
after_of last new low high is = by is.steps is.some is.few is.there
  where
    by : (steps : ℕ) → 1 ≤ steps → steps ≤ 32767 → (new ≡ last + steps) ⊎ (new + 65536 ≡ last + steps) → is_after new last ≡ true
    by steps some few (inl there) = let same : (new + 65536 - last) % 65536 ≡ steps = omega (arith, some, few, there, low, high) in grind (arith, nat_tests, same, some, few)
    by steps some few (inr there) = let same : (new + 65536 - last) % 65536 ≡ steps = omega (arith, some, few, there, low, high) in grind (arith, nat_tests, same, some, few)

pub after_ahead : (last new : ℕ) → last < 65536 → new < 65536 → (is_after new last ≡ true) ↔ IsAhead last new
after_ahead last new low high = (ahead_of last new low high, after_of last new low high)

-- nonces
pub valid_living : (now n : ℕ) → IsValidAt now n ↔ IsLiving now n
valid_living now n = (
  λ valid. (first.0 valid.0, last.0 valid.1),
  λ living. (first.1 living.0, last.1 living.1),
)
  where
    first : (n ≤ now / 30000) ↔ (n * 30000 ≤ now)
    first = le-div_iff_mul-le (omega arith)

    last : (now / 30000 < n + 8) ↔ (now < (n + 8) * 30000)
    last = div-lt_iff_lt-mul (omega arith)

-- addresses: the block of a number is its quotient
module _ (size index a : ℕ) (some : 0 < size) where
  lower : (index ≤ a / size) ↔ (index * size ≤ a)
  lower = le-div_iff_mul-le some

  upper : (a / size < index + 1) ↔ (a < (index + 1) * size)
  upper = div-lt_iff_lt-mul some

  pub within-block : (a / size == index) ≡ true → IsWithin size index a
  within-block is =
      let same : a / size ≡ index = eqb-true (a / size) index is in
      (lower.0 (omega (arith, same)), upper.0 (omega (arith, same)))

  pub block-within : IsWithin size index a → (a / size == index) ≡ true
  block-within is = let first = lower.1 is.0 in let last = upper.1 is.1 in eq-eqb (a / size) index (omega (arith, first, last))

module _ (a : ℕ) where
  ordinary : (none loopback multicast local : Bool) → (a == 0) ≡ none → (a == 1) ≡ loopback → (a / 2 ^ 120 == 255) ≡ multicast → (a / 2 ^ 118 == 1018) ≡ local
      → (not none && not loopback && not multicast && not local) ≡ true → IsOrdinary a
  ordinary false false false false none loopback multicast local is = record {
    specified = λ same. absurd (let both : true ≡ false = sym (eq-eqb a 0 same) ∙ none in cc);
    elsewhere = λ same. absurd (let both : true ≡ false = sym (eq-eqb a 1 same) ∙ loopback in cc);
    unicast = λ within. absurd (let both : true ≡ false = sym (block-within (2 ^ 120) 255 a (omega arith) within) ∙ multicast in cc);
    global = λ within. absurd (let both : true ≡ false = sym (block-within (2 ^ 118) 1018 a (omega arith) within) ∙ local in cc);
  }
  ordinary true loopback multicast local n l m o is = absurd cc
  ordinary false true multicast local n l m o is = absurd cc
  ordinary false false true local n l m o is = absurd cc
  ordinary false false false true n l m o is = absurd cc

  routable_of : (none loopback multicast local : Bool) → (a == 0) ≡ none → (a == 1) ≡ loopback → (a / 2 ^ 120 == 255) ≡ multicast → (a / 2 ^ 118 == 1018) ≡ local
      → IsOrdinary a → (not none && not loopback && not multicast && not local) ≡ true
  routable_of false false false false n l m o is = refl
  routable_of true loopback multicast local n l m o is = absurd (is.specified (eqb-true a 0 n))
  routable_of false true multicast local n l m o is = absurd (is.elsewhere (eqb-true a 1 l))
  routable_of false false true local n l m o is = absurd (is.unicast (within-block (2 ^ 120) 255 a (omega arith) m))
  routable_of false false false true n l m o is = absurd (is.global (within-block (2 ^ 118) 1018 a (omega arith) o))

  pub routable_ordinary : (is_routable a ≡ true) ↔ IsOrdinary a
  routable_ordinary = (
    ordinary (a == 0) (a == 1) (a / 2 ^ 120 == 255) (a / 2 ^ 118 == 1018) refl refl refl refl,
    routable_of (a == 0) (a == 1) (a / 2 ^ 120 == 255) (a / 2 ^ 118 == 1018) refl refl refl refl,
  )

-- what an update names and asks
either-of : (r : Registration) (none same : Bool) → (r.lifetime == 0) ≡ none → ((careof_of r).0 == (home_of r).0) ≡ same
    → ((none || same) ≡ true) ↔ ((r.lifetime ≡ 0) ⊎ ((careof_of r).0 ≡ (home_of r).0))
either-of r true same n s = (λ _. inl (eqb-true r.lifetime 0 n), λ _. refl)
either-of r false true n s = (λ _. inr (eqb-true (careof_of r).0 (home_of r).0 s), λ _. refl)
either-of r false false n s = (λ e. absurd cc, never)
  where
    never : (r.lifetime ≡ 0) ⊎ ((careof_of r).0 ≡ (home_of r).0) → false ≡ true
    never (inl e) = sym n ∙ eq-eqb r.lifetime 0 e
    never (inr e) = sym s ∙ eq-eqb (careof_of r).0 (home_of r).0 e

pub names : (r : Registration) → NamesAddresses r
names r = record {
  home = λ a e. ap (λ (o : Option Address). unwrap_or o r.source) e;
  home_source = λ e. ap (λ (o : Option Address). unwrap_or o r.source) e;
  careof = λ a e. ap (λ (o : Option Address). unwrap_or o r.source) e;
  careof_source = λ e. ap (λ (o : Option Address). unwrap_or o r.source) e;
  ends = either-of r (r.lifetime == 0) ((careof_of r).0 == (home_of r).0) refl refl;
  ended = λ e. cond-true (deletes r) _ _ e;
  bound = λ e. cond-false (deletes r) _ _ e;
}

pub asked_said : (source : Address) (home : Option Address) (message : List ℕ) (r : Registration) → registration_in source home message ≡ Some r → IsAsked source home message r
asked_said source home message r e = by (update_of message) refl e
  where
    by : (said : Result Said Fault) → update_of message ≡ said → registration_said source home said ≡ Some r → IsAsked source home message r
    by (Ok (Update s a h l k t o)) read e = record { sequence = s; ack = a; for_agent = h; local = l; key = k; lifetime = t; options = o; read = read; is = cc }
    by (Ok _) read e = absurd cc
    by (Err fault) read e = absurd cc

-- the key of an update
pub keyed_by : (b : Bench) (r : Registration) (message : List ℕ) (home : Address) (number : ℕ) (accepted : Accepted) (granted : ℕ) (kbm : Kbm)
    → verdict b r message ≡ Accept home number accepted granted kbm → IsKeyed b r accepted kbm
keyed_by b r message home number accepted granted kbm is =
    let s = sound b r message home number accepted granted kbm is in
    let g = s.genuine in
    by accepted.careof_nonce refl g.careof_nonce g.key
  where
    by : (o : Option ℕ) → accepted.careof_nonce ≡ o → IsCareofNonce b.now r (sound b r message home number accepted granted kbm is).genuine.indices accepted.careof_nonce
        → kbm ≡ kbm_of b r accepted.home_nonce accepted.careof_nonce → IsKeyed b r accepted kbm
    by None at nonce key = record {
      ends = λ _. ap (λ (k : Kbm). k.0) key ∙ ap (λ (o : Option ℕ). (kbm_of b r accepted.home_nonce o).0) at;
      lasts = λ lasts. absurd (let ends : deletes r ≡ true = subst (λ (o : Option ℕ). IsCareofNonce b.now r (sound b r message home number accepted granted kbm is).genuine.indices o) at nonce in cc);
    }
    by (Some j) at nonce key = record {
      ends = λ ends. absurd (let lasts = (subst (λ (o : Option ℕ). IsCareofNonce b.now r (sound b r message home number accepted granted kbm is).genuine.indices o) at nonce).0 in cc);
      lasts = λ _. (j, at, ap (λ (k : Kbm). k.0) key ∙ ap (λ (o : Option ℕ). (kbm_of b r accepted.home_nonce o).0) at);
    }
