-- Which rows a verdict comes from.
use Rattle.std.proofs.Common.{◌≡◌, ◌≢◌, ℕ, zero, suc, ◌+◌, ◌-◌, ◌≤◌, ◌<◌, List, length, drop, ltb, leb, refl, sym, ap, ◌∙◌, subst, Bool, true, false, not, ◌&&◌, ◌||◌, arith}
use Rattle.std.proofs.lemmas.Bool.{cond_both, cond-false, eq-eqb, not-true, not-false, and_parts, ltb-true, leb-true}
use Rattle.std.proofs.lemmas.Slice.Eq.{bytes_eq-Decides}
use Rattle.std.proofs.Math.Nat.{le-max_right}
use Rattle.std.specs.Prelude.{◌/◌, ◌==◌, Option, Some, None, option_map, is_some}
use Rattle.mip_words.specs.Constants.{max_nonce_lifetime}
use Rattle.mip_words.specs.Addresses.{is_routable}
use Rattle.mip_words.specs.Sequence.{is_after}
use Rattle.mip_words.specs.declared.address.Address.{Address}
use Rattle.mip_words.specs.declared.why.Why.{Why}
use Rattle.mip_words.specs.declared.why.Why.TheVariants as whys
use Rattle.mip_mobhdr.specs.declared.indices.Indices.{Indices}
use Rattle.mip_nonce.specs.Window.{current_of, behind, number_named, IsValidAt}
use Rattle.mip_tokens.specs.Token.{authenticator_of, is_authentic}
use Rattle.mip_tokens.specs.declared.kbm.Kbm.{Kbm}
use Rattle.mip_bcache.specs.Acceptance.{Acceptance}
use Rattle.mip_bcache.specs.AcceptanceLaws.{kept_until_of}
use Rattle.mip_bcache.specs.declared.accepted.Accepted.{Accepted}
use Rattle.mip_reception.specs.Statuses.{insufficient_resources, home_registration_not_supported, sequence_out_of_window, expired_home_nonce, expired_careof_nonce, expired_nonces}
use Rattle.mip_reception.specs.StatusesLaws.{is_authorized}
use Rattle.mip_reception.specs.declared.registration.Registration.{Registration}
use Rattle.mip_rules_correspondent.specs.declared.verdict.Verdict.{Verdict}
use Rattle.mip_rules_correspondent.specs.declared.verdict.Verdict.TheVariants.{Refuse, Deny, Accept}
use Rattle.mip_reception.specs.Registrations.{home_of, careof_of, deletes, registered_of}
use Rattle.mip_rules_correspondent.specs.Verdicts.{Bench, granted_of, number_among, number_of, accepted_of, by_room, by_sequence, kbm_of, by_numbers, careof_number, by_indices, verdict}
use Rattle.mip_rules_correspondent.specs.Soundness.{IsNonce, IsCareofNonce, IsGenuine, IsSound}
use Rattle.mip_rules_correspondent.specs.SoundnessLaws.{IsBehind}

number_is : (x y : ℕ) → Some x ≡ Some y → x ≡ y
number_is x y e = cc

near_one : (newest back n : ℕ) → back < 8 → back ≤ newest → newest - back ≡ n → (n ≤ newest) × (newest < n + 8)
near_one newest back n few inside is = (omega arith, omega arith)

-- an index names a valid nonce
named_nonce : (now index n : ℕ) → number_named now index ≡ Some n → IsNonce now index n
unfolding number_named
named_nonce now index n e = (valid e, e)
  where
    valid : number_named now index ≡ Some n → IsValidAt now n
    valid e = cond_both (ltb (behind now index) 8 && leb (behind now index) (current_of now)) _ _ (λ (o : Option ℕ). o ≡ Some n → IsValidAt now n) (λ near e.
        let tests = and_parts _ _ near in
        let few = ltb-true (behind now index) 8 tests.0 in
        let back = leb-true (behind now index) (current_of now) tests.1 in
        let same = number_is (current_of now - behind now index) n e in
        near_one (current_of now) (behind now index) n few back same) (λ far e. absurd cc) e

inner_is : (x y : Option ℕ) → Some x ≡ Some y → x ≡ y
inner_is x y e = cc

abbrev CareofNonce : Bench → Registration → Indices → Option ℕ → Option (Option ℕ) → Type 0
CareofNonce b r indices j o = o ≡ Some j → IsCareofNonce b.now r indices j

careof_nonce_is : (b : Bench) (r : Registration) (indices : Indices) (j : Option ℕ) → careof_number b r indices ≡ Some j → IsCareofNonce b.now r indices j
careof_nonce_is b r indices j e = cond_both (deletes r) _ _ (CareofNonce b r indices j) (λ ends e. subst (IsCareofNonce b.now r indices) (inner_is None j e) ends) (λ binds e. by (number_named b.now indices.careof) refl binds e) e
  where
    by : (o : Option ℕ) → number_named b.now indices.careof ≡ o → deletes r ≡ false → option_map Some o ≡ Some j → IsCareofNonce b.now r indices j
    by None is binds e = absurd cc
    by (Some n) is binds e = subst (IsCareofNonce b.now r indices) (inner_is (Some n) j e) (binds, named_nonce b.now indices.careof n is)

-- a verdict is silence, a denial without a key, or comes from the rows behind the authenticator
walk : (b : Bench) (r : Registration) (message : List ℕ) (P : Verdict → Type 0)
    → ((why : Why) → P (Refuse why))
    → ((status : ℕ) → is_authorized status ≡ false → P (Deny status r.sequence None))
    → ((i : ℕ) (j : Option ℕ) (kbm : Kbm) → IsGenuine b r message i j kbm → P (by_sequence b r i j kbm b.floor))
    → P (verdict b r message)
unfolding verdict
walk b r message P silent unkeyed genuine =
    cond_both r.for_agent _ _ P (λ _. unkeyed home_registration_not_supported refl) (λ correspondent.
    cond_both (not (is_routable (home_of r).0 && is_routable (careof_of r).0)) _ _ P (λ _. silent whys.Unroutable) (λ routable.
    cond_both (not r.authorized) _ _ P (λ _. silent whys.Options) (λ _.
    by_nonces correspondent (and_parts _ _ (not-false _ routable)) r.nonces refl)))
  where
    by_nonces : r.for_agent ≡ false → (is_routable (home_of r).0 ≡ true) × (is_routable (careof_of r).0 ≡ true) → (o : Option Indices) → r.nonces ≡ o → P (by_indices b r message o)
    by_nonces correspondent routable None is = silent whys.Options
    by_nonces correspondent routable (Some indices) is = by_each (number_named b.now indices.home) (careof_number b r indices) refl refl
      where
        by_each : (i : Option ℕ) (j : Option (Option ℕ)) → number_named b.now indices.home ≡ i → careof_number b r indices ≡ j → P (by_numbers b r message i j)
        by_each None None _ _ = unkeyed expired_nonces refl
        by_each None (Some j) _ _ = unkeyed expired_home_nonce refl
        by_each (Some i) None _ _ = unkeyed expired_careof_nonce refl
        by_each (Some i) (Some j) home careof =
            cond_both (not (is_authentic (kbm_of b r i j).0 (registered_of r) b.own message)) _ _ P (λ _. silent whys.Authenticator) (λ passed.
            genuine i j (kbm_of b r i j) (record {
              for_correspondent = correspondent;
              home_routable = routable.0;
              careof_routable = routable.1;
              indices = indices;
              named = is;
              home_nonce = named_nonce b.now indices.home i home;
              careof_nonce = careof_nonce_is b r indices j careof;
              key = refl;
              authentic = (bytes_eq-Decides (drop (length message - 12) message) (authenticator_of (kbm_of b r i j).0 (registered_of r) b.own message)).0 (not-false _ passed);
            }))

status_is : (s t m n : ℕ) (k l : Option Kbm) → Deny s m k ≡ Deny t n l → s ≡ t
status_is s t m n k l e = cc

last_is : (s t m n : ℕ) (k l : Option Kbm) → Deny s m k ≡ Deny t n l → m ≡ n
last_is s t m n k l e = cc

key_is : (s t m n : ℕ) (k l : Option Kbm) → Deny s m k ≡ Deny t n l → k ≡ l
key_is s t m n k l e = cc

-- what an acceptance says of its parts
module _ (home home' : Address) (number number' : ℕ) (accepted accepted' : Accepted) (granted granted' : ℕ) (kbm kbm' : Kbm) (e : Accept home number accepted granted kbm ≡ Accept home' number' accepted' granted' kbm') where
  home_is : home ≡ home'
  home_is = cc

  number_same : number ≡ number'
  number_same = cc

  accepted_is : accepted ≡ accepted'
  accepted_is = cc

  granted_is : granted ≡ granted'
  granted_is = cc

  kbm_is : kbm ≡ kbm'
  kbm_is = cc

granted_short : (r : Registration) → (granted_of r ≤ 105) × (granted_of r ≤ r.lifetime)
granted_short r = cond_both (deletes r) _ _ (λ (g : ℕ). (g ≤ 105) × (g ≤ r.lifetime)) (λ _. (omega arith, omega arith)) (λ _. (omega arith, omega arith))

module _ (b : Bench) (r : Registration) (message : List ℕ) (home : Address) (number : ℕ) (accepted : Accepted) (granted : ℕ) (kbm : Kbm) where
  abbrev Sound : Verdict → Type 0
  Sound v = v ≡ Accept home number accepted granted kbm → IsSound b r message home number accepted granted kbm

  by_room_sound : (i : ℕ) (j : Option ℕ) (k : Kbm) → IsGenuine b r message i j k → ((last : ℕ) → b.floor ≡ Some last → is_after r.sequence last ≡ true) → Sound (by_room b r i j k)
  by_room_sound i j k genuine newer =
      cond_both b.full _ _ Sound (λ full e. absurd cc) (λ room e.
      let is = accepted_is (home_of r) home (number_of b.numbers r) number (accepted_of b.now r i j) accepted (granted_of r) granted k kbm e in
      let parts : IsSound b r message (home_of r) (number_of b.numbers r) (accepted_of b.now r i j) (granted_of r) k = record {
        genuine = genuine;
        of_home = refl;
        of_number = refl;
        of_careof = refl;
        of_sequence = refl;
        ends = refl;
        short = (granted_short r).0;
        asked = (granted_short r).1;
        newer = newer;
        room = room;
      } in
      moved parts
      (home_is (home_of r) home (number_of b.numbers r) number (accepted_of b.now r i j) accepted (granted_of r) granted k kbm e)
      (number_same (home_of r) home (number_of b.numbers r) number (accepted_of b.now r i j) accepted (granted_of r) granted k kbm e)
      is
      (granted_is (home_of r) home (number_of b.numbers r) number (accepted_of b.now r i j) accepted (granted_of r) granted k kbm e)
      (kbm_is (home_of r) home (number_of b.numbers r) number (accepted_of b.now r i j) accepted (granted_of r) granted k kbm e))
    where
      moved : {h : Address} {n : ℕ} {a : Accepted} {g : ℕ} {k : Kbm} → IsSound b r message h n a g k → h ≡ home → n ≡ number → a ≡ accepted → g ≡ granted → k ≡ kbm → IsSound b r message home number accepted granted kbm
      moved {h} {n} {a} {g} {k} s eh en ea eg ek =
          subst (λ (h : Address). IsSound b r message h number accepted granted kbm) eh
          (subst (λ (n : ℕ). IsSound b r message h n accepted granted kbm) en
          (subst (λ (a : Accepted). IsSound b r message h n a granted kbm) ea
          (subst (λ (g : ℕ). IsSound b r message h n a g kbm) eg
          (subst (λ (k : Kbm). IsSound b r message h n a g k) ek s))))

  by_sequence_sound : (i : ℕ) (j : Option ℕ) (k : Kbm) → IsGenuine b r message i j k → (o : Option ℕ) → b.floor ≡ o → Sound (by_sequence b r i j k o)
  by_sequence_sound i j k genuine None is = by_room_sound i j k genuine (λ last kept. absurd (let both = sym is ∙ kept in cc))
  by_sequence_sound i j k genuine (Some last) is =
      cond_both (not (is_after r.sequence last)) _ _ Sound (λ behind e. absurd cc) (λ after.
      by_room_sound i j k genuine (λ other kept.
      subst (λ (n : ℕ). is_after r.sequence n ≡ true) (number_is last other (sym is ∙ kept)) (not-false _ after)))

  pub sound : verdict b r message ≡ Accept home number accepted granted kbm → IsSound b r message home number accepted granted kbm
  sound = walk b r message Sound (λ why e. absurd cc) (λ status bare e. absurd cc) (λ i j k genuine. by_sequence_sound i j k genuine b.floor refl)

module _ (b : Bench) (r : Registration) (message : List ℕ) (last : ℕ) (kbm : Option Kbm) where
  abbrev Behind : Verdict → Type 0
  Behind v = v ≡ Deny 135 last kbm → IsBehind b r last

  by_room_behind : (i : ℕ) (j : Option ℕ) (k : Kbm) → Behind (by_room b r i j k)
  by_room_behind i j k = cond_both b.full _ _ Behind (λ full e. absurd (let same = status_is 130 135 r.sequence last (Some k) kbm e in omega arith)) (λ room e. absurd cc)

  by_sequence_behind : (i : ℕ) (j : Option ℕ) (k : Kbm) → (o : Option ℕ) → b.floor ≡ o → Behind (by_sequence b r i j k o)
  by_sequence_behind i j k None is = by_room_behind i j k
  by_sequence_behind i j k (Some n) is =
      cond_both (not (is_after r.sequence n)) _ _ Behind (λ behind e.
      let kept : b.floor ≡ Some last = is ∙ ap Some (last_is 135 135 n last (Some k) kbm e) in
      record {
        kept = kept;
        behind = subst (λ (m : ℕ). is_after r.sequence m ≡ false) (last_is 135 135 n last (Some k) kbm e) (not-true _ behind);
      }) (λ after. by_room_behind i j k)

  pub behind_kept : verdict b r message ≡ Deny 135 last kbm → IsBehind b r last
  behind_kept = walk b r message Behind (λ why e. absurd cc) (λ status bare e. absurd (let both = sym bare ∙ ap is_authorized (status_is status 135 r.sequence last None kbm e) in cc)) (λ i j k genuine. by_sequence_behind i j k b.floor refl)

module _ (b : Bench) (r : Registration) (message : List ℕ) (status last : ℕ) (kbm : Kbm) where
  abbrev Keyed : Verdict → Type 0
  Keyed v = v ≡ Deny status last (Some kbm) → (i : ℕ) × (j : Option ℕ) × IsGenuine b r message i j kbm

  key_same : (s m : ℕ) (k : Kbm) → Deny s m (Some k) ≡ Deny status last (Some kbm) → k ≡ kbm
  key_same s m k e = let keys = key_is s status m last (Some k) (Some kbm) e in cc

  by_room_keyed : (i : ℕ) (j : Option ℕ) (k : Kbm) → IsGenuine b r message i j k → Keyed (by_room b r i j k)
  by_room_keyed i j k genuine =
      cond_both b.full _ _ Keyed (λ full e. (i, j, subst (λ (q : Kbm). IsGenuine b r message i j q) (key_same 130 r.sequence k e) genuine)) (λ room e. absurd cc)

  by_sequence_keyed : (i : ℕ) (j : Option ℕ) (k : Kbm) → IsGenuine b r message i j k → (o : Option ℕ) → Keyed (by_sequence b r i j k o)
  by_sequence_keyed i j k genuine None = by_room_keyed i j k genuine
  by_sequence_keyed i j k genuine (Some n) =
      cond_both (not (is_after r.sequence n)) _ _ Keyed (λ behind e.
      (i, j, subst (λ (q : Kbm). IsGenuine b r message i j q) (key_same 135 n k e) genuine)) (λ after. by_room_keyed i j k genuine)

  pub keyed : verdict b r message ≡ Deny status last (Some kbm) → (i : ℕ) × (j : Option ℕ) × IsGenuine b r message i j kbm
  keyed = walk b r message Keyed (λ why e. absurd cc) (λ s bare e. absurd (let keys = key_is s status r.sequence last None (Some kbm) e in cc)) (λ i j k genuine. by_sequence_keyed i j k genuine b.floor)

-- a denial goes out under a key exactly where its status is one that does
module _ (b : Bench) (r : Registration) (message : List ℕ) (status last : ℕ) (kbm : Option Kbm) where
  abbrev Authorized : Verdict → Type 0
  Authorized v = v ≡ Deny status last kbm → is_some kbm ≡ is_authorized status

  under : (s m : ℕ) (k : Option Kbm) → Deny s m k ≡ Deny status last kbm → is_some k ≡ is_authorized s → is_some kbm ≡ is_authorized status
  under s m k e is = sym (ap (λ (o : Option Kbm). is_some o) (key_is s status m last k kbm e)) ∙ is ∙ ap is_authorized (status_is s status m last k kbm e)

  by_room_authorized : (i : ℕ) (j : Option ℕ) (k : Kbm) → Authorized (by_room b r i j k)
  by_room_authorized i j k = cond_both b.full _ _ Authorized (λ full e. under insufficient_resources r.sequence (Some k) e refl) (λ room e. absurd cc)

  by_sequence_authorized : (i : ℕ) (j : Option ℕ) (k : Kbm) → (o : Option ℕ) → Authorized (by_sequence b r i j k o)
  by_sequence_authorized i j k None = by_room_authorized i j k
  by_sequence_authorized i j k (Some n) =
      cond_both (not (is_after r.sequence n)) _ _ Authorized (λ behind e. under sequence_out_of_window n (Some k) e refl) (λ after. by_room_authorized i j k)

  pub authorized_by_status : verdict b r message ≡ Deny status last kbm → is_some kbm ≡ is_authorized status
  authorized_by_status =
      walk b r message Authorized (λ why e. absurd cc) (λ s bare e. under s r.sequence None e (sym bare)) (λ i j k genuine. by_sequence_authorized i j k b.floor)

-- a sequence is kept for as long as any nonce lives under which its update can be accepted
pub outlives : (a : Acceptance) (n now : ℕ) → IsValidAt a.at n → IsValidAt now n → now < kept_until_of a
outlives a n now first second =
    let near : now < a.at + max_nonce_lifetime = nearby a.at now n first.0 second.1 in
    omega (arith, near, le-max_right a.end (a.at + max_nonce_lifetime))
  where
    nearby : (t u i : ℕ) → i ≤ t / 30000 → u / 30000 < i + 8 → u < t + 240000
    nearby t u i a b = omega arith

-- a number is one of those that the judge has, and 0 where the binding ends
number-among : (numbers : ℕ) (number : Option ℕ) → 0 < numbers → number_among numbers number < numbers
number-among numbers None some = some
number-among numbers (Some number) some = cond_both (ltb number numbers) _ _ (λ (n : ℕ). n < numbers) (λ below. ltb-true number numbers below) (λ above. some)

none_among : (number : Option ℕ) → number_among 0 number ≡ 0
none_among None = refl
none_among (Some number) = cond_both (ltb number 0) _ _ (λ (n : ℕ). n ≡ 0) (λ below. absurd (let less = ltb-true number 0 below in omega arith)) (λ above. refl)

none_of_none : (r : Registration) → number_of 0 r ≡ 0
none_of_none r = cond_both (deletes r) _ _ (λ (n : ℕ). n ≡ 0) (λ ends. refl) (λ binds. none_among r.number)

pub number_below : (numbers : ℕ) (r : Registration) → 0 < numbers → number_of numbers r < numbers
number_below numbers r some = cond_both (deletes r) _ _ (λ (n : ℕ). n < numbers) (λ ends. some) (λ binds. number-among numbers r.number some)

-- and any other number than 0 is one of those
pub number_among_them : (numbers : ℕ) (r : Registration) → number_of numbers r ≢ 0 → number_of numbers r < numbers
number_among_them numbers r some = by numbers some
  where
    by : (numbers : ℕ) → number_of numbers r ≢ 0 → number_of numbers r < numbers
    by zero some = absurd (some (none_of_none r))
    by (suc n) some = number_below (suc n) r (omega arith)

-- an update that registers the home address ends the binding
pub number_at_home : (numbers : ℕ) (r : Registration) → (registered_of r).0 ≡ (home_of r).0 → number_of numbers r ≡ 0
number_at_home numbers r home = cond_both (deletes r) _ _ (λ (n : ℕ). n ≡ 0) (λ ends. refl) (λ binds. absurd (let ends = at_home binds in cc))
  where
    or_true : (b : Bool) → (b || true) ≡ true
    or_true true = refl
    or_true false = refl

    at_home : deletes r ≡ false → deletes r ≡ true
    at_home binds =
        let away : registered_of r ≡ careof_of r = cond-false (deletes r) _ _ binds in
        let same : ((careof_of r).0 == (home_of r).0) ≡ true = eq-eqb (careof_of r).0 (home_of r).0 (sym (ap (λ (a : Address). a.0) away) ∙ home) in
        ap (λ (b : Bool). (r.lifetime == 0) || b) same ∙ or_true (r.lifetime == 0)

-- with one number it is 0
among_one : (number : Option ℕ) → number_among 1 number ≡ 0
among_one None = refl
among_one (Some number) = cond_both (ltb number 1) _ _ (λ (n : ℕ). n ≡ 0) (λ below. omega (arith, ltb-true number 1 below)) (λ above. refl)

pub one_number : (r : Registration) → number_of 1 r ≡ 0
one_number r = cond_both (deletes r) _ _ (λ (n : ℕ). n ≡ 0) (λ ends. refl) (λ binds. among_one r.number)
