-- Bytes that were read are options, one after another, and such bytes are read so.
use Rattle.std.proofs.Common.{◌≡◌, ℕ, zero, suc, ◌+◌, ◌-◌, ◌*◌, ◌<◌, ◌≤◌, Bool, true, false, ltb, not, ◌||◌, List, [], ◌∷◌, ◌++◌, length, take, drop, Result, Ok, refl, sym, ap, subst, ◌∙◌, arith, length-append, length-drop, take-append-drop}
use Rattle.std.specs.Prelude.{slice_index}
use Rattle.std.specs.List.{flat_map, AllByRecursion}
use Rattle.std.proofs.lemmas.Bool.{cond_both, cond-false, ltb-false, le-ltb, not-false, not_from_true, or_parts, or_from}
use Rattle.std.proofs.lemmas.List.{get_or_append_left, get_or-take, length-take-le, drop_at}
use Rattle.mip_words.proofs.StepLaws.{bind_ok, done, ok_is}
use Rattle.mip_icmp.specs.Walk.{IsOptionOf, option_by, options_by}
use Rattle.mip_icmp.specs.WalkLaws.{seen_by}
use Rattle.mip_icmp.proofs.Walking.{goes_on}

-- the byte at a place within an option, with other bytes behind it
pub at-append : (option rest : List ℕ) (i : ℕ) → i < length option → slice_index (option ++ rest) i ≡ slice_index option i
at-append option rest i inside = get_or_append_left option rest 0 i inside

-- an option of some length
abbrev pub TakesSome : (ℕ → ℕ → Bool) → Type 0
TakesSome has_units = (type units : ℕ) → has_units type units ≡ true → 0 < units

-- an option takes 8 bytes at least
pub option_long : (has_units : ℕ → ℕ → Bool) → TakesSome has_units → (option : List ℕ) → IsOptionOf has_units option → 8 ≤ length option
option_long has_units some option is = omega (arith, is.whole, some (slice_index option 0) (slice_index option 1) is.units)

-- the option that begins these bytes, cut off
record Takes {S : Type 0} (has_units : ℕ → ℕ → Bool) (noted : S → List ℕ → S) (seen : S) (bytes : List ℕ) (x : S × ℕ) : Type 0 where
  is : IsOptionOf has_units (take x.1 bytes)
  some : 0 < x.1
  inside : x.1 ≤ length bytes
  seen_now : x.0 ≡ noted seen (take x.1 bytes)

-- an area that was read, as its options
pub record IsCut {S : Type 0} (has_units : ℕ → ℕ → Bool) (noted : S → List ℕ → S) (seen set : S) (area : List ℕ) : Type 0 where
  pub options : List (List ℕ)
  pub are : AllByRecursion (IsOptionOf has_units) options
  pub whole : area ≡ flat_map (λ option. option) options
  pub set_now : seen_by noted seen options ≡ set

-- an option cut off, and what was read behind it
cut_whole : (n : ℕ) (area rest : List ℕ) → drop n area ≡ rest → area ≡ take n area ++ rest
cut_whole n area rest e = sym (take-append-drop n area) ∙ ap (λ (more : List ℕ). take n area ++ more) e

module _ {S F : Type 0} (has_units : ℕ → ℕ → Bool) (noted : S → List ℕ → S) (bad : ℕ → F) (some : TakesSome has_units)
    (same : (seen : S) (option rest : List ℕ) → IsOptionOf has_units option → noted seen (option ++ rest) ≡ noted seen option) where
  abbrev step : ℕ → S → List ℕ → Result (S × ℕ) F
  step place seen bytes = option_by has_units noted bad place seen bytes

  -- the bytes of a whole option, cut off
  cut_takes : (seen : S) (bytes : List ℕ) → 2 ≤ length bytes → 8 * slice_index bytes 1 ≤ length bytes → has_units (slice_index bytes 0) (slice_index bytes 1) ≡ true
      → Takes has_units noted seen bytes (noted seen bytes, 8 * slice_index bytes 1)
  cut_takes seen bytes two inside units =
      let size = 8 * slice_index bytes 1 in
      let filled : 0 < slice_index bytes 1 = some (slice_index bytes 0) (slice_index bytes 1) units in
      let long : length (take size bytes) ≡ size = length-take-le size bytes inside in
      let first : slice_index (take size bytes) 0 ≡ slice_index bytes 0 = get_or-take size bytes 0 0 (omega arith) in
      let second : slice_index (take size bytes) 1 ≡ slice_index bytes 1 = get_or-take size bytes 1 0 (omega arith) in
      let option : IsOptionOf has_units (take size bytes) = record {
        units = ap (λ (t : ℕ). has_units t (slice_index (take size bytes) 1)) first ∙ ap (has_units (slice_index bytes 0)) second ∙ units;
        whole = long ∙ ap (λ (u : ℕ). 8 * u) (sym second);
      } in
      let whole = take-append-drop size bytes in
      record { is = option; some = omega arith; inside = inside; seen_now = ap (noted seen) (sym whole) ∙ same seen (take size bytes) (drop size bytes) option }

  option_takes : (place : ℕ) (seen : S) (bytes : List ℕ) (x : S × ℕ) → step place seen bytes ≡ Ok x → Takes has_units noted seen bytes x
  unfolding option_by
  option_takes place seen bytes x =
      let P : Result (S × ℕ) F → Type 0 = λ r. r ≡ Ok x → Takes has_units noted seen bytes x in
      cond_both (ltb (length bytes) 2) _ _ P (λ _ e. absurd cc) (λ two.
      cond_both (ltb (length bytes) (8 * slice_index bytes 1) || not (has_units (slice_index bytes 0) (slice_index bytes 1))) _ _ P (λ _ e. absurd cc) (λ fits e.
      let parts = or_parts _ _ fits in
      let taken = cut_takes seen bytes (ltb-false _ _ two) (ltb-false _ _ parts.0) (not-false _ parts.1) in
      subst (λ (y : S × ℕ). Takes has_units noted seen bytes y) (ok_is (noted seen bytes, 8 * slice_index bytes 1) x e) taken))

  option_again : (place : ℕ) (seen : S) (option rest : List ℕ) → IsOptionOf has_units option → step place seen (option ++ rest) ≡ Ok (noted seen option, length option)
  unfolding option_by
  option_again place seen option rest is =
      let long = option_long has_units some option is in
      let first = at-append option rest 0 (omega arith) in
      let second = at-append option rest 1 (omega arith) in
      let all : length (option ++ rest) ≡ length option + length rest = length-append option rest in
      let two : ltb (length (option ++ rest)) 2 ≡ false = le-ltb _ _ (omega arith) in
      let inside : ltb (length (option ++ rest)) (8 * slice_index (option ++ rest) 1) ≡ false = le-ltb _ _ (omega (arith, is.whole, second)) in
      let units : has_units (slice_index (option ++ rest) 0) (slice_index (option ++ rest) 1) ≡ true = ap (λ (t : ℕ). has_units t (slice_index (option ++ rest) 1)) first ∙ ap (has_units (slice_index option 0)) second ∙ is.units in
      cond-false _ _ _ two ∙ cond-false _ _ _ (or_from _ _ inside (not_from_true _ units))
      ∙ ap (λ (s : S). done (s, 8 * slice_index (option ++ rest) 1)) (same seen option rest is)
      ∙ ap (λ (n : ℕ). done (noted seen option, n)) (ap (λ (u : ℕ). 8 * u) second ∙ sym is.whole)

  seen_next : (seen set : S) (option : List ℕ) (next : S) (options : List (List ℕ)) → next ≡ noted seen option → seen_by noted next options ≡ set → seen_by noted seen (option ∷ options) ≡ set
  seen_next seen set option next options e more = ap (λ (s : S). seen_by noted s options) (sym e) ∙ more

  pub area_cut : (fuel : ℕ) (seen : S) (place : ℕ) (area : List ℕ) (set : S) → length area ≤ fuel → options_by step 0 seen place area ≡ Ok set → IsCut has_units noted seen set area
  unfolding options_by
  area_cut fuel seen place [] set enough e = record { options = []; are = tt; whole = refl; set_now = ok_is seen set e }
  area_cut zero seen place (t ∷ bytes) set enough e = absurd (omega (arith, enough))
  area_cut (suc fuel) seen place (t ∷ bytes) set enough e =
      let area : List ℕ = t ∷ bytes in
      let first = bind_ok (step place seen area) (λ x. options_by step (x.1 - 1) x.0 (place + 1) bytes) set e in
      let x : S × ℕ = first.0 in
      let taken = option_takes place seen area x first.1 in
      let behind : options_by step 0 x.0 (place + x.1) (drop x.1 area) ≡ Ok set = sym (goes_on step seen place area x taken.some taken.inside first.1) ∙ e in
      let rest = area_cut fuel x.0 (place + x.1) (drop x.1 area) set (omega (arith, length-drop x.1 area, taken.some, enough)) behind in
      record {
        options = take x.1 area ∷ rest.options;
        are = (taken.is, rest.are);
        whole = cut_whole x.1 area (flat_map (λ option. option) rest.options) rest.whole;
        set_now = seen_next seen set (take x.1 area) x.0 rest.options taken.seen_now rest.set_now;
      }

  pub options_again : (seen : S) (place : ℕ) (options : List (List ℕ)) → AllByRecursion (IsOptionOf has_units) options → options_by step 0 seen place (flat_map (λ option. option) options) ≡ Ok (seen_by noted seen options)
  unfolding options_by
  options_again seen place [] are = refl
  options_again seen place (o ∷ options) are =
      let rest = flat_map (λ (option : List ℕ). option) options in
      let long = option_long has_units some o are.0 in
      let inside : length o ≤ length (o ++ rest) = omega (arith, length-append o rest) in
      let x : S × ℕ = (noted seen o, length o) in
      goes_on step seen place (o ++ rest) x (omega arith) inside (option_again place seen o rest are.0)
      ∙ ap (options_by step 0 (noted seen o) (place + length o)) (drop_at o rest (length o) refl)
      ∙ options_again (noted seen o) (place + length o) options are.1
