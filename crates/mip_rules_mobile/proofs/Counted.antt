-- The numbers that a mobile draws are counted from the beginning of its present life.
use Rattle.std.proofs.Common.{◌≡◌, ℕ, ◌+◌, ◌<◌, List, [], ◌∷◌, length, refl, sym, ap, ◌∙◌, subst, arith}
use Rattle.std.specs.Prelude.{◌%◌, ◌^◌, Option, fold, if◌then◌else◌, Bool, true, false, ◌||◌, ◌==◌, not}
use Rattle.std.specs.List.{filter, list_any}
use Rattle.std.proofs.Math.Nat.{mod-add-mod, mod-eq_of_lt, mod-mod}
use Rattle.mip_words.specs.declared.address.Address.{Address}
use Rattle.mip_nonce.specs.Secrets.{Life}
use Rattle.mip_words.specs.LastLaws.{since}
use Rattle.mip_words.proofs.LastLaws.{since-quiet}
use Rattle.mip_entries.specs.Stamped.{Stamped}
use Rattle.mip_bulist.specs.declared.aim.Aim.TheVariants.{Bind, Delete}
use Rattle.mip_rules_mobile.specs.Trials.{Start}
use Rattle.mip_rules_mobile.specs.Sendings.{Solicits}
use Rattle.mip_rules_mobile.specs.Steps.{Step, Sends, Arrives, Restarts, Seeks, Tries}
use Rattle.mip_rules_mobile.specs.Known.{Known}
use Rattle.mip_rules_mobile.specs.HomeQuestions.{places_after, binding_number_of}
use Rattle.mip_rules_mobile.specs.RowQuestions.{cookies_after}
use Rattle.mip_rules_mobile.specs.DiscoveryQuestions.{discoveries_after, solicitations_after}
use Rattle.mip_rules_mobile.specs.Questions.{after, fresh, known}
use Rattle.mip_rules_mobile.specs.PartLaws.{part_life}
use Rattle.mip_rules_mobile.specs.Counted.{is_loss, this_life, is_search, is_solicitation, is_place, cookies_in, cookies_drawn, how_many}
use Rattle.mip_rules_mobile.proofs.PartLives.{part_is, HasPart, part-kept, fresh-part, part-numbers, part-home}

-- of a number that goes on by a weight of each step, and begins anew with a life, where something holds that each step keeps
module _ (Holds : Known → Type 0) (kept : (k : Known) (s : Stamped Step) → Holds k → Holds (after k s)) (m b : ℕ) (small : b < m) (weight : Step → ℕ) (total : List (Stamped Step) → ℕ) (none : total [] ≡ 0) (more : (s : Stamped Step) (past : List (Stamped Step)) → total (s ∷ past) ≡ weight s.step + total past)
    (question : Known → ℕ) (row : (k : Known) (s : Stamped Step) → Holds k → question k % m ≡ question k → question (after k s) ≡ (if is_loss s.step then b else (question k + weight s.step) % m)) where
  abbrev lost : Stamped Step → Bool
  lost s = is_loss s.step

  abbrev counted : Bool → ℕ → List (Stamped Step) → ℕ
  counted any first past = if any then (b + total (since lost past)) % m else (first + total past) % m

  fits-still : (q : ℕ) → (lose : Bool) (c w : ℕ) → q ≡ (if lose then b else (c + w) % m) → q % m ≡ q
  fits-still q true c w is = subst (λ (n : ℕ). n % m ≡ n) (sym is) (mod-eq_of_lt small)
  fits-still q false c w is =
      subst (λ (n : ℕ). n % m ≡ n) (sym is)
      (ap (λ (n : ℕ). n % m) (sym zero-more) ∙ mod-add-mod (c + w) m 0 ∙ ap (λ (n : ℕ). n % m) plain)
    where
      zero-more : (c + w) % m + 0 ≡ (c + w) % m
      zero-more = omega arith

      plain : c + w + 0 ≡ c + w
      plain = omega arith

  numbers : (k : Known) (past : List (Stamped Step)) → Holds k → question k % m ≡ question k → question (fold after k past) ≡ counted (list_any lost past) (question k) past
  numbers k [] holds fits = sym fits ∙ ap (λ (n : ℕ). n % m) (let e = none in omega (arith, e))
  numbers k (s ∷ past) holds fits =
      let is = row k s holds fits in
      numbers (after k s) past (kept k s holds) (fits-still (question (after k s)) (lost s) (question k) (weight s.step) is) ∙ by (list_any lost past) (lost s) is
    where
      by : (later here : Bool) → question (after k s) ≡ (if here then b else (question k + weight s.step) % m)
          → counted later (question (after k s)) past
          ≡ (if here || later then (b + total (if later then since lost past else (if here then past else s ∷ past))) % m else (question k + total (s ∷ past)) % m)
      by true true is = refl
      by true false is = refl
      by false true is = ap (λ (n : ℕ). (n + total past) % m) is
      by false false is =
          ap (λ (n : ℕ). (n + total past) % m) is
          ∙ mod-add-mod (question k + weight s.step) m (total past)
          ∙ ap (λ (n : ℕ). n % m) (let e = more s past in omega (arith, e))

  pub numbered : (k : Known) (past : List (Stamped Step)) → Holds k → question k ≡ b → question (fold after k past) ≡ (b + total (this_life past)) % m
  numbered k past holds first =
      numbers k past holds (subst (λ (n : ℕ). n % m ≡ n) (sym first) (mod-eq_of_lt small)) ∙ by (list_any lost past) refl
    where
      by : (any : Bool) → list_any lost past ≡ any → counted any (question k) past ≡ (b + total (since lost past)) % m
      by true is = refl
      by false is = ap (λ (n : ℕ). (n + total past) % m) first ∙ ap (λ (l : List (Stamped Step)). (b + total l) % m) (sym (since-quiet lost [] past is))

-- how many steps are of a kind, one by one
abbrev pub one_if : Bool → ℕ
one_if b = if b then 1 else 0

pub many-more : (kind : Step → Bool) (s : Stamped Step) (past : List (Stamped Step)) → how_many kind (s ∷ past) ≡ one_if (kind s.step) + how_many kind past
many-more kind s past = by (kind s.step)
  where
    by : (b : Bool) → length (if b then s ∷ filter (λ s. kind s.step) past else filter (λ s. kind s.step) past) ≡ one_if b + how_many kind past
    by true = omega arith
    by false = omega arith

-- a number that stays does so
stays : (m q : ℕ) → q % m ≡ q → q ≡ (q + 0) % m
stays m q fits = sym fits ∙ ap (λ (n : ℕ). n % m) (omega arith)

discoveries-row : (k : Known) (step : Step) → k.discoveries % 65536 ≡ k.discoveries → discoveries_after k step ≡ (if is_loss step then 1 else (k.discoveries + one_if (is_search step)) % 65536)
discoveries-row k Seeks fits = refl
discoveries-row k (Restarts secrets) fits = refl
discoveries-row k _ fits = stays 65536 k.discoveries fits

solicitations-row : (k : Known) (step : Step) → k.solicitations % 65536 ≡ k.solicitations → solicitations_after k step ≡ (if is_loss step then 1 else (k.solicitations + one_if (is_solicitation step)) % 65536)
solicitations-row k (Sends (Solicits home careof agent identifier)) fits = refl
solicitations-row k (Restarts secrets) fits = refl
solicitations-row k _ fits = stays 65536 k.solicitations fits

cookies-row : (k : Known) (step : Step) → k.cookies % 2 ^ 64 ≡ k.cookies → cookies_after k step ≡ (if is_loss step then 0 else (k.cookies + cookies_in step) % 2 ^ 64)
cookies-row k (Tries row (Start (Bind to) home careof)) fits = refl
cookies-row k (Tries row (Start Delete home careof)) fits = refl
cookies-row k (Restarts secrets) fits = refl
cookies-row k _ fits = stays (2 ^ 64) k.cookies fits

places-row : (home : Address) (numbers : ℕ) (k : Known) (step : Step) → HasPart home numbers k → k.places % numbers ≡ k.places
    → places_after k step ≡ (if is_loss step then 0 else (k.places + one_if (is_place home step)) % numbers)
places-row home numbers k (Restarts secrets) holds fits = refl
places-row home numbers k (Arrives address) holds fits =
    rw (part-home home numbers k holds, part-numbers home numbers k holds) (by (address.0 == home.0))
  where
    by : (at_home : Bool) → (if at_home then k.places else (k.places + 1) % numbers) ≡ (k.places + one_if (not at_home)) % numbers
    by true = stays numbers k.places fits
    by false = refl
places-row home numbers k _ holds fits = stays numbers k.places fits

module _ (home : Address) (declared : Option Address) (numbers : ℕ) (secrets : Life) (past : List (Stamped Step)) where
  pub discoveries-told : (known home declared numbers secrets past).discoveries ≡ (1 + how_many is_search (this_life past)) % 65536
  unfolding known after
  discoveries-told =
      numbered (λ _. Unit {0}) (λ k s _. tt) 65536 1 (omega arith) (λ step. one_if (is_search step)) (how_many is_search) refl (many-more is_search)
      (λ k. k.discoveries) (λ k s _ fits. discoveries-row k s.step fits) (fresh home declared numbers secrets) past tt refl

  pub solicitations-told : (known home declared numbers secrets past).solicitations ≡ (1 + how_many is_solicitation (this_life past)) % 65536
  unfolding known after
  solicitations-told =
      numbered (λ _. Unit {0}) (λ k s _. tt) 65536 1 (omega arith) (λ step. one_if (is_solicitation step)) (how_many is_solicitation) refl (many-more is_solicitation)
      (λ k. k.solicitations) (λ k s _ fits. solicitations-row k s.step fits) (fresh home declared numbers secrets) past tt refl

  pub cookies-told : (known home declared numbers secrets past).cookies ≡ cookies_drawn (this_life past) % 2 ^ 64
  unfolding known after
  cookies-told =
      numbered (λ _. Unit {0}) (λ k s _. tt) (2 ^ 64) 0 (omega arith) cookies_in cookies_drawn refl (λ s past. refl)
      (λ k. k.cookies) (λ k s _ fits. cookies-row k s.step fits) (fresh home declared numbers secrets) past tt refl
      ∙ ap (λ (n : ℕ). n % 2 ^ 64) (omega arith)

  pub places-told : 0 < numbers → binding_number_of (known home declared numbers secrets past) ≡ how_many (is_place home) (this_life past) % numbers
  unfolding known after
  places-told some =
      let k : Known = known home declared numbers secrets past in
      let counted = how_many (is_place home) (this_life past) in
      let told = numbered (HasPart home numbers) (part-kept home numbers) numbers 0 some (λ step. one_if (is_place home step)) (how_many (is_place home)) refl (many-more (is_place home))
      (λ k. k.places) (λ k s holds fits. places-row home numbers k s.step holds fits) (fresh home declared numbers secrets) past (fresh-part home declared numbers secrets) refl in
      ap (λ (n : ℕ). k.places % n) (part-numbers home numbers k (part_life home numbers secrets past, part_is home declared numbers secrets past))
      ∙ ap (λ (n : ℕ). n % numbers) (told ∙ ap (λ (n : ℕ). n % numbers) (omega arith))
      ∙ mod-mod counted numbers
