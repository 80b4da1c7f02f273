-- Moments between two entries, and the nonce that one index names at both.
use Rattle.std.proofs.Common.{◌≡◌, ℕ, ◌+◌, ◌-◌, ◌%◌, ◌/◌, ◌<◌, ◌≤◌, List, [], ◌∷◌, ◌++◌, ltb, leb, sym, subst, arith}
use Rattle.std.specs.Prelude.{◌&&◌, Option, Some, unwrap_or}
use Rattle.std.specs.List.{AllByRecursion}
use Rattle.std.proofs.lemmas.Bool.{cond_both, and_parts, ltb-true, leb-true}
use Rattle.std.proofs.lemmas.List.{append_assoc, append-nil}
use Rattle.std.proofs.lemmas.List.Sums.{fold_push}
use Rattle.mip_words.specs.EachAfter.{EachAfter}
use Rattle.mip_entries.specs.declared.entry.Entry.{Entry}
use Rattle.mip_entries.specs.declared.entry.Entry.TheVariants as entries
use Rattle.mip_nonce.specs.Window.{current_of, behind, number_named}
use Rattle.mip_rules_correspondent.specs.Soundness.{IsNonce}
use Rattle.mip_history.specs.Setup.{Setup}
use Rattle.mip_history.specs.Questions.{moment_says, moment_in}
use Rattle.mip_history.proofs.Runs.{Meets}

-- an entry that does not set the time back
abbrev pub IsNotBefore : ℕ → Entry → Type 0
IsNotBefore m (entries.At moment) = m ≤ moment.0
IsNotBefore m _ = Unit {0}

moment_push : (start : ℕ) (front : List Entry) (e : Entry) → moment_in start (front ++ e ∷ []) ≡ unwrap_or (moment_says e) (moment_in start front)
moment_push start front e = fold_push (λ (s : ℕ) (x : Entry). unwrap_or (moment_says x) s) start front e

entry_rises : (s : Setup) (m : ℕ) (front : List Entry) (e : Entry) → Meets s front e → m ≤ moment_in s.start front → IsNotBefore m e × (m ≤ unwrap_or (moment_says e) (moment_in s.start front))
entry_rises s m front (entries.At moment) meets early = (omega arith, omega arith)
entry_rises s m front _ meets early = (tt, early)

-- no moment among entries, or behind them, is before the one in front of them
pub rises_from : (s : Setup) (m : ℕ) (front es : List Entry) → EachAfter (Meets s) front es → m ≤ moment_in s.start front
    → AllByRecursion (IsNotBefore m) es × (m ≤ moment_in s.start (front ++ es))
rises_from s m front [] each early = (tt, subst (λ (l : List Entry). m ≤ moment_in s.start l) (sym (append-nil front)) early)
rises_from s m front (e ∷ es) each early =
    let one = entry_rises s m front e each.0 early in
    let more = rises_from s m (front ++ e ∷ []) es each.1 (subst (λ (t : ℕ). m ≤ t) (sym (moment_push s.start front e)) one.1) in
    ((one.0, more.0), subst (λ (l : List Entry). m ≤ moment_in s.start l) (append_assoc front (e ∷ []) es) more.1)

-- the nonce that an index names has the index at the end of its number
some_is : (x y : ℕ) → Some x ≡ Some y → x ≡ y
some_is x y e = cc

near_index : (newest back index n : ℕ) → back ≡ (newest % 65536 + 65536 - index % 65536) % 65536 → back < 8 → back ≤ newest → newest - back ≡ n → n % 65536 ≡ index % 65536
near_index newest back index n is few inside same = omega arith

named_index : (now index n : ℕ) → number_named now index ≡ Some n → n % 65536 ≡ index % 65536
unfolding number_named
named_index now index n =
    cond_both (ltb (behind now index) 8 && leb (behind now index) (current_of now)) _ _ (λ (o : Option ℕ). o ≡ Some n → n % 65536 ≡ index % 65536) (λ near e.
    let tests = and_parts _ _ near in
    near_index (current_of now) (behind now index) index n (omega arith) (ltb-true (behind now index) 8 tests.0) (leb-true (behind now index) (current_of now) tests.1) (some_is _ n e))
    (λ far e. absurd cc)

-- two numbers that are near the newest ones of their moments, and have the same end
one_number : (t u i j : ℕ) → i ≤ t → t < i + 8 → j ≤ u → u < j + 8 → t ≤ u → u ≤ t + 1201 → i % 65536 ≡ j % 65536 → i ≡ j
one_number t u i j a b c d up near same = omega arith

-- so an index names the same nonce at two moments, and they are less than 240 s apart
pub same_nonce : (t u index i j : ℕ) → IsNonce t index i → IsNonce u index j → t ≤ u → u ≤ t + 36000000 → u < t + 240000
same_nonce t u index i j first second up far =
    let a = named_index t index i first.1 in
    let b = named_index u index j second.1 in
    let one : i ≡ j = one_number (t / 30000) (u / 30000) i j first.0.0 first.0.1 second.0.0 second.0.1 (omega arith) (omega arith) (omega arith) in
    near t u i first.0.0 (omega (arith, second.0.1, one))
  where
    near : (t u i : ℕ) → i ≤ t / 30000 → u / 30000 < i + 8 → u < t + 240000
    near t u i a b = omega arith
