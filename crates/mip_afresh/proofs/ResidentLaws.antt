-- The mobile that lives at an address: the first of the nodes that does; and an entry changes nothing of it.
use Rattle.std.proofs.Common.{◌≡◌, ℕ, zero, suc, ◌+◌, ◌<◌, Bool, true, false, refl, ap, ◌∙◌, subst, arith}
use Rattle.std.proofs.lemmas.Bool.{eqb-true}
use Rattle.std.proofs.lemmas.Bool.Decides.{nat_tests}
use Rattle.std.specs.Prelude.{◌==◌, Option, Some, None, if◌then◌else◌}
use Rattle.mip_words.specs.Last.{or_else}
use Rattle.mip_entries.specs.declared.entry.Entry.{Entry}
use Rattle.mip_history.specs.Setup.{Setup}
use Rattle.mip_history.specs.Runs.{Run, note}
use Rattle.mip_history.specs.Homes.{first_below, resident}

-- none of one more
pub none_more : (is : ℕ → Bool) (n : ℕ) → first_below is n ≡ None → is n ≡ false → first_below is (n + 1) ≡ None
none_more is n none not =
    let same : n + 1 ≡ suc n = omega arith in
    ap (first_below is) same ∙ ap (λ (o : Option ℕ). or_else o (if is n then Some n else None)) none ∙ ap (λ (b : Bool). if b then Some n else None) not

-- the first that is there is the first of any more
first_here : (is : ℕ → Bool) (n : ℕ) → first_below is n ≡ None → is n ≡ true → first_below is (suc n) ≡ Some n
first_here is n none here = ap (λ (o : Option ℕ). or_else o (if is n then Some n else None)) none ∙ ap (λ (b : Bool). if b then Some n else None) here

first_by : (is : ℕ → Bool) (n m : ℕ) (b : Bool) → (n == m) ≡ b → first_below is n ≡ None → is n ≡ true → (n < m → first_below is m ≡ Some n) → n < suc m → first_below is (suc m) ≡ Some n
first_by is n m true same none here rest less = subst (λ (k : ℕ). first_below is (suc k) ≡ Some n) (eqb-true n m same) (first_here is n none here)
first_by is n m false other none here rest less = ap (λ (o : Option ℕ). or_else o (if is m then Some m else None)) (rest (grind (arith, nat_tests, less, other)))

pub first_of : (is : ℕ → Bool) (n : ℕ) → first_below is n ≡ None → is n ≡ true → (m : ℕ) → n < m → first_below is m ≡ Some n
first_of is n none here zero less = absurd (omega (arith, less))
first_of is n none here (suc m) less = first_by is n m (n == m) refl none here (first_of is n none here m) less

pub resident_before : (s : Setup) (run : Run) (e : Entry) (address : ℕ) → resident s (note e run) address ≡ resident s run address
resident_before s run e address = refl
