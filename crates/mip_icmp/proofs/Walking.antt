-- Walking over options, as a loop does.
use Rattle.std.proofs.Common.{◌≡◌, ℕ, zero, suc, ◌+◌, ◌-◌, ◌<◌, ◌≤◌, List, [], ◌∷◌, length, drop, Result, Ok, Err, refl, sym, ap, ◌∙◌, arith, add-zero}
use Rattle.mip_icmp.specs.Walk.{options_by}

-- bytes to pass over may as well be gone
pub passed : {S F : Type 0} (step : ℕ → S → List ℕ → Result (S × ℕ) F) (n : ℕ) (seen : S) (place : ℕ) (bytes : List ℕ) → n ≤ length bytes → options_by step n seen place bytes ≡ options_by step 0 seen (place + n) (drop n bytes)
unfolding options_by
passed step zero seen place bytes inside = ap (λ (p : ℕ). options_by step 0 seen p bytes) (sym (add-zero place))
passed step (suc n) seen place [] inside = absurd (omega (arith, inside))
passed step (suc n) seen place (b ∷ bytes) inside =
    let more : place + 1 + n ≡ place + suc n = omega arith in
    passed step n seen (place + 1) bytes (omega (arith, inside)) ∙ ap (λ (p : ℕ). options_by step 0 seen p (drop n bytes)) more

-- an option was read: the walk goes on behind it
pub goes_on : {S F : Type 0} (step : ℕ → S → List ℕ → Result (S × ℕ) F) (seen : S) (place : ℕ) (bytes : List ℕ) (x : S × ℕ) → 0 < x.1 → x.1 ≤ length bytes → step place seen bytes ≡ Ok x
    → options_by step 0 seen place bytes ≡ options_by step 0 x.0 (place + x.1) (drop x.1 bytes)
unfolding options_by
goes_on step seen place [] x some inside e = absurd (omega (arith, some, inside))
goes_on step seen place (t ∷ bytes) (next, zero) some inside e = absurd (omega (arith, some))
goes_on step seen place (t ∷ bytes) (next, suc n) some inside e =
    let more : place + 1 + n ≡ place + suc n = omega arith in
    let less : suc n - 1 ≡ n = omega arith in
    rw (e, less) (passed step n next (place + 1) bytes (omega (arith, inside)) ∙ ap (λ (p : ℕ). options_by step 0 next p (drop n bytes)) more)

-- an option was refused: so is the whole
pub stops : {S F : Type 0} (step : ℕ → S → List ℕ → Result (S × ℕ) F) (seen : S) (place : ℕ) (bytes : List ℕ) (fault : F) → 0 < length bytes → step place seen bytes ≡ Err fault → options_by step 0 seen place bytes ≡ Err fault
unfolding options_by
stops step seen place [] fault some e = absurd (omega (arith, some))
stops step seen place (t ∷ bytes) fault some e = rw e refl

-- nothing is left
pub is_done : {S F : Type 0} (step : ℕ → S → List ℕ → Result (S × ℕ) F) (seen : S) (place : ℕ) (bytes : List ℕ) → length bytes ≡ 0 → options_by step 0 seen place bytes ≡ Ok seen
unfolding options_by
is_done step seen place [] none = refl
is_done step seen place (t ∷ bytes) none = absurd (omega (arith, none))
