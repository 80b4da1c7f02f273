-- What is known of two texts that are compared byte by byte.
use Rattle.std.proofs.Common.{◌≡◌, inl, inr, ℕ, ◌+◌, ◌<◌, List, [], ◌∷◌, length, true, false, ◌&&◌, refl, sym, ap, subst, arith}
use Rattle.std.specs.Prelude.{⊤, Some, None, ◌==◌, if◌then◌else◌}
use Rattle.std.specs.List.{onto_first}
use Rattle.std.specs.Str.{bytes_eq}
use Rattle.std.proofs.lemmas.Bool.{cond_both, cases_Bool, eqb-true, eq-eqb}
use Rattle.mip_audit.specs.Lines.{lines_of}
use Rattle.mip_audit.specs.Differences.{Progress, difference_from, first_apart}

-- the first of the lines begins with this byte
pub record BeginsWith (c : ℕ) (lines : List (List ℕ)) : Type 0 where
  pub line : List ℕ
  pub behind : List (List ℕ)
  pub is : lines ≡ (c ∷ line) ∷ behind

begins_onto : (c : ℕ) (lines : List (List ℕ)) → BeginsWith c (onto_first c lines)
begins_onto c [] = record { line = []; behind = []; is = refl }
begins_onto c (line ∷ lines) = record { line = line; behind = lines; is = refl }

pub begins : (c : ℕ) (rest : List ℕ) → BeginsWith c (lines_of (c ∷ rest))
unfolding lines_of
begins c rest =
    cond_both (c == 10) _ _ (BeginsWith c)
    (λ is. record { line = []; behind = lines_of rest; is = ap (λ (x : ℕ). (x ∷ []) ∷ lines_of rest) (sym (eqb-true c 10 is)) })
    (λ _. begins_onto c (lines_of rest))

-- there are no lines, or the first has a byte
abbrev IsBegun : List (List ℕ) → Type 0
IsBegun [] = ⊤
IsBegun (line ∷ lines) = 0 < length line

begun : (text : List ℕ) → IsBegun (lines_of text)
unfolding lines_of
begun [] = tt
begun (c ∷ rest) = let b = begins c rest in subst IsBegun (sym b.is) (omega arith)

same_test : (c : ℕ) (a b : List ℕ) → bytes_eq (c ∷ a) (c ∷ b) ≡ bytes_eq a b
same_test c a b = ap (λ t. t && bytes_eq a b) (eq-eqb c c refl)

same_onto : (n c : ℕ) (xs ys : List (List ℕ)) → IsBegun xs → IsBegun ys → first_apart n (onto_first c xs) (onto_first c ys) ≡ first_apart n xs ys
unfolding first_apart
same_onto n c [] [] _ _ = rw (same_test c [] []) refl
same_onto n c [] ([] ∷ ys) _ long = absurd (omega (arith, long))
same_onto n c [] ((x ∷ b) ∷ ys) _ _ = rw (same_test c [] (x ∷ b)) refl
same_onto n c ([] ∷ xs) [] long _ = absurd (omega (arith, long))
same_onto n c ((x ∷ a) ∷ xs) [] _ _ = rw (same_test c (x ∷ a) []) refl
same_onto n c (a ∷ xs) (b ∷ ys) _ _ = rw (same_test c a b) refl

pub line_ended : (c : ℕ) (rest : List ℕ) → (c == 10) ≡ true → lines_of (c ∷ rest) ≡ (10 ∷ []) ∷ lines_of rest
unfolding lines_of
line_ended c rest is = rw is refl

pub line_goes_on : (c : ℕ) (rest : List ℕ) → (c == 10) ≡ false → lines_of (c ∷ rest) ≡ onto_first c (lines_of rest)
unfolding lines_of
line_goes_on c rest not = rw not refl

same_end : (n : ℕ) (xs ys : List (List ℕ)) → first_apart n ((10 ∷ []) ∷ xs) ((10 ∷ []) ∷ ys) ≡ first_apart (n + 1) xs ys
unfolding first_apart
same_end n xs ys = refl

-- both texts go on with the same byte
pub same_byte : (n c : ℕ) (rest more : List ℕ) → first_apart n (lines_of (c ∷ rest)) (lines_of (c ∷ more)) ≡ first_apart (if c == 10 then n + 1 else n) (lines_of rest) (lines_of more)
same_byte n c rest more = elim (cases_Bool (c == 10)) as (λ _. first_apart n (lines_of (c ∷ rest)) (lines_of (c ∷ more)) ≡ first_apart (if c == 10 then n + 1 else n) (lines_of rest) (lines_of more)) [
  | inl is ↦ rw (line_ended c rest is, line_ended c more is, is) (same_end n (lines_of rest) (lines_of more))
  | inr not ↦ rw (line_goes_on c rest not, line_goes_on c more not, not) (same_onto n c (lines_of rest) (lines_of more) (begun rest) (begun more))
]

-- they go on with another one each
pub other_byte : (n a b : ℕ) (rest more : List ℕ) → (a == b) ≡ false → first_apart n (lines_of (a ∷ rest)) (lines_of (b ∷ more)) ≡ Some n
unfolding first_apart
other_byte n a b rest more not =
    let x = begins a rest in
    let y = begins b more in
    rw (x.is, y.is, not) refl

-- the given one has ended, and the other one goes on
pub given_ended : (p : Progress) (b : ℕ) (more : List ℕ) → length p.rest ≡ 0 → difference_from p (b ∷ more) ≡ Some p.line
unfolding first_apart lines_of
given_ended p b more none =
    by p.rest none
  where
    by : (rest : List ℕ) → length rest ≡ 0 → first_apart p.line (lines_of rest) (lines_of (b ∷ more)) ≡ Some p.line
    by [] _ = rw (begins b more).is refl
    by (a ∷ rest) none = absurd (omega (arith, none))

-- the other one has ended
pub other_ended : (p : Progress) → 0 < length p.rest → difference_from p [] ≡ Some p.line
unfolding first_apart lines_of
other_ended p some = by p.rest some
  where
    by : (rest : List ℕ) → 0 < length rest → first_apart p.line (lines_of rest) [] ≡ Some p.line
    by [] some = absurd (omega (arith, some))
    by (a ∷ rest) _ = rw (begins a rest).is refl

pub both_ended : (p : Progress) → length p.rest ≡ 0 → difference_from p [] ≡ None
unfolding first_apart lines_of
both_ended p none = by p.rest none
  where
    by : (rest : List ℕ) → length rest ≡ 0 → first_apart p.line (lines_of rest) [] ≡ None
    by [] _ = refl
    by (a ∷ rest) none = absurd (omega (arith, none))
