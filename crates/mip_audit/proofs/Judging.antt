-- What is known of the first line in which two texts differ.
use Rattle.std.proofs.Common.{◌≡◌, ◌≢◌, ℕ, suc, ◌+◌, ◌-◌, List, [], ◌∷◌, take, true, false, refl, sym, ap, ◌∙◌, subst, inl, inr, arith}
use Rattle.std.specs.Prelude.{Option, Some, None}
use Rattle.std.specs.Str.{bytes_eq}
use Rattle.std.proofs.lemmas.Bool.{cases_Bool}
use Rattle.std.proofs.lemmas.Slice.Eq.{bytes_eq-Decides}
use Rattle.mip_audit.specs.Lines.{lines_of, joined}
use Rattle.mip_audit.specs.Differences.{first_apart, difference}
use Rattle.mip_audit.specs.DifferencesLaws.{IsJudgedSo}
use Rattle.mip_audit.proofs.LineLaws.{joined-lines}

apart_on : (n : ℕ) (a b : List ℕ) (xs ys : List (List ℕ)) → bytes_eq a b ≡ true → first_apart n (a ∷ xs) (b ∷ ys) ≡ first_apart (n + 1) xs ys
unfolding first_apart
apart_on n a b xs ys same = rw same refl

apart_here : (n : ℕ) (a b : List ℕ) (xs ys : List (List ℕ)) → bytes_eq a b ≡ false → first_apart n (a ∷ xs) (b ∷ ys) ≡ Some n
unfolding first_apart
apart_here n a b xs ys other = rw other refl

none_apart : (n : ℕ) → first_apart n [] [] ≡ None
unfolding first_apart
none_apart n = refl

-- lines do not differ from themselves
pub same_lines : (n : ℕ) (xs : List (List ℕ)) → first_apart n xs xs ≡ None
same_lines n [] = none_apart n
same_lines n (x ∷ xs) = apart_on n x x xs xs ((bytes_eq-Decides x x).1 refl) ∙ same_lines (n + 1) xs

pub itself : (text : List ℕ) → difference text text ≡ None
itself text = same_lines 1 (lines_of text)

-- what an answer says of two lists of lines, the first of which has number n
record IsFirstApart (n line : ℕ) (xs ys : List (List ℕ)) : Type 0 where
  before : ℕ
  is : line ≡ n + before
  alike : take before xs ≡ take before ys
  there : take (suc before) xs ≢ take (suc before) ys

abbrev Says : ℕ → Option ℕ → List (List ℕ) → List (List ℕ) → Type 0
Says n None xs ys = xs ≡ ys
Says n (Some line) xs ys = IsFirstApart n line xs ys

abbrev head_of : List (List ℕ) → List ℕ
head_of [] = []
head_of (x ∷ xs) = x

abbrev tail_of : List (List ℕ) → List (List ℕ)
tail_of [] = []
tail_of (x ∷ xs) = xs

says_on : (n : ℕ) (o : Option ℕ) (a b : List ℕ) (xs ys : List (List ℕ)) → a ≡ b → Says (n + 1) o xs ys → Says n o (a ∷ xs) (b ∷ ys)
says_on n None a b xs ys same is = ap (λ (l : List ℕ). l ∷ xs) same ∙ ap (λ (ls : List (List ℕ)). b ∷ ls) is
says_on n (Some line) a b xs ys same is = record {
  before = suc is.before;
  is = omega (arith, is.is);
  alike = ap (λ (l : List ℕ). l ∷ take is.before xs) same ∙ ap (λ (ls : List (List ℕ)). b ∷ ls) is.alike;
  there = λ e. is.there (ap tail_of e);
}

judged_lines : (n : ℕ) (xs ys : List (List ℕ)) → Says n (first_apart n xs ys) xs ys
unfolding first_apart
judged_lines n [] [] = refl
judged_lines n [] (y ∷ ys) = record { before = 0; is = omega arith; alike = refl; there = λ e. absurd cc }
judged_lines n (x ∷ xs) [] = record { before = 0; is = omega arith; alike = refl; there = λ e. absurd cc }
judged_lines n (x ∷ xs) (y ∷ ys) = elim (cases_Bool (bytes_eq x y)) as (λ _. Says n (first_apart n (x ∷ xs) (y ∷ ys)) (x ∷ xs) (y ∷ ys)) [
  | inl same ↦ subst (λ (o : Option ℕ). Says n o (x ∷ xs) (y ∷ ys)) (sym (apart_on n x y xs ys same))
      (says_on n (first_apart (n + 1) xs ys) x y xs ys ((bytes_eq-Decides x y).0 same) (judged_lines (n + 1) xs ys))
  | inr other ↦ subst (λ (o : Option ℕ). Says n o (x ∷ xs) (y ∷ ys)) (sym (apart_here n x y xs ys other))
      (record { before = 0; is = omega arith; alike = refl; there = λ e. absurd (let bad : true ≡ false = sym ((bytes_eq-Decides x y).1 (ap head_of e)) ∙ other in cc) })
]

by_lines : (o : Option ℕ) (given permitted : List ℕ) → Says 1 o (lines_of given) (lines_of permitted) → IsJudgedSo o given permitted
by_lines None given permitted is = sym (joined-lines given) ∙ ap joined is ∙ joined-lines permitted
by_lines (Some line) given permitted is =
    let before : line - 1 ≡ is.before = omega (arith, is.is) in
    let there : line ≡ suc is.before = omega (arith, is.is) in
    record {
      before = subst (λ (n : ℕ). take n (lines_of given) ≡ take n (lines_of permitted)) (sym before) is.alike;
      there = subst (λ (n : ℕ). take n (lines_of given) ≢ take n (lines_of permitted)) (sym there) is.there;
    }

pub judged : (given permitted : List ℕ) → IsJudgedSo (difference given permitted) given permitted
judged given permitted = by_lines (difference given permitted) given permitted (judged_lines 1 (lines_of given) (lines_of permitted))
