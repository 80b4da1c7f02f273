-- What is known of a text that is walked line by line, to its first line `trace`.
use Rattle.std.proofs.Common.{◌≡◌, ℕ, ◌-◌, List, [], ◌∷◌, ◌++◌, length, take, Bool, true, false, refl, sym, ap, ◌∙◌, subst, inl, inr, append_assoc, arith}
use Rattle.std.specs.Prelude.{Option, Some, None, option_map, codes, ◌==◌}
use Rattle.std.specs.List.{list_any, onto_first}
use Rattle.std.specs.Str.{bytes_eq}
use Rattle.std.proofs.Math.Seq.{take-append_seam}
use Rattle.std.proofs.lemmas.Bool.{cases_Bool, or_from, or_parts, false_from_ne_true}
use Rattle.std.proofs.lemmas.List.{append-nil, append_cancel_right, length-append}
use Rattle.std.proofs.lemmas.List.Folds.{list_any-append}
use Rattle.std.proofs.lemmas.Slice.Eq.{bytes_eq-Decides}
use Rattle.mip_lines.specs.Cutting.{parts}
use Rattle.mip_audit.specs.Lines.{lines_of, joined}
use Rattle.mip_audit.specs.Cutting.{trace_line, behind, cut_lines, cut_text, HasNoTraceLine}
use Rattle.mip_audit.proofs.LineLaws.{no_lines, one_line, joined-lines}
use Rattle.mip_audit.proofs.Walks.{line_ended, line_goes_on}

abbrev is_trace_line : List ℕ → Bool
is_trace_line line = bytes_eq line trace_line

two_parts : parts 10 trace_line ≡ trace_line ∷ [] → ⊥
unfolding parts
two_parts e = absurd (let n = ap (λ (ps : List (List ℕ)). length ps) e in omega (arith, n))

-- where no line ends, none is `trace`
pub no_trace_line : (text : List ℕ) → parts 10 text ≡ text ∷ [] → HasNoTraceLine text
no_trace_line [] e = ap (list_any is_trace_line) no_lines
no_trace_line (c ∷ rest) e =
    ap (list_any is_trace_line) (one_line c rest e)
    ∙ or_from _ _ (false_from_ne_true _ (λ test. two_parts (subst (λ (t : List ℕ). parts 10 t ≡ t ∷ []) ((bytes_eq-Decides (c ∷ rest) trace_line).0 test) e))) refl

-- the text is cut before this rest, and no line in front of it is `trace`
pub record IsCutBefore (text rest : List ℕ) : Type 0 where
  pub front : List ℕ
  pub is : text ≡ front ++ rest
  pub lines : (more : List ℕ) → lines_of (front ++ more) ≡ lines_of front ++ lines_of more
  pub none : HasNoTraceLine front

pub uncut : (text : List ℕ) → IsCutBefore text text
uncut text = record { front = []; is = refl; lines = λ more. ap (λ (ls : List (List ℕ)). ls ++ lines_of more) (sym no_lines); none = ap (list_any is_trace_line) no_lines }

abbrev ended : List ℕ → List ℕ
ended line = line ++ 10 ∷ []

text_is : (text line more : List ℕ) → lines_of text ≡ ended line ∷ lines_of more → text ≡ ended line ++ more
unfolding joined
text_is text line more is = sym (joined-lines text) ∙ ap joined is ∙ ap (λ (l : List ℕ). ended line ++ l) (joined-lines more)

test_is : (line : List ℕ) → bytes_eq line (codes "trace") ≡ false → is_trace_line (ended line) ≡ false
test_is line other = false_from_ne_true _ (λ test.
    let same : line ≡ codes "trace" = append_cancel_right line (codes "trace") (10 ∷ []) ((bytes_eq-Decides (ended line) trace_line).0 test) in
    let bad : true ≡ false = sym ((bytes_eq-Decides line (codes "trace")).1 same) ∙ other in cc)

abbrev first_of : List (List ℕ) → List ℕ
first_of [] = []
first_of (line ∷ lines) = line

abbrev others_of : List (List ℕ) → List (List ℕ)
others_of [] = []
others_of (line ∷ lines) = lines

abbrev tail_of : List ℕ → List ℕ
tail_of [] = []
tail_of (x ∷ xs) = xs

abbrev byte_of : List ℕ → ℕ
byte_of [] = 0
byte_of (x ∷ xs) = x

-- a line that a text begins with is a line of each text that begins with it
pub line_before : (text line next : List ℕ) (more : List (List ℕ)) → lines_of text ≡ ended line ∷ more → lines_of (ended line ++ next) ≡ ended line ∷ lines_of next
line_before text [] next more is = line_ended 10 next refl
line_before [] (c ∷ line) next more is = absurd (let n = ap (λ (ls : List (List ℕ)). length ls) (sym no_lines ∙ is) in omega (arith, n))
line_before (d ∷ text) (c ∷ line) next more is = elim (cases_Bool (d == 10)) as (λ _. lines_of (ended (c ∷ line) ++ next) ≡ ended (c ∷ line) ∷ lines_of next) [
  | inl end ↦ absurd (let n = ap (λ (ls : List (List ℕ)). length (first_of ls)) (sym (line_ended d text end) ∙ is) in omega (arith, n, length-append line (10 ∷ [])))
  | inr not ↦ on (line_before text line next) (lines_of text) refl (sym (line_goes_on d text not) ∙ is) not
]
  where
    on : ((ls : List (List ℕ)) → lines_of text ≡ ended line ∷ ls → lines_of (ended line ++ next) ≡ ended line ∷ lines_of next)
        → (ls : List (List ℕ)) → lines_of text ≡ ls → onto_first d ls ≡ ended (c ∷ line) ∷ more → (d == 10) ≡ false
        → lines_of (ended (c ∷ line) ++ next) ≡ ended (c ∷ line) ∷ lines_of next
    on below [] here split not = absurd (let n = ap (λ (ls : List (List ℕ)). length (first_of ls)) split in omega (arith, n, length-append line (10 ∷ [])))
    on below (q ∷ qs) here split not =
        let same : q ≡ ended line = ap tail_of (ap first_of split) in
        let first : d ≡ c = ap (λ (ls : List (List ℕ)). byte_of (first_of ls)) split in
        line_goes_on c (ended line ++ next) (ap (λ (x : ℕ). x == 10) (sym first) ∙ not)
        ∙ ap (onto_first c) (below qs (here ∙ ap (λ (l : List ℕ). l ∷ qs) same))

-- a line that is not `trace` comes to what stands in front
pub cut_on : (text rest line more : List ℕ) → IsCutBefore text rest → lines_of rest ≡ ended line ∷ lines_of more → bytes_eq line (codes "trace") ≡ false → IsCutBefore text more
cut_on text rest line more b is other =
    let goes : (next : List ℕ) → lines_of (ended line ++ next) ≡ ended line ∷ lines_of next = λ next. line_before rest line next (lines_of more) is in
    let alone : lines_of (ended line) ≡ ended line ∷ [] = ap lines_of (sym (append-nil (ended line))) ∙ goes [] ∙ ap (λ (ls : List (List ℕ)). ended line ∷ ls) no_lines in
    let both : lines_of (b.front ++ ended line) ≡ lines_of b.front ++ ended line ∷ [] = b.lines (ended line) ∙ ap (λ (ls : List (List ℕ)). lines_of b.front ++ ls) alone in
    record {
      front = b.front ++ ended line;
      is = b.is ∙ ap (λ (l : List ℕ). b.front ++ l) (text_is rest line more is) ∙ sym (append_assoc b.front (ended line) more);
      lines = λ next.
          ap lines_of (append_assoc b.front (ended line) next)
          ∙ b.lines (ended line ++ next)
          ∙ ap (λ (ls : List (List ℕ)). lines_of b.front ++ ls) (goes next)
          ∙ sym (append_assoc (lines_of b.front) (ended line ∷ []) (lines_of next))
          ∙ ap (λ (ls : List (List ℕ)). ls ++ lines_of next) (sym both);
      none =
          ap (list_any is_trace_line) both
          ∙ list_any-append is_trace_line (lines_of b.front) (ended line ∷ [])
          ∙ or_from _ _ b.none (or_from _ _ (test_is line other) refl);
    }

-- lines of which none is `trace` stand in the schedule
cut_ahead : (xs ys : List (List ℕ)) → list_any is_trace_line xs ≡ false → cut_lines (xs ++ ys) ≡ option_map (behind (joined xs)) (cut_lines ys)
unfolding cut_lines joined
cut_ahead [] ys none = by (cut_lines ys)
  where
    by : (o : Option (List ℕ × List ℕ)) → o ≡ option_map (behind []) o
    by None = refl
    by (Some p) = refl
cut_ahead (x ∷ xs) ys none =
    let tests = or_parts (is_trace_line x) (list_any is_trace_line xs) none in
    rw tests.0 (ap (option_map (behind x)) (cut_ahead xs ys tests.1) ∙ by (cut_lines ys))
  where
    by : (o : Option (List ℕ × List ℕ)) → option_map (behind x) (option_map (behind (joined xs)) o) ≡ option_map (behind (x ++ joined xs)) o
    by None = refl
    by (Some p) = ap (λ (l : List ℕ). Some (l, p.1)) (sym (append_assoc x (joined xs) p.0))

cut_none : (ls : List (List ℕ)) → list_any is_trace_line ls ≡ false → cut_lines ls ≡ None
unfolding cut_lines
cut_none ls none = ap cut_lines (sym (append-nil ls)) ∙ cut_ahead ls [] none

trace_cut : (ls : List (List ℕ)) → cut_lines (trace_line ∷ ls) ≡ Some ([], joined ls)
unfolding cut_lines
trace_cut ls = refl

-- no line of the text is `trace`
pub uncut_text : (text rest : List ℕ) → IsCutBefore text rest → HasNoTraceLine rest → cut_text text ≡ None
uncut_text text rest b none =
    ap cut_text b.is ∙ ap cut_lines (b.lines rest) ∙ cut_ahead (lines_of b.front) (lines_of rest) b.none
    ∙ ap (option_map (behind (joined (lines_of b.front)))) (cut_none (lines_of rest) none)

-- and so it is with the whole text
pub none_in_text : (text rest : List ℕ) → IsCutBefore text rest → HasNoTraceLine rest → HasNoTraceLine text
none_in_text text rest b none =
    ap (λ (t : List ℕ). list_any is_trace_line (lines_of t)) b.is
    ∙ ap (list_any is_trace_line) (b.lines rest)
    ∙ list_any-append is_trace_line (lines_of b.front) (lines_of rest)
    ∙ or_from _ _ b.none none

-- the line `trace` stands here
pub record IsCutHere (text schedule more : List ℕ) : Type 0 where
  pub exact : cut_text text ≡ Some (schedule, more)
  pub whole : text ≡ schedule ++ (trace_line ++ more)
  pub none : HasNoTraceLine schedule

cut_there : (text rest more : List ℕ) (b : IsCutBefore text rest) → lines_of rest ≡ trace_line ∷ lines_of more → IsCutHere text b.front more
cut_there text rest more b is = record {
  exact =
      ap cut_text b.is ∙ ap cut_lines (b.lines rest) ∙ cut_ahead (lines_of b.front) (lines_of rest) b.none
      ∙ ap (λ (ls : List (List ℕ)). option_map (behind (joined (lines_of b.front))) (cut_lines ls)) is
      ∙ ap (option_map (behind (joined (lines_of b.front)))) (trace_cut (lines_of more))
      ∙ ap (λ (l : List ℕ). Some (l, joined (lines_of more))) (append-nil (joined (lines_of b.front)) ∙ joined-lines b.front)
      ∙ ap (λ (l : List ℕ). Some (b.front, l)) (joined-lines more);
  whole = b.is ∙ ap (λ (l : List ℕ). b.front ++ l) (text_is rest (codes "trace") more is);
  none = b.none;
}

front_is : (text rest : List ℕ) (b : IsCutBefore text rest) → take (length text - length rest) text ≡ b.front
front_is text rest b =
    let long : length text - length rest ≡ length b.front = omega (arith, ap (λ (l : List ℕ). length l) b.is, length-append b.front rest) in
    ap (λ (n : ℕ). take n text) long ∙ ap (take (length b.front)) b.is ∙ take-append_seam b.front rest

pub cut_here : (text rest line more : List ℕ) → IsCutBefore text rest → lines_of rest ≡ ended line ∷ lines_of more → bytes_eq line (codes "trace") ≡ true
    → IsCutHere text (take (length text - length rest) text) more
cut_here text rest line more b is same =
    subst (λ (l : List ℕ). IsCutHere text l more) (sym (front_is text rest b))
    (cut_there text rest more b (is ∙ ap (λ (l : List ℕ). ended l ∷ lines_of more) ((bytes_eq-Decides line (codes "trace")).0 same)))
