-- How the bindings that entries leave are walked through.
use Rattle.std.proofs.Common.{◌≡◌, ℕ, List, [], ◌∷◌, ◌++◌, Bool, true, false, max, refl, sym, ap, ◌∙◌, arith}
use Rattle.std.specs.Prelude.{Option, Some, None, option_map, not, ◌||◌, ◌==◌, if◌then◌else◌}
use Rattle.std.proofs.lemmas.Bool.Decides.{nat_tests}
use Rattle.std.proofs.lemmas.List.Folds.{list_any-append}
use Rattle.mip_words.specs.Last.{or_else, last_where}
use Rattle.mip_binding.specs.Acceptance.{Binding}
use Rattle.mip_binding.specs.Rows.{add_found, others_by}
use Rattle.mip_binding.specs.Homes.{number_key, latest}
use Rattle.mip_entries.specs.declared.entry.Entry.{Entry}
use Rattle.mip_settled.specs.Acceptances.{accepted_told, has_number, is_renewed, left_first, left_in}

-- the first of some bindings may be counted before the others
pub latest_next : (moment end : ℕ) (bs : List Binding) → latest (max moment end) bs ≡ max end (latest moment bs)
latest_next moment end [] = omega arith
latest_next moment end (b ∷ bs) = let more = latest_next moment end bs in omega arith

-- what the last one that passes a test is at
abbrev pub careof_last : (Binding → Bool) → List Binding → Option ℕ
careof_last p bs = option_map (λ b. b.careof) (last_where p bs)

-- one entry more behind the others
renewed_more : (n home number : ℕ) (es : List Entry) (e : Entry) → is_renewed n home number (es ++ e ∷ []) ≡ (is_renewed n home number es || (has_number number (accepted_told n home e) || false))
renewed_more n home number es e = list_any-append (λ (x : Entry). has_number number (accepted_told n home x)) es (e ∷ [])

or_none : (b : Bool) → (b || (false || false)) ≡ b
or_none true = refl
or_none false = refl

-- one that makes no binding changes nothing
pub left_same : (n home : ℕ) (es : List Entry) (e : Entry) → accepted_told n home e ≡ None → left_in n home (es ++ e ∷ []) ≡ left_in n home es
left_same n home [] e none = ap (λ (o : Option Binding). add_found (left_first n home [] o) []) none
left_same n home (x ∷ es) e none =
    ap (λ (bs : List Binding). add_found (left_first n home (es ++ e ∷ []) (accepted_told n home x)) bs) (left_same n home es e none)
    ∙ ap (λ (o : Option Binding). add_found o (left_in n home es)) (by (accepted_told n home x))
  where
    by : (o : Option Binding) → left_first n home (es ++ e ∷ []) o ≡ left_first n home es o
    by None = refl
    by (Some b) = ap (λ (r : Bool). if r then None else Some b) (renewed_more n home b.number es e ∙ ap (λ (o : Option Binding). is_renewed n home b.number es || (has_number b.number o || false)) none ∙ or_none (is_renewed n home b.number es))

-- and one that makes one takes the place of that of its number
pub left_more : (n home : ℕ) (es : List Entry) (e : Entry) (b : Binding) → accepted_told n home e ≡ Some b → left_in n home (es ++ e ∷ []) ≡ others_by number_key b.number (left_in n home es) ++ b ∷ []
left_more n home [] e b some = ap (λ (o : Option Binding). add_found (left_first n home [] o) []) some
left_more n home (x ∷ es) e b some =
    ap (λ (bs : List Binding). add_found (left_first n home (es ++ e ∷ []) (accepted_told n home x)) bs) (left_more n home es e b some)
    ∙ by (accepted_told n home x)
  where
    first : (c : Binding) → left_first n home (es ++ e ∷ []) (Some c) ≡ (if is_renewed n home c.number es || (b.number == c.number) then None else Some c)
    first c = ap (λ (r : Bool). if r then None else Some c) (renewed_more n home c.number es e ∙ ap (λ (o : Option Binding). is_renewed n home c.number es || (has_number c.number o || false)) some ∙ or_same (is_renewed n home c.number es) (b.number == c.number))
      where
        or_same : (p q : Bool) → (p || (q || false)) ≡ (p || q)
        or_same true q = refl
        or_same false true = refl
        or_same false false = refl

    by : (o : Option Binding) → add_found (left_first n home (es ++ e ∷ []) o) (others_by number_key b.number (left_in n home es) ++ b ∷ [])
        ≡ others_by number_key b.number (add_found (left_first n home es o) (left_in n home es)) ++ b ∷ []
    by None = refl
    by (Some c) =
        ap (λ (o : Option Binding). add_found o (others_by number_key b.number (left_in n home es) ++ b ∷ [])) (first c)
        ∙ each (is_renewed n home c.number es) (b.number == c.number) refl
      where
        each : (renewed same : Bool) → (b.number == c.number) ≡ same
            → add_found (if renewed || same then None else Some c) (others_by number_key b.number (left_in n home es) ++ b ∷ [])
            ≡ others_by number_key b.number (add_found (if renewed then None else Some c) (left_in n home es)) ++ b ∷ []
        each true same is = refl
        each false true is =
            let gone : not (c.number == b.number) ≡ false = grind (arith, nat_tests) in
            ap (λ (stays : Bool). (if stays then c ∷ others_by number_key b.number (left_in n home es) else others_by number_key b.number (left_in n home es)) ++ b ∷ []) (sym gone)
        each false false is =
            let stays : not (c.number == b.number) ≡ true = grind (arith, nat_tests) in
            ap (λ (stays : Bool). (if stays then c ∷ others_by number_key b.number (left_in n home es) else others_by number_key b.number (left_in n home es)) ++ b ∷ []) (sym stays)
