-- The reason that a word stands for is the first that has it.
use Rattle.std.proofs.Common.{◌≡◌, ℕ, List, length, Bool, nat_lt, sym, ◌∙◌, subst}
use Rattle.std.specs.Prelude.{Option, Some, None, slice_get}
use Rattle.std.specs.List.{position, position_or_len}
use Rattle.std.specs.Str.{bytes_eq}
use Rattle.std.proofs.lemmas.Bool.{cond_both, ltb-false}
use Rattle.std.proofs.lemmas.List.Folds.{find_at}
use Rattle.std.proofs.lemmas.Option.{slice_get_past}
use Rattle.mip_words.specs.declared.why.Why.{Why}
use Rattle.mip_rows.specs.Whys.{why_word, why_among}

abbrev has_word : List ℕ → Why → Bool
has_word field w = bytes_eq (why_word w) field

among_at : (some : List Why) (field : List ℕ) (i : ℕ) → position (has_word field) some ≡ Some i → slice_get some i ≡ why_among some field
among_at some field i =
    cond_both (nat_lt (position_or_len (has_word field) some) (length some)) _ _ (λ (o : Option ℕ). o ≡ Some i → slice_get some i ≡ why_among some field)
    (λ near e. let same : position_or_len (has_word field) some ≡ i = cc in subst (λ (k : ℕ). slice_get some k ≡ why_among some field) same (sym (find_at (has_word field) some)))
    (λ _ e. absurd cc)

pub among_none : (some : List Why) (field : List ℕ) → position (has_word field) some ≡ None → None ≡ why_among some field
among_none some field =
    cond_both (nat_lt (position_or_len (has_word field) some) (length some)) _ _ (λ (o : Option ℕ). o ≡ None → None ≡ why_among some field)
    (λ _ e. absurd cc)
    (λ far e. sym (find_at (has_word field) some ∙ slice_get_past some (position_or_len (has_word field) some) (ltb-false (position_or_len (has_word field) some) (length some) far)))

pub among_found : (some : List Why) (field : List ℕ) (i : ℕ) (r : Option Why) → r ≡ slice_get some i → position (has_word field) some ≡ Some i → r ≡ why_among some field
among_found some field i r is at = is ∙ among_at some field i at
