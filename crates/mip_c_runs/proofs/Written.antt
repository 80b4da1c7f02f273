-- What was written of an answer to a sink that was empty, where no call failed and the whole input was told.
use Rattle.std.proofs.Common.{◌≡◌, ℕ, ◌<◌, ◌≤◌, ◌⊎◌, inl, inr, true≢false, refl, sym, ap, ◌∙◌, subst, arith, List, [], ◌++◌, length, append-nil, length-append}
use Rattle.std.specs.Prelude.{Option, Some, None, unwrap_or, is_some}
use Rattle.std.proofs.lemmas.Bool.{cases_order, lt-ltb}
use Rattle.mip_replies.specs.declared.input_form.InputForm.{InputForm}
use Rattle.mip_replies.specs.Answers.{Answer, form_answer, long_answer}
use Rattle.mip_replies.specs.Told.{Told, IsConclusive, IsAnswered}
use Rattle.mip_c_runs.specs.Replies.{IsReplied}

-- bytes that are too many are answered alike
long : (form : InputForm) (bytes : List ℕ) → 16777216 < length bytes → form_answer form bytes ≡ long_answer
long form bytes many = rw (lt-ltb 16777216 (length bytes) many) refl

few_or_many : (n : ℕ) → (n ≤ 16777216) ⊎ (16777216 < n)
few_or_many n = elim (cases_order n 16777216) as (λ _. (n ≤ 16777216) ⊎ (16777216 < n)) [
  | inl e ↦ inl (omega (arith, e))
  | inr (inl below) ↦ inl (omega (arith, below))
  | inr (inr above) ↦ inr above
]

-- the answer to what was read is that to the whole input
same : (form : InputForm) (bytes rest : List ℕ) → (length bytes ≤ 16777216 → rest ≡ []) → (length bytes ≤ 16777216) ⊎ (16777216 < length bytes)
    → form_answer form bytes ≡ form_answer form (bytes ++ rest)
same form bytes rest end (inl few) = ap (λ (l : List ℕ). form_answer form l) (sym (ap (λ (l : List ℕ). bytes ++ l) (end few) ∙ append-nil bytes))
same form bytes rest end (inr many) = long form bytes many ∙ sym (long form (bytes ++ rest) (omega (arith, many, length-append bytes rest)))

says : (answer : Answer) (status : ℕ) (written : List ℕ) → IsConclusive status → Told answer status (Some []) (Some written) → IsReplied answer status written
says answer status written sure told = let all = told.conclusive sure in (all.0, ap (λ (held : Option (List ℕ)). unwrap_or held []) all.1)

read_all : (status : ℕ) → IsConclusive status → (P Q : Type 0) → P ⊎ (((status ≡ 3) ⊎ (status ≡ 5)) × Q) → P
read_all status sure P Q (inl end) = end
read_all status sure P Q (inr (inl three, q)) = absurd (sure.no_read_fault three)
read_all status sure P Q (inr (inr five, q)) = absurd (sure.no_want_of_memory five)

pub is_replied : (form : InputForm) (input : List ℕ) (left : Option (List ℕ)) (written : List ℕ) (status : ℕ) → IsConclusive status
    → ((bytes : List ℕ) × IsAnswered (form_answer form) bytes status (Some input) left (Some []) (Some written))
    → IsReplied (form_answer form input) status written
is_replied form input None written status sure a = absurd (true≢false (ap (λ (o : Option (List ℕ)). is_some o) a.1.taken))
is_replied form input (Some rest) written status sure a =
    let whole : input ≡ a.0 ++ rest = ap (λ (o : Option (List ℕ)). unwrap_or o []) a.1.taken in
    let end = read_all status sure (length a.0 ≤ 16777216 → rest ≡ []) (Some written ≡ Some []) a.1.read in
    let alike : form_answer form a.0 ≡ form_answer form input =
    same form a.0 rest end (few_or_many (length a.0)) ∙ ap (λ (l : List ℕ). form_answer form l) (sym whole) in
    subst (λ (answer : Answer). IsReplied answer status written) alike (says (form_answer form a.0) status written sure a.1.told)
