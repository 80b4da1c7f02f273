-- When keys of the indexes are the same.
use Rattle.std.proofs.Common.{◌≡◌, ℕ, List, length, Bool, refl, sym, ap, ◌∙◌, arith}
use Rattle.std.proofs.lemmas.List.{take_all}
use Rattle.std.specs.Prelude.{◌&&◌, ◌||◌, ◌==◌, true, false, if◌then◌else◌, Option, Some, None}
use Rattle.std.proofs.lemmas.Bool.{and_parts, eqb-true}
use Rattle.std.proofs.lemmas.Slice.Eq.{bytes_eq-Decides}
use Rattle.std.specs.Ordering.{nat_cmp, ordering_then, is_eq}
use Rattle.std.specs.Cmp.Lexicographic.{slice_cmp}
use Rattle.std.specs.Str.{bytes_eq}
use Rattle.std.specs.declared.cmp.Ordering.{Ordering}
use Rattle.std.specs.declared.cmp.Ordering.TheVariants.{Less, Equal, Greater}
use Rattle.std.proofs.lemmas.Map.Text.{is_eq-slice_cmp}
use Rattle.std.proofs.lemmas.Bool.Decides.{nat_tests, same_from_decides, Decides-like, Decides-eqb}
use Rattle.mip_provenance.specs.Firsts.{same_key}
use Rattle.mip_provenance_index.specs.Firsts.{UpdateKey, key_named, key_cmp}
use Rattle.mip_words.specs.Numbers.{IsBytes, number_at, number_bytes}
use Rattle.mip_words.proofs.Fields.{number_bytes-number_at}
use Rattle.mip_provenance_index.specs.Tokens.{token_number, is_spelled}
use Rattle.mip_provenance_index.specs.Heard.{Coming, coming_cmp, coming_of}
use Rattle.mip_provenance_index.specs.declared.named.Named.{Named}
use Rattle.mip_provenance_index.specs.Made.{Making, making_cmp}

pub is_eq_bytes : (a b : List ℕ) → is_eq (slice_cmp nat_cmp a b) ≡ bytes_eq a b
is_eq_bytes a b = is_eq-slice_cmp a b

is_eq_nat : (a b : ℕ) → is_eq (nat_cmp a b) ≡ (a == b)
is_eq_nat a b = grind (arith, nat_tests)

is_eq_then : (o p : Ordering) → is_eq (ordering_then o p) ≡ (is_eq o && is_eq p)
is_eq_then Less p = refl
is_eq_then Equal p = refl
is_eq_then Greater p = refl

pub is_eq_keys : (a b : UpdateKey) → is_eq (key_cmp a b) ≡ same_key (key_named a) (key_named b)
is_eq_keys a b =
    joined (ordering_then (ordering_then (nat_cmp a.0 b.0) (nat_cmp a.1 b.1)) (slice_cmp nat_cmp a.2 b.2)) (slice_cmp nat_cmp a.3.items b.3.items)
    (joined (ordering_then (nat_cmp a.0 b.0) (nat_cmp a.1 b.1)) (slice_cmp nat_cmp a.2 b.2)
    (joined (nat_cmp a.0 b.0) (nat_cmp a.1 b.1) (is_eq_nat a.0 b.0) (is_eq_nat a.1 b.1))
    (is_eq_bytes a.2 b.2))
    (is_eq_bytes a.3.items b.3.items)
  where
    joined : (o p : Ordering) {x y : Bool} → is_eq o ≡ x → is_eq p ≡ y → is_eq (ordering_then o p) ≡ (x && y)
    joined o p {x} {y} e f = is_eq_then o p ∙ both e f
      where
        both : {u v w z : Bool} → u ≡ v → w ≡ z → (u && w) ≡ (v && z)
        both {u} {v} {w} {z} e f = cc

-- eight bytes are those of their number
pub spelled_bytes : (t : List ℕ) → length t ≡ 8 → IsBytes t → is_spelled t ≡ true
spelled_bytes t e are =
    (bytes_eq-Decides (number_bytes 8 (number_at 8 0 t)) t).1 (number_bytes-number_at 8 0 t are (omega (arith, e)) ∙ take_all 8 t (omega (arith, e)))

-- so the bytes of two that have one number are the same
spelled_same : (u t : List ℕ) → is_spelled u ≡ true → is_spelled t ≡ true → number_at 8 0 u ≡ number_at 8 0 t → u ≡ t
spelled_same u t is too same =
    sym ((bytes_eq-Decides (number_bytes 8 (number_at 8 0 u)) u).0 is) ∙ ap (number_bytes 8) same ∙ (bytes_eq-Decides (number_bytes 8 (number_at 8 0 t)) t).0 too

pub is_eq_coming : (x : ℕ) (u : List ℕ) (o : ℕ) (t : List ℕ) → is_spelled u ≡ true → is_spelled t ≡ true → is_eq (coming_cmp (coming_of x u) (coming_of o t)) ≡ (x == o && bytes_eq u t)
is_eq_coming x u o t is too =
    is_eq_then (nat_cmp (token_number u) (token_number t)) (nat_cmp x o)
    ∙ both (is_eq_nat (token_number u) (token_number t) ∙ numbers) (is_eq_nat x o)
    ∙ other_way (bytes_eq u t) (x == o)
  where
    numbers : (token_number u == token_number t) ≡ bytes_eq u t
    numbers =
        same_from_decides (token_number u == token_number t) (bytes_eq u t)
        (Decides-like (token_number u == token_number t) (spelled_same u t is too) (ap token_number) (Decides-eqb (token_number u) (token_number t)))
        (bytes_eq-Decides u t)

    both : {v w y z : Bool} → v ≡ w → y ≡ z → (v && y) ≡ (w && z)
    both {v} {w} {y} {z} e f = cc

    other_way : (v w : Bool) → (v && w) ≡ (w && v)
    other_way true true = refl
    other_way true false = refl
    other_way false true = refl
    other_way false false = refl

pub come_more : (b c : Bool) → (if c then true else b) ≡ (b || c)
come_more true true = refl
come_more true false = refl
come_more false true = refl
come_more false false = refl

-- what has come, after one more has come
pub come_step : (x : ℕ) (u : List ℕ) (key : Coming) → key ≡ coming_of x u → is_spelled u ≡ true → (now before : Coming → Bool) → ((k : Coming) → now k ≡ (if is_eq (coming_cmp key k) then true else before k))
    → (o : ℕ) (t : List ℕ) → (is_spelled t && now (coming_of o t)) ≡ ((is_spelled t && before (coming_of o t)) || (x == o && bytes_eq u t))
come_step x u key k is now before steps o t = by (is_spelled t) refl
  where
    never : (p q : Bool) → q ≡ false → false ≡ (p && q)
    never true q e = sym e
    never false q e = refl

    other : (q : Bool) → bytes_eq u t ≡ q → is_spelled t ≡ false → q ≡ false
    other true e f = let same : is_spelled u ≡ is_spelled t = ap is_spelled ((bytes_eq-Decides u t).0 e) in absurd cc
    other false e f = refl

    by : (b : Bool) → is_spelled t ≡ b → (b && now (coming_of o t)) ≡ ((b && before (coming_of o t)) || (x == o && bytes_eq u t))
    by true e =
        steps (coming_of o t)
        ∙ ap (λ (b : Bool). if b then true else before (coming_of o t)) (ap (λ (y : Coming). is_eq (coming_cmp y (coming_of o t))) k ∙ is_eq_coming x u o t is e)
        ∙ come_more (before (coming_of o t)) (x == o && bytes_eq u t)
    by false e = never (x == o) (bytes_eq u t) (other (bytes_eq u t) refl e)

pub is_eq_making : (a b : Making) → is_eq (making_cmp a b) ≡ (a.0 == b.0 && a.1 == b.1)
is_eq_making a b = is_eq_then (nat_cmp a.0 b.0) (nat_cmp a.1 b.1) ∙ both (is_eq_nat a.0 b.0) (is_eq_nat a.1 b.1)
  where
    both : {u v w z : Bool} → u ≡ v → w ≡ z → (u && w) ≡ (v && z)
    both {u} {v} {w} {z} e f = cc

-- what has come comes again
pub come_again : (come : ℕ → List ℕ → Bool) (x : ℕ) (u : List ℕ) → come x u ≡ true → (o : ℕ) (t : List ℕ) → come o t ≡ (come o t || (x == o && bytes_eq u t))
come_again come x u has o t = by (x == o && bytes_eq u t) refl
  where
    by : (b : Bool) → (x == o && bytes_eq u t) ≡ b → come o t ≡ (come o t || b)
    by true e =
        let parts = and_parts (x == o) (bytes_eq u t) e in
        let there : come o t ≡ true = two (eqb-true x o parts.0) ((bytes_eq-Decides u t).0 parts.1) in
        there ∙ sym (ap (λ (c : Bool). c || true) there)
      where
        two : x ≡ o → u ≡ t → come o t ≡ true
        two same same' = sym (ap (λ (y : ℕ). come y t) same) ∙ sym (ap (λ (v : List ℕ). come x v) same') ∙ has
    by false e = none (come o t)
      where
        none : (c : Bool) → c ≡ (c || false)
        none true = refl
        none false = refl

is_eq_numbers : (u t : List ℕ) → is_spelled u ≡ true → is_spelled t ≡ true → is_eq (nat_cmp (token_number u) (token_number t)) ≡ bytes_eq u t
is_eq_numbers u t is too =
    is_eq_nat (token_number u) (token_number t)
    ∙ same_from_decides (token_number u == token_number t) (bytes_eq u t)
    (Decides-like (token_number u == token_number t) (spelled_same u t is too) (ap token_number) (Decides-eqb (token_number u) (token_number t)))
    (bytes_eq-Decides u t)

-- what is spelled is not the same as what is not
other_spelled : (u t : List ℕ) → is_spelled u ≡ true → is_spelled t ≡ false → (q : Bool) → bytes_eq u t ≡ q → q ≡ false
other_spelled u t is unlike true e = let same : is_spelled u ≡ is_spelled t = ap is_spelled ((bytes_eq-Decides u t).0 e) in absurd cc
other_spelled u t is unlike false e = refl

-- a set of tokens, after one more
pub token_step : (u : List ℕ) (key : ℕ) → key ≡ token_number u → is_spelled u ≡ true → (now before : ℕ → Bool) → ((k : ℕ) → now k ≡ (if is_eq (nat_cmp key k) then true else before k))
    → (t : List ℕ) → (is_spelled t && now (token_number t)) ≡ ((is_spelled t && before (token_number t)) || bytes_eq u t)
token_step u key k is now before steps t = by (is_spelled t) refl
  where
    by : (b : Bool) → is_spelled t ≡ b → (b && now (token_number t)) ≡ ((b && before (token_number t)) || bytes_eq u t)
    by true e =
        steps (token_number t)
        ∙ ap (λ (b : Bool). if b then true else before (token_number t)) (ap (λ (y : ℕ). is_eq (nat_cmp y (token_number t))) k ∙ is_eq_numbers u t is e)
        ∙ come_more (before (token_number t)) (bytes_eq u t)
    by false e = sym (other_spelled u t is e (bytes_eq u t) refl)

-- a map of tokens, after one more
pub named_step : (u : List ℕ) (key : ℕ) → key ≡ token_number u → is_spelled u ≡ true → (named : Named) (now before : ℕ → Option Named)
    → ((k : ℕ) → now k ≡ (if is_eq (nat_cmp key k) then Some named else before k))
    → (t : List ℕ) → (if is_spelled t then now (token_number t) else None) ≡ (if bytes_eq u t then Some named else (if is_spelled t then before (token_number t) else None))
named_step u key k is named now before steps t = by (is_spelled t) refl
  where
    by : (b : Bool) → is_spelled t ≡ b → (if b then now (token_number t) else None) ≡ (if bytes_eq u t then Some named else (if b then before (token_number t) else None))
    by true e =
        steps (token_number t)
        ∙ ap (λ (b : Bool). if b then Some named else before (token_number t)) (ap (λ (y : ℕ). is_eq (nat_cmp y (token_number t))) k ∙ is_eq_numbers u t is e)
    by false e = sym (ap (λ (b : Bool). if b then Some named else None) (other_spelled u t is e (bytes_eq u t) refl))

pub bytes_eq_back : (a b : List ℕ) → bytes_eq a b ≡ bytes_eq b a
bytes_eq_back a b = same_from_decides (bytes_eq a b) (bytes_eq b a) (bytes_eq-Decides a b) (Decides-like (bytes_eq b a) sym sym (bytes_eq-Decides b a))
