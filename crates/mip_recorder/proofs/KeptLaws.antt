-- The tokens that are kept, with one more packet, and the search among them.
use Rattle.std.proofs.Common.{◌≡◌, ◌≢◌, ℕ, ◌+◌, ◌<◌, ◌≤◌, ◌⊎◌, Bool, true, false, get_or, List, [], ◌∷◌, ◌++◌, length, inl, inr, refl, sym, ap, ◌∙◌, subst, arith, length-append}
use Rattle.std.specs.Prelude.{Option, Some, None, option_map, slice_get, nat_lt, if◌then◌else◌}
use Rattle.std.specs.Option.{option_and_then}
use Rattle.std.specs.List.Sorted.{IsPartitionedBy, IsPartitionPoint}
use Rattle.std.proofs.lemmas.Bool.{cases_order, cases_eq, eq-eqb, ne_eqb, ltb-true, ltb-false, lt-ltb}
use Rattle.std.proofs.lemmas.Option.{slice_get_past, slice_get_within, slice_get-get_or, get_or_from_slice_get}
use Rattle.mip_words.specs.declared.token.Token.{Token}
use Rattle.mip_recorder.specs.declared.kept_token.KeptToken.{KeptToken}
use Rattle.mip_recorder.specs.Packets.{token_at}
use Rattle.mip_recorder.specs.Kept.{AreKept, token_if}
use Rattle.mip_recorder.proofs.Items.{get_front, get_seam, get_more}

-- no packet was posted
pub none_kept : AreKept 0 [] []
none_kept = record {
  count = refl;
  rises = λ i j a b got. absurd cc;
  below = λ i a got. absurd cc;
  kept = λ i a got. absurd cc;
  bare = λ k no. refl;
}

of_item : Option (Option Token) → Option (List ℕ)
of_item o = option_and_then (option_map (λ (t : Token). t.0)) o

module _ (tokens : List (Option Token)) (t : Option Token) where
  token_front : (k : ℕ) → k < length tokens → token_at (tokens ++ t ∷ []) k ≡ token_at tokens k
  unfolding of_item
  token_front k inside = ap of_item (get_front tokens t k inside)

  token_seam : (k : ℕ) → k ≡ length tokens → token_at (tokens ++ t ∷ []) k ≡ option_map (λ (x : Token). x.0) t
  unfolding of_item
  token_seam k at = ap of_item (get_seam tokens t k at)

  token_past : (k : ℕ) → length tokens < k → token_at (tokens ++ t ∷ []) k ≡ None
  unfolding of_item
  token_past k beyond = ap of_item (slice_get_past (tokens ++ t ∷ []) k (omega (arith, length-append tokens (t ∷ []), beyond)))

  longer : (posted : ℕ) → length tokens ≡ posted → length (tokens ++ t ∷ []) ≡ posted + 1
  longer posted is = omega (arith, length-append tokens (t ∷ []), is)

module _ (posted : ℕ) (rows : List KeptToken) (tokens : List (Option Token)) (is : AreKept posted rows tokens) where
  -- a packet that is no test
  pub bare_more : AreKept (posted + 1) rows (tokens ++ None ∷ [])
  bare_more = record {
    count = longer tokens None posted is.count;
    rises = is.rises;
    below = λ i a got. omega (arith, is.below i a got);
    kept = λ i a got. token_front tokens None a.number (omega (arith, is.count, is.below i a got)) ∙ is.kept i a got;
    bare = λ k no. elim (cases_order k (length tokens)) as (λ _. token_at (tokens ++ None ∷ []) k ≡ None) [
      | inl at ↦ token_seam tokens None k at
      | inr (inl below) ↦ token_front tokens None k below ∙ is.bare k no
      | inr (inr above) ↦ token_past tokens None k above
    ];
  }

  -- a test
  module _ (token : Token) where
    abbrev row : KeptToken
    row = record { number = posted; token = token }

    pub test_more : AreKept (posted + 1) (rows ++ record { number = posted; token = token } ∷ []) (tokens ++ Some token ∷ [])
    test_more = record {
      count = longer tokens (Some token) posted is.count;
      rises = λ i j a b x y lt. rises_on i j a b lt (get_more rows row i a x) (get_more rows row j b y);
      below = λ i a x. below_on i a (get_more rows row i a x);
      kept = λ i a x. kept_on i a (get_more rows row i a x);
      bare = λ k no. elim (cases_order k (length tokens)) as (λ _. token_at (tokens ++ Some token ∷ []) k ≡ None) [
        | inl at ↦ absurd (no (length rows) row (get_seam rows row (length rows) refl) (omega (arith, is.count, at)))
        | inr (inl below) ↦ token_front tokens (Some token) k below ∙ is.bare k (λ i a x. no i a (get_front rows row i (slice_get_within rows i a x) ∙ x))
        | inr (inr above) ↦ token_past tokens (Some token) k above
      ];
    }
      where
        Comes : ℕ → KeptToken → Type 0
        Comes i a = (slice_get rows i ≡ Some a) ⊎ ((i ≡ length rows) × (row ≡ a))

        numbered : (a : KeptToken) → row ≡ a → a.number ≡ posted
        numbered a same = sym (ap (λ (r : KeptToken). r.number) same)

        rises_on : (i j : ℕ) (a b : KeptToken) → i < j → Comes i a → Comes j b → a.number < b.number
        rises_on i j a b lt (inl x) (inl y) = is.rises i j a b x y lt
        rises_on i j a b lt (inl x) (inr y) = omega (arith, is.below i a x, numbered b y.1)
        rises_on i j a b lt (inr x) (inl y) = absurd (omega (arith, x.0, slice_get_within rows j b y, lt))
        rises_on i j a b lt (inr x) (inr y) = absurd (omega (arith, x.0, y.0, lt))

        below_on : (i : ℕ) (a : KeptToken) → Comes i a → a.number < posted + 1
        below_on i a (inl x) = omega (arith, is.below i a x)
        below_on i a (inr x) = omega (arith, numbered a x.1)

        kept_on : (i : ℕ) (a : KeptToken) → Comes i a → token_at (tokens ++ Some token ∷ []) a.number ≡ Some a.token.0
        kept_on i a (inl x) = token_front tokens (Some token) a.number (omega (arith, is.count, is.below i a x)) ∙ is.kept i a x
        kept_on i a (inr x) =
            token_seam tokens (Some token) a.number (omega (arith, is.count, numbered a x.1))
            ∙ ap (λ (r : KeptToken). Some r.token.0) x.1

  same_item : (i j : ℕ) (a b : KeptToken) → slice_get rows i ≡ Some a → slice_get rows j ≡ Some b → j ≡ i → a ≡ b
  same_item i j a b x y same = sym (get_or_from_slice_get rows i a a x) ∙ ap (λ (k : ℕ). get_or rows k a) (sym same) ∙ get_or_from_slice_get rows j b a y

  -- a row that may have the packet's number, where no other may
  asked : (i : ℕ) (a : KeptToken) (number : ℕ) → slice_get rows i ≡ Some a
      → ((j : ℕ) (b : KeptToken) → slice_get rows j ≡ Some b → j ≢ i → b.number ≢ number) → token_if a number ≡ token_at tokens number
  asked i a number got others = elim (cases_eq a.number number) as (λ _. token_if a number ≡ token_at tokens number) [
    | inl same ↦
        ap (λ (b : Bool). if b then Some a.token.0 else None) (eq-eqb a.number number same)
        ∙ sym (is.kept i a got)
        ∙ ap (token_at tokens) same
    | inr other ↦
        ap (λ (b : Bool). if b then Some a.token.0 else None) (ne_eqb a.number number other)
        ∙ sym (is.bare number (λ j b x. by other j b x (cases_eq j i)))
  ]
    where
      by : a.number ≢ number → (j : ℕ) (b : KeptToken) → slice_get rows j ≡ Some b → (j ≡ i) ⊎ (j ≢ i) → b.number ≢ number
      by other j b x (inr apart) = others j b x apart
      by other j b x (inl at) = λ same. other (ap (λ (r : KeptToken). r.number) (same_item i j a b got x at) ∙ same)

  -- the newest row, where the packet is not older
  pub newest_asked : (i : ℕ) (a : KeptToken) (number : ℕ) → slice_get rows i ≡ Some a → length rows ≤ i + 1 → a.number ≤ number
      → token_if a number ≡ token_at tokens number
  newest_asked i a number got end le =
      asked i a number got (λ j b x apart same. absurd (omega (arith, same, le, is.rises j i b a x got (omega (arith, apart, end, slice_get_within rows j b x)))))

  -- older rows stand before the others
  pub is_split : (number : ℕ) → IsPartitionedBy (λ (row : KeptToken). nat_lt row.number number) rows
  is_split number = λ i j d le inside test.
      let x = slice_get-get_or rows i d (omega (arith, le, inside)) in
      let y = slice_get-get_or rows j d inside in
      elim (cases_eq i j) as (λ _. nat_lt (get_or rows i d).number number ≡ true) [
        | inl same ↦ subst (λ (k : ℕ). nat_lt (get_or rows k d).number number ≡ true) (sym same) test
        | inr apart ↦ lt-ltb _ _ (omega (arith, is.rises i j (get_or rows i d) (get_or rows j d) x y (omega (arith, le, apart)), ltb-true _ _ test))
      ]

  -- the first row that is not older
  module _ (number at : ℕ) (split : IsPartitionPoint (λ (row : KeptToken). nat_lt row.number number ≡ true) (λ (row : KeptToken). nat_lt row.number number ≡ false) rows at) where
    older : (j : ℕ) (b : KeptToken) → slice_get rows j ≡ Some b → j < at → b.number < number
    older j b x lt = ltb-true _ _ (subst (λ (r : KeptToken). nat_lt r.number number ≡ true) (get_or_from_slice_get rows j b b x) (split.0 j b (omega arith) lt))

    pub first_asked : (a : KeptToken) → slice_get rows at ≡ Some a → token_if a number ≡ token_at tokens number
    first_asked a got = asked at a number got (λ j b x apart same. by j b x apart same (cases_order j at))
      where
        not_older : number ≤ a.number
        not_older = ltb-false _ _ (subst (λ (r : KeptToken). nat_lt r.number number ≡ false) (get_or_from_slice_get rows at a a got) (split.1 at a (omega arith) (slice_get_within rows at a got)))

        by : (j : ℕ) (b : KeptToken) → slice_get rows j ≡ Some b → j ≢ at → b.number ≡ number → (j ≡ at) ⊎ ((j < at) ⊎ (at < j)) → ⊥
        by j b x apart same (inl here) = apart here
        by j b x apart same (inr (inl before)) = omega (arith, same, older j b x before)
        by j b x apart same (inr (inr behind)) = omega (arith, same, not_older, is.rises at j a b got x behind)

    pub none_asked : length rows ≤ at → token_at tokens number ≡ None
    none_asked end = is.bare number (λ j b x same. absurd (omega (arith, same, older j b x (omega (arith, slice_get_within rows j b x, end)))))
