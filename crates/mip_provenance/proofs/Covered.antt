-- Messages are the same for an authenticator where the parts that it covers are.
use Rattle.std.proofs.Common.{◌≡◌, ℕ, ◌-◌, List, [], ◌∷◌, ◌++◌, length, take, drop, refl, ap, arith, length-append, length-take, length-drop}
use Rattle.std.specs.Prelude.{◌&&◌, slice_range}
use Rattle.std.specs.Str.{bytes_eq}
use Rattle.std.proofs.lemmas.Slice.Eq.{bytes_eq-Decides}
use Rattle.std.proofs.lemmas.Bool.Decides.{same_from_decides, Decides-and, Decides-like}
use Rattle.mip_tokens.specs.Token.{authenticated}

-- lists with the checksum between their parts
cut_same : (x y r s : List ℕ) → x ++ (0 ∷ 0 ∷ r) ≡ y ++ (0 ∷ 0 ∷ s) → length x ≡ length y → (x ≡ y) × (r ≡ s)
cut_same [] [] r s e long = (refl, cc)
cut_same [] (y ∷ ys) r s e long = absurd (omega (arith, long))
cut_same (x ∷ xs) [] r s e long = absurd (omega (arith, long))
cut_same (x ∷ xs) (y ∷ ys) r s e long =
    let tails : xs ++ (0 ∷ 0 ∷ r) ≡ ys ++ (0 ∷ 0 ∷ s) = cc in
    let heads : x ≡ y = cc in
    let more = cut_same xs ys r s tails (omega (arith, long)) in
    (cons x y xs ys heads more.0, more.1)
  where
    cons : (x y : ℕ) (xs ys : List ℕ) → x ≡ y → xs ≡ ys → x ∷ xs ≡ y ∷ ys
    cons x y xs ys e f = cc

fronts_long : (a b : List ℕ) → take 4 a ++ (0 ∷ 0 ∷ slice_range a 6 (length a - 12)) ≡ take 4 b ++ (0 ∷ 0 ∷ slice_range b 6 (length b - 12)) → length (take 4 a) ≡ length (take 4 b)
fronts_long a b e =
    omega (
      arith,
      ap length e,
      length-append (take 4 a) (0 ∷ 0 ∷ slice_range a 6 (length a - 12)),
      length-append (take 4 b) (0 ∷ 0 ∷ slice_range b 6 (length b - 12)),
      length-take 4 a,
      length-take 4 b,
      length-take (length a - 12 - 6) (drop 6 a),
      length-take (length b - 12 - 6) (drop 6 b),
      length-drop 6 a,
      length-drop 6 b,
    )

pub covered_same : (a b : List ℕ) → (bytes_eq (take 4 a) (take 4 b) && bytes_eq (slice_range a 6 (length a - 12)) (slice_range b 6 (length b - 12))) ≡ bytes_eq (authenticated a) (authenticated b)
unfolding authenticated
covered_same a b =
    same_from_decides _ _
    (Decides-like _
    (λ parts. joined (take 4 a) (take 4 b) (slice_range a 6 (length a - 12)) (slice_range b 6 (length b - 12)) parts.0 parts.1)
    (λ whole. cut_same (take 4 a) (take 4 b) (slice_range a 6 (length a - 12)) (slice_range b 6 (length b - 12)) whole (fronts_long a b whole))
    (Decides-and _ _ (bytes_eq-Decides (take 4 a) (take 4 b)) (bytes_eq-Decides (slice_range a 6 (length a - 12)) (slice_range b 6 (length b - 12)))))
    (bytes_eq-Decides (authenticated a) (authenticated b))
  where
    joined : (x y r s : List ℕ) → x ≡ y → r ≡ s → x ++ (0 ∷ 0 ∷ r) ≡ y ++ (0 ∷ 0 ∷ s)
    joined x y r s e f = cc
