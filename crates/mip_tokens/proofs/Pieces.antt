-- A text that is put together in place.
use Rattle.std.proofs.Common.{◌≡◌, ℕ, List, [], ◌∷◌, ◌++◌, length, drop, set, sym, ap, ◌∙◌, arith, append_assoc, length-append, replicate}
use Rattle.std.proofs.lemmas.List.{append-nil}
use lib.Seq.{take_at, drop_at, set_at}
use borrow.Rule.Slice.PartMut.{put_mid}

-- eight bytes behind sixteen, and a last one
pub put_together : (a b : List ℕ) (last : ℕ) → length a ≡ 16 → length b ≡ 8 → set (put_mid 16 8 (a ++ 0 ∷ 0 ∷ 0 ∷ 0 ∷ 0 ∷ 0 ∷ 0 ∷ 0 ∷ 0 ∷ []) b) 24 last ≡ a ++ (b ++ last ∷ [])
put_together a b last long short =
    ap (λ (l : List ℕ). set (l ++ (b ++ drop 8 (drop 16 (a ++ 0 ∷ 0 ∷ 0 ∷ 0 ∷ 0 ∷ 0 ∷ 0 ∷ 0 ∷ 0 ∷ [])))) 24 last) (take_at a (0 ∷ 0 ∷ 0 ∷ 0 ∷ 0 ∷ 0 ∷ 0 ∷ 0 ∷ 0 ∷ []) 16 long)
    ∙ ap (λ (l : List ℕ). set (a ++ (b ++ drop 8 l)) 24 last) (drop_at a (0 ∷ 0 ∷ 0 ∷ 0 ∷ 0 ∷ 0 ∷ 0 ∷ 0 ∷ 0 ∷ []) 16 long)
    ∙ ap (λ (l : List ℕ). set l 24 last) (sym (append_assoc a b (0 ∷ [])))
    ∙ set_at (a ++ b) 0 [] last 24 (length-append a b ∙ omega (arith, long, short))
    ∙ append_assoc a b (last ∷ [])

-- sixteen bytes behind sixteen
pub put_behind : (a b : List ℕ) → length a ≡ 16 → put_mid 16 16 (a ++ replicate 16 0) b ≡ a ++ b
put_behind a b long =
    ap (λ (l : List ℕ). l ++ (b ++ drop 16 (drop 16 (a ++ replicate 16 0)))) (take_at a (replicate 16 0) 16 long)
    ∙ ap (λ (l : List ℕ). a ++ (b ++ drop 16 l)) (drop_at a (replicate 16 0) 16 long)
    ∙ ap (λ (l : List ℕ). a ++ l) (append-nil b)
