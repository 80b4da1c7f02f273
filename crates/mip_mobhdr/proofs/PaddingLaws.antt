-- The bytes of a gap.
use Rattle.std.proofs.Common.{◌≡◌, ℕ, zero, suc, ◌-◌, ◌≤◌, length, refl, ap, arith}
use Rattle.std.proofs.lemmas.List.{length-replicate}
use Rattle.std.specs.Prelude.{◌∷◌, replicate}
use Rattle.mip_mobhdr.specs.OptionWriting.{padding}

-- a gap of two bytes or more
pub padding_long : (n : ℕ) → 2 ≤ n → padding n ≡ 1 ∷ (n - 2) ∷ replicate (n - 2) 0
unfolding padding
padding_long zero long = absurd (omega arith)
padding_long (suc zero) long = absurd (omega arith)
padding_long (suc (suc k)) long =
    let e : suc (suc k) - 2 ≡ k = omega arith in
    rw e refl

pub length_padding : (n : ℕ) → length (padding n) ≡ n
unfolding padding
length_padding zero = refl
length_padding (suc zero) = refl
length_padding (suc (suc k)) = ap (λ (m : ℕ). suc (suc m)) (length-replicate k 0)
