-- Something that is so of one of the first so many numbers.
use Rattle.std.proofs.Common.{◌≡◌, ℕ, zero, suc, ◌+◌, ◌<◌, Bool, true, false, refl, sym, ap, ◌∙◌, arith, inl, inr}
use Rattle.std.specs.Prelude.{◌||◌}
use Rattle.std.proofs.lemmas.Bool.{cases_eq}
use Rattle.mip_history.specs.Settled.{any_below, any_node}

or_false : (a b : Bool) → a ≡ false → b ≡ false → (a || b) ≡ false
or_false true b one two = absurd cc
or_false false b one two = two

pub any_next : (is : ℕ → Bool) (n : ℕ) → any_below is n ≡ false → is n ≡ false → any_below is (n + 1) ≡ false
unfolding any_below
any_next is n none other = let next : n + 1 ≡ suc n = omega arith in ap (any_below is) next ∙ or_false (any_below is n) (is n) none other

or_true : (a b : Bool) → b ≡ true → (a || b) ≡ true
or_true true b there = refl
or_true false b there = there

or_first : (a b : Bool) → a ≡ true → (a || b) ≡ true
or_first true b there = refl
or_first false b there = absurd cc

-- one of which it is so
any_here : (is : ℕ → Bool) (n m : ℕ) → is n ≡ true → n < m → any_below is m ≡ true
unfolding any_below
any_here is n zero there less = absurd (let never : ⊥ = omega (arith, less) in never)
any_here is n (suc m) there less = elim (cases_eq n m) as (λ _. (any_below is m || is m) ≡ true) [
  | inl same ↦ or_true (any_below is m) (is m) (ap is (sym same) ∙ there)
  | inr other ↦ or_first (any_below is m) (is m) (any_here is n m there (omega (arith, less, other)))
]

pub node_here : (is : ℕ → Bool) (n : ℕ) → is n ≡ true → n < 256 → any_node is ≡ true
unfolding any_node
node_here is n there less = any_here is n 256 there less

pub node_nowhere : (is : ℕ → Bool) → any_below is 256 ≡ false → any_node is ≡ false
unfolding any_node
node_nowhere is none = none

pub none_below : (is : ℕ → Bool) → any_below is 0 ≡ false
unfolding any_below
none_below is = refl
