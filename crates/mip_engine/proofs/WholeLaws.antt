-- What a node gives out is whole.
use Rattle.std.proofs.Common.{◌≡◌, ℕ, zero, suc, List, [], ◌∷◌, subst}
use Rattle.std.specs.Prelude.{Some, slice_get}
use Rattle.std.specs.List.{AllByRecursion}
use Rattle.mip_entries.specs.declared.answer.Answer.{Answer}
use Rattle.mip_roles.specs.RolesLaws.{IsWhole}

-- each answer of a list of whole ones
pub whole_at : (answers : List Answer) (i : ℕ) (answer : Answer) → AllByRecursion IsWhole answers → slice_get answers i ≡ Some answer → IsWhole answer
whole_at [] i answer all there = absurd cc
whole_at (x ∷ xs) zero answer all there = let same : x ≡ answer = cc in subst (λ (a : Answer). IsWhole a) same all.0
whole_at (x ∷ xs) (suc i) answer all there = whole_at xs i answer all.1 there
