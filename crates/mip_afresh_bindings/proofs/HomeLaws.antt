-- The latest end of bindings, from the first on.
use Rattle.std.proofs.Common.{◌≡◌, ℕ, List, [], ◌∷◌, arith}
use Rattle.std.specs.Prelude.{max}
use Rattle.mip_binding.specs.Acceptance.{Binding}
use Rattle.mip_binding.specs.Homes.{latest}

pub latest_next : (late end : ℕ) (bs : List Binding) → latest (max late end) bs ≡ max end (latest late bs)
latest_next late end [] = omega arith
latest_next late end (b ∷ bs) = let e = latest_next late end bs in omega arith
