-- A place that has room for each address has room for each home.
use Rattle.std.proofs.Common.{◌≡◌, List, [], ◌∷◌, true, refl}
use Rattle.std.specs.List.{AllByRecursion}
use Rattle.mip_rules_agent.specs.declared.served.Served.{Served}

pub room_everywhere : (homes : List Served) → AllByRecursion (λ s. true ≡ true) homes
room_everywhere [] = tt
room_everywhere (s ∷ homes) = (refl, room_everywhere homes)
