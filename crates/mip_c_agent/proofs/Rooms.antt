-- There is room for each home, so that an agent of C is ready at each moment that is not late; and homes that pass the test are
-- routable.
use Rattle.std.specs.Prelude.{◌≡◌, ℕ, ◌<◌, ◌≤◌, ◌^◌, List, [], ◌∷◌, Bool, true, false, ◌&&◌, refl}
use Rattle.std.specs.List.{AllByRecursion}
use Rattle.mip_words.specs.Addresses.{is_routable}
use Rattle.mip_words.specs.declared.address.Address.{Address}
use Rattle.mip_rules_agent.specs.declared.served.Served.{Served}
use Rattle.mip_rules_agent.specs.Known.{Known}
use Rattle.mip_homeagent.specs.Soundness.{HasRoom, IsReady}
use Rattle.mip_c_agent.specs.Neighbourhoods.{around_of}
use Rattle.mip_c_agent.specs.Sixteens.{are_served}

pub has_room : (others : List ℕ) (k : Known) → HasRoom (around_of others) k
has_room others k = by k.homes
  where
    by : (homes : List Served) → AllByRecursion (λ s. (around_of others).room s.home.0 ≡ true) homes
    by [] = tt
    by (s ∷ homes) = (refl, by homes)

pub is_ready : (others : List ℕ) (now : ℕ) (k : Known) → now < 2 ^ 62 → k.last ≤ now → IsReady (around_of others) now k
is_ready others now k early later = record { early = early; later = later; room = has_room others k }

pub each_routable : (serves : List Address) → are_served serves ≡ true → AllByRecursion (λ a. is_routable a.0 ≡ true) serves
each_routable [] all = tt
each_routable (a ∷ serves) all = let p = both (is_routable a.0) (are_served serves) all in (p.0, each_routable serves p.1)
  where
    both : (x y : Bool) → (x && y) ≡ true → (x ≡ true) × (y ≡ true)
    both true y e = (refl, e)
    both false y e = absurd cc
