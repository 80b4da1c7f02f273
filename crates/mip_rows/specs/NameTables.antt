-- Names by number, in lists.
use Rattle.std.specs.Prelude.{◌≡◌, ℕ, ◌+◌, List, [], ◌∷◌}
use Rattle.std.specs.Borrow.{Bor}
use Rattle.mip_rows.specs.Names.{Names, node_name, link_name, outsider_name}

-- these are the names that are given from a number on
abbrev pub AreNamesFrom : (ℕ → List ℕ) → ℕ → List (Bor (List ℕ)) → Type 0
AreNamesFrom name n [] = Unit {0}
AreNamesFrom name n (b ∷ bs) = (b.now ≡ name n) × AreNamesFrom name (n + 1) bs

abbrev pub link_numbered : Names → ℕ → List ℕ
link_numbered names n = link_name names (record { 0 = n })

abbrev pub node_numbered : Names → ℕ → List ℕ
node_numbered names n = node_name names (record { 0 = n })

-- each list has the names of the numbers from 0 on
pub record IsTable (names : Names) (links nodes outsiders : List (Bor (List ℕ))) : Type 0 where
  pub links_are : AreNamesFrom (link_numbered names) 0 links
  pub nodes_are : AreNamesFrom (node_numbered names) 0 nodes
  pub outsiders_are : AreNamesFrom (outsider_name names) 0 outsiders
