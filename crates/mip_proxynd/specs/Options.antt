-- The options of a neighbour message, and what they say.
--
--    0                   1                   2                   3
--    0 1 2 3 4 5 6 7 8 9 0 1 2 3 4 5 6 7 8 9 0 1 2 3 4 5 6 7 8 9 0 1
--   |     Type      |    Length     |    Link-Layer Address ...
--
-- Length counts units of 8 bytes, the first two bytes among them. RFC 4861 section 4.6
use Rattle.std.specs.Prelude.{◌≡◌, ℕ, List, take, drop, map, Bool, not, ◌||◌, ◌==◌, if◌then◌else◌}
use Rattle.std.specs.List.{flat_map, AllByRecursion}
use Rattle.mip_icmp.specs.Walk.{IsOptionOf}
pub use Rattle.mip_icmp.specs.Options.{of_type, first_of}
use Rattle.mip_proxynd.specs.declared.layers.Layers.{Layers}

-- Source and Target Link-Layer Address, options 1 and 2, of a link whose addresses have six bytes. RFC 4861 section 4.6.1
abbrev pub layer_at : List ℕ → List ℕ
layer_at option = take 6 (drop 2 option)

-- an option of this type may have this length
abbrev pub has_units : ℕ → ℕ → Bool
has_units type units =
    if type == 1 || type == 2 then units == 1
    else not (units == 0)

-- these bytes are one option
abbrev pub IsOption : List ℕ → Type 0
IsOption option = IsOptionOf has_units option

-- what a list of options says: of each type the first counts
abbrev pub layers_from : List (List ℕ) → Layers
layers_from options = record {
  source = first_of (map layer_at (of_type 1 options));
  target = first_of (map layer_at (of_type 2 options));
}

-- these bytes are options, one after another, and say this
abbrev pub IsArea : Layers → List ℕ → Type 0
IsArea layers area = (options : List (List ℕ)) × AllByRecursion IsOption options × (area ≡ flat_map (λ option. option) options) × (layers_from options ≡ layers)
