-- The options of an ICMPv6 message, and what they say.
--
--    0                   1                   2                   3
--    0 1 2 3 4 5 6 7 8 9 0 1 2 3 4 5 6 7 8 9 0 1 2 3 4 5 6 7 8 9 0 1
--   |     Type      |    Length     |              ...              |
--
-- Length counts units of 8 bytes, the first two bytes among them. RFC 4861 section 4.6
use Rattle.std.specs.Prelude.{◌≡◌, ℕ, List, [], ◌∷◌, filter, map, find, Option, Some, None, Bool, not, ◌||◌, ◌==◌, slice_index, if◌then◌else◌}
use Rattle.std.specs.List.{flat_map, AllByRecursion}
use Rattle.std.specs.Option.{option_or}
use Rattle.mip_words.specs.Numbers.{number_at}
use Rattle.mip_words.specs.Addresses.{address_at}
use Rattle.mip_icmp.specs.Walk.{IsOptionOf}
use Rattle.mip_icmp.specs.declared.prefix_info.PrefixInfo.{PrefixInfo}
use Rattle.mip_icmp.specs.declared.agent_info.AgentInfo.{AgentInfo}
use Rattle.mip_icmp.specs.declared.options.IcmpOptions.{IcmpOptions}
use Rattle.mip_icmp.specs.declared.options.IcmpSet.{IcmpSet}

-- the options that were read, without where they lie in memory
abbrev pub set_of : IcmpOptions → IcmpSet
set_of o = record { prefix = o.prefix; interval = o.interval; agent = o.agent }

-- Prefix Information, option 3. RFC 4861 section 4.6.2, RFC 6275 section 7.2
--
--   | Type | Length | Prefix Length | L A R | Valid Lifetime | Preferred Lifetime | Reserved2 | Prefix |
--      1       1            1           1           4                  4               4         16
abbrev pub prefix_at : List ℕ → PrefixInfo
prefix_at option = record {
  length = slice_index option 2;
  flags = slice_index option 3;
  valid = number_at 4 4 option;
  preferred = number_at 4 8 option;
  address = address_at 16 option;
}

-- Advertisement Interval, option 7, in milliseconds. RFC 6275 section 7.3
--
--   | Type | Length | Reserved | Advertisement Interval |
--      1       1         2                4
abbrev pub interval_at : List ℕ → ℕ
interval_at option = number_at 4 4 option

-- Home Agent Information, option 8. RFC 6275 section 7.4
--
--   | Type | Length | Reserved | Home Agent Preference | Home Agent Lifetime |
--      1       1         2                2                      2
abbrev pub agent_at : List ℕ → AgentInfo
agent_at option = record { preference = number_at 2 4 option; life = number_at 2 6 option }

-- an option of this type may have this length
abbrev pub has_units : ℕ → ℕ → Bool
has_units type units =
    if type == 3 then units == 4
    else if type == 7 || type == 8 then units == 1
    else not (units == 0)

-- these bytes are one option
abbrev pub IsOption : List ℕ → Type 0
IsOption option = IsOptionOf has_units option

-- those of a type
abbrev pub of_type : ℕ → List (List ℕ) → List (List ℕ)
of_type type options = filter (λ option. slice_index option 0 == type) options

abbrev pub first_of : {A : Type 0} → List A → Option A
first_of [] = None
first_of (x ∷ xs) = Some x

-- the first whose prefix has 64 bits, or the first where none has
abbrev pub preferred_among : List PrefixInfo → Option PrefixInfo
preferred_among infos = option_or (find (λ info. info.length == 64) infos) (first_of infos)

-- what a list of options says
abbrev pub set_from : List (List ℕ) → IcmpSet
set_from options = record {
  prefix = preferred_among (map prefix_at (of_type 3 options));
  interval = first_of (map interval_at (of_type 7 options));
  agent = first_of (map agent_at (of_type 8 options));
}

-- these bytes are options, one after another, and say this
abbrev pub IsArea : IcmpSet → List ℕ → Type 0
IsArea set area = (options : List (List ℕ)) × AllByRecursion IsOption options × (area ≡ flat_map (λ option. option) options) × (set_from options ≡ set)
