-- What the grammar asks of a configuration.
use Rattle.std.specs.Prelude.{◌≡◌, ℕ, ◌≤◌, ◌^◌, List, [], ◌∷◌, ◌++◌, length, Bool, true, false, not, ◌&&◌, nat_le, nat_lt, Option, Some, None}
use Rattle.std.specs.List.{list_all, list_any}
use Rattle.mip_words.specs.Addresses.{is_routable}
use Rattle.mip_words.specs.declared.address.Address.{Address}
use Rattle.mip_frames.specs.declared.route.Route.{Route}
use Rattle.mip_schedule.specs.EventTimes.{is_reserved}
use Rattle.mip_config.specs.Configs.{Content}
use Rattle.mip_config.specs.Drafts.{is_anycast, is_same}
use Rattle.mip_config.specs.Facts.{address_of}
use Rattle.mip_config.specs.declared.payload.Payload.{Payload}
use Rattle.mip_config.specs.declared.role.Role.{Role}
use Rattle.mip_config.specs.declared.role.Role.TheVariants.{Agent, Correspondent, Mobile}

abbrev pub is_within : ℕ → ℕ → ℕ → Bool
is_within low high n = nat_le low n && nat_le n high

abbrev pub are_bytes : List ℕ → Bool
are_bytes bytes = list_all (λ b. nat_lt b 256) bytes

-- a port of this host
abbrev pub is_port : ℕ → Bool
is_port n = is_within 1 65535 n

abbrev pub is_fallback : Option ℕ → Bool
is_fallback None = true
is_fallback (Some port) = is_port port

abbrev pub is_route : Route → Bool
is_route r = nat_lt r.prefix.0 (2 ^ 64) && is_port r.port

-- an address of 128 bits that may stand in a routing header
abbrev pub is_address : Address → Bool
is_address a = nat_lt a.0 (2 ^ 128) && is_routable a.0

abbrev pub is_some_address : Option Address → Bool
is_some_address None = true
is_some_address (Some a) = is_address a

-- its numbers are those of a line of a role
abbrev pub is_role : Role → Bool
is_role (Agent address preference life room) = is_address address && (is_within 0 65535 preference && (is_within 0 65535 life && is_within 1 64 room))
is_role (Correspondent address room) = is_address address && is_within 1 64 room
is_role (Mobile address agent) = is_address address && is_some_address agent

abbrev pub is_payload : Payload → Bool
is_payload p = is_within 1 1000000 p.turn && (is_address p.to && (is_within 0 255 p.proto && (not (is_reserved p.proto) && (nat_le (length p.payload) 512 && are_bytes p.payload))))

-- an agent sends no payloads, and another node serves no homes
abbrev pub IsApart : Role → List Address → List Payload → Type 0
IsApart (Agent address preference life room) homes payloads = payloads ≡ []
IsApart (Correspondent address room) homes payloads = homes ≡ []
IsApart (Mobile address agent) homes payloads = homes ≡ []

-- each home is none of those before it
abbrev pub IsEachNew : List Address → Type 0
IsEachNew homes = (before : List Address) (home : Address) (after : List Address) → homes ≡ before ++ home ∷ after → list_any (is_same home) before ≡ false

pub record InGrammar (c : Content) : Type 0 where
  pub seed : are_bytes c.seed ≡ true
  pub seed_size : length c.seed ≡ 32
  pub node : is_within 0 31 c.node.0 ≡ true
  pub port : is_port c.port ≡ true
  pub routes : list_all is_route c.routes ≡ true
  pub few_routes : length c.routes ≤ 64
  pub fallback : is_fallback c.fallback ≡ true
  pub role : is_role c.role ≡ true
  pub own : is_anycast (address_of c.role) ≡ false
  pub homes : list_all is_address c.serves ≡ true
  pub few_homes : length c.serves ≤ 8
  pub new_homes : IsEachNew c.serves
  pub payloads : list_all is_payload c.payloads ≡ true
  pub few_payloads : length c.payloads ≤ 1000
  pub apart : IsApart c.role c.serves c.payloads
