-- Kinds of field: each reads a field, or refuses it for its own reason.
use Rattle.std.specs.Prelude.{ℕ, ◌^◌, ◌-◌, List, Bool, true, false, if◌then◌else◌, Option, Some, None, Result, Ok, Err, codes}
use Rattle.std.specs.Str.{bytes_eq}
use Rattle.mip_words.specs.Addresses.{is_routable}
use Rattle.mip_words.specs.Hex.{unhex_exact}
use Rattle.mip_words.specs.Steps.{◌>>=◌}
use Rattle.mip_words.specs.declared.address.Address.{Address}
use Rattle.mip_words.specs.declared.prefix.Prefix.{Prefix}
use Rattle.mip_words.specs.declared.ids.LinkId.{LinkId}
use Rattle.mip_words.specs.declared.ids.NodeId.{NodeId}
use Rattle.mip_words.specs.declared.token.Cookie.{Cookie}
use Rattle.mip_lines.specs.Decimals.{number_in}
use Rattle.mip_lines.specs.HexFields.{hex_number, address_in, hex_field}
use Rattle.mip_symbols.specs.Names.{name_of}
use Rattle.mip_symbols.specs.Places.{is_taken, place_of}
use Rattle.mip_symbols.specs.declared.declaration.Declaration.{Declaration}
use Rattle.mip_symbols.specs.declared.name.Name.{Name}
use Rattle.mip_symbols.specs.declared.places.Sort.{Sort}
use Rattle.mip_symbols.specs.declared.places.Sort.TheVariants as sorts
use Rattle.mip_symbols.specs.declared.reason.Reason.{Reason}
use Rattle.mip_symbols.specs.declared.reason.Reason.TheVariants as reasons

abbrev pub or_reason : {A : Type 0} → Reason → Option A → Result A Reason
or_reason why (Some x) = Ok x
or_reason why None = Err why

-- a number from low to high
unfoldable pub number : ℕ → ℕ → List ℕ → Result ℕ Reason
number low high field = or_reason reasons.Number (number_in low high field)

abbrev pub to_host : Option Address → Result Address Reason
to_host (Some a) = if is_routable a.0 then Ok a else Err reasons.Address
to_host None = Err reasons.Address

-- a routable address
unfoldable pub address : List ℕ → Result Address Reason
address field = to_host (address_in field)

unfoldable pub prefix : List ℕ → Result Prefix Reason
prefix field = do
  x ← or_reason reasons.Hex (hex_number 8 field)
  Ok (record { 0 = x })

unfoldable pub cookie : List ℕ → Result Cookie Reason
cookie field = do
  x ← or_reason reasons.Hex (hex_number 8 field)
  Ok (record { 0 = x })

unfoldable pub seed : List ℕ → Result (List ℕ) Reason
seed field = or_reason reasons.Hex (unhex_exact 32 field)

-- so many bytes at most
unfoldable pub bytes : ℕ → List ℕ → Result (List ℕ) Reason
bytes most field = or_reason reasons.Hex (hex_field most field)

-- a name that nothing has yet
unfoldable pub new_name : List Declaration → List ℕ → Result Name Reason
new_name ds field = if is_taken ds field then Err reasons.Name else or_reason reasons.Name (name_of field)

-- the place of what is of this sort and has this name
unfoldable pub place : Sort → List Declaration → List ℕ → Result ℕ Reason
place sort ds field = or_reason reasons.Name (place_of sort field ds)

unfoldable pub link : List Declaration → List ℕ → Result LinkId Reason
link ds field = do
  p ← place sorts.Link ds field
  Ok (record { 0 = p })

unfoldable pub node : Sort → List Declaration → List ℕ → Result NodeId Reason
node sort ds field = do
  p ← place sort ds field
  Ok (record { 0 = p })

unfoldable pub outsider : List Declaration → List ℕ → Result ℕ Reason
outsider ds field = place sorts.Outsider ds field

abbrev pub or_none : {A : Type 0} → List ℕ → (List ℕ → Result A Reason) → List ℕ → Result (Option A) Reason
or_none word read field = if bytes_eq field word then Ok None else (read field >>= (λ x. Ok (Some x)))

-- a link, or none
unfoldable pub some_link : List Declaration → List ℕ → Result (Option LinkId) Reason
some_link ds field = or_none (codes "-") (link ds) field

-- an agent, or one to be found
unfoldable pub some_agent : List Declaration → List ℕ → Result (Option NodeId) Reason
some_agent ds field = or_none (codes "find") (node sorts.Agent ds) field

-- the number of a packet, or none
unfoldable pub some_packet : List ℕ → Result (Option ℕ) Reason
some_packet field = or_none (codes "-") (number 0 (2 ^ 32 - 1)) field

-- which test is asked for: the one to the care-of address, or the one to the home address
unfoldable pub careof : List ℕ → Result Bool Reason
careof field =
    if bytes_eq field (codes "home") then Ok false
    else if bytes_eq field (codes "careof") then Ok true
    else Err reasons.Name
