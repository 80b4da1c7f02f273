-- What a packet seems to ask, by the places of one that has no header before its message. RFC 6275 sections 6.1.1, 6.1.3 and 6.1.4
use Rattle.std.specs.Prelude.{ℕ, List, length, nat_lt, ◌==◌, not, if◌then◌else◌, Option, Some, None, option_map, slice_index}
use Rattle.mip_words.specs.Addresses.{address_at}
use Rattle.mip_words.specs.Protocols.{mobility_header}
use Rattle.mip_words.specs.declared.address.Address.{Address}
use Rattle.mip_packets.specs.declared.test_kind.TestKind.{TestKind}
use Rattle.mip_packets.specs.declared.test_kind.TestKind.TheVariants.{Home, Careof}

-- a Mobility Header of type 1 or 2
abbrev pub init_of : (next kind : ℕ) → Option TestKind
init_of next kind =
    if not (next == mobility_header) then None
    else if kind == 1 then Some Home
    else if kind == 2 then Some Careof
    else None

-- the kind of the test, and the source of the packet
abbrev pub init_ahead : List ℕ → Option (TestKind × Address)
init_ahead bytes =
    if nat_lt (length bytes) 43 then None
    else option_map (λ kind. (kind, address_at 8 bytes)) (init_of (slice_index bytes 6) (slice_index bytes 42))
