-- Reading a packet, the refusals in their order. RFC 8200 sections 3 and 4, RFC 6275 sections 6.3 and 6.4
use Rattle.std.specs.Prelude.{ℕ, zero, suc, ◌+◌, ◌-◌, ◌*◌, ◌/◌, ◌%◌, ◌^◌, List, [], ◌∷◌, length, take, drop, slice_index, not, ◌||◌, ◌==◌, nat_lt, if◌then◌else◌, Option, Some, None, is_some, Result, Ok, Err}
use Rattle.mip_words.specs.Numbers.{number_at}
use Rattle.mip_words.specs.Addresses.{address_at, is_routable}
use Rattle.mip_words.specs.Steps.{◌>>=◌}
use Rattle.mip_words.specs.declared.address.Address.{Address}
use Rattle.mip_ipv6.specs.declared.head.Head.{Head}
use Rattle.mip_ipv6.specs.declared.not_packet.NotPacket.{NotPacket}
use Rattle.mip_ipv6.specs.declared.not_packet.NotPacket.TheVariants.{Short, Version, Length, Header, Route, Option as BadOption}
use Rattle.mip_ipv6.specs.Packet.{Packet, names_no_body}

-- what a header that may be absent gave: its address, the next-header number behind it, and the bytes behind it
pub record Walk : Type 0 where
  pub found : Option Address
  pub next : ℕ
  pub rest : List ℕ

-- the fixed header gives its next-header number
unfoldable pub fixed_header : List ℕ → Result ℕ NotPacket
fixed_header bytes =
    if nat_lt (length bytes) 40 then Err Short
    else if not (number_at 4 0 bytes / 2 ^ 28 == 6) then Err Version
    else if not (number_at 2 4 bytes == length bytes - 40) then Err Length
    else Ok (slice_index bytes 6)

-- a routing header of type 2 with one segment left
unfoldable pub routing_header : ℕ → List ℕ → Result Walk NotPacket
routing_header next bytes =
    if not (next == 43) then Ok (record { found = None; next = next; rest = bytes })
    else if nat_lt (length bytes) 8 then Err Short
    else if (not (slice_index bytes 1 == 2) || not (slice_index bytes 2 == 2)) || not (slice_index bytes 3 == 1) then Err Route
    else if nat_lt (length bytes) 24 then Err Short
    else if not (is_routable (address_at 8 bytes).0) then Err Route
    else Ok (record { found = Some (address_at 8 bytes); next = slice_index bytes 0; rest = drop 24 bytes })

-- the Home Address option: 16 bytes, the only one, and routable
unfoldable pub home_option : Option Address → List ℕ → Result (Option Address × ℕ) NotPacket
home_option home rest =
    if not (slice_index rest 0 == 16) || is_some home then Err (BadOption 201)
    else if not (is_routable (address_at 1 rest).0) then Err (BadOption 201)
    else Ok (Some (address_at 1 rest), 17)

-- an option of this type, with the home address seen before it and the bytes behind its type: the home address
-- seen so far, and how many of those bytes the option takes. Types below 64 may be skipped
unfoldable pub option_at : ℕ → Option Address → List ℕ → Result (Option Address × ℕ) NotPacket
option_at type home rest =
    if type == 0 then Ok (home, 0)
    else if (length rest == 0) || nat_lt (length rest) (slice_index rest 0 + 1) then Err (BadOption type)
    else if type == 201 then home_option home rest
    else if nat_lt type 64 then Ok (home, slice_index rest 0 + 1)
    else Err (BadOption type)

-- the options of an area, this many bytes of it skipped: the home address, if any
unfoldable pub options_after : ℕ → Option Address → List ℕ → Result (Option Address) NotPacket
options_after skipped home [] = Ok home
options_after (suc n) home (b ∷ rest) = options_after n home rest
options_after zero home (type ∷ rest) = do
  x ← option_at type home rest
  options_after x.1 x.0 rest

-- a Destination Options header
unfoldable pub options_header : ℕ → List ℕ → Result Walk NotPacket
options_header next bytes =
    if not (next == 60) then Ok (record { found = None; next = next; rest = bytes })
    else if nat_lt (length bytes) 2 then Err Short
    else if nat_lt (length bytes) (8 * slice_index bytes 1 + 8) then Err Short
    else do
      home ← options_after 0 None (drop 2 (take (8 * slice_index bytes 1 + 8) bytes))
      Ok (record { found = home; next = slice_index bytes 0; rest = drop (8 * slice_index bytes 1 + 8) bytes })

-- the fields of the fixed header, with what the other headers gave
abbrev pub head_of : List ℕ → Option Address → Option Address → ℕ → Head
head_of bytes route home proto = record {
  source = address_at 8 bytes;
  destination = address_at 24 bytes;
  hop = slice_index bytes 7;
  class = number_at 4 0 bytes / 2 ^ 20 % 256;
  flow = number_at 4 0 bytes % 2 ^ 20;
  route = route;
  home = home;
  proto = proto;
}

-- the headers from the front, each at most once; what stands in the body's place must be a body
unfoldable pub packet_of : List ℕ → Result Packet NotPacket
packet_of bytes = do
  first ← fixed_header bytes
  routing ← routing_header first (drop 40 bytes)
  options ← options_header routing.next routing.rest
  if names_no_body options.next then Err (Header options.next) else Ok (record { head = head_of bytes routing.found options.found options.next; body = options.rest })
