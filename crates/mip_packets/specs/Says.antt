-- What a packet says, through any depth of tunnels: a test, an update with an authenticator, or nothing of the kind.
-- RFC 2473; RFC 6275 sections 5.2.5, 6.1.5, 6.1.6 and 6.1.7
use Rattle.std.specs.Prelude.{ℕ, zero, suc, ◌-◌, List, [], ◌∷◌, length, Bool, ◌==◌, ◌||◌, if◌then◌else◌, Option, Some, None, unwrap_or, Result, Ok, Err}
use Rattle.std.specs.Option.{option_map_or}
use Rattle.std.specs.Result.{result_ok}
use Rattle.mip_words.specs.declared.address.Address.{Address}
use Rattle.mip_ipv6.specs.declared.not_packet.NotPacket.{NotPacket}
use Rattle.mip_ipv6.specs.Packet.{Packet, source_of, destination_of}
use Rattle.mip_ipv6.specs.Reading.{packet_of}
use Rattle.mip_mobhdr.specs.OptionValues.{Values}
use Rattle.mip_mobhdr.specs.Said.{Said}
use Rattle.mip_mobhdr.specs.Said.Said.{Refresh, HomeInit, CareofInit, HomeTest, CareofTest, Update as BindingUpdate, Acknowledgement, Error}
use Rattle.mip_mobhdr.specs.Reading.{message_of}
use Rattle.mip_tokens.specs.Token.{authenticated}
use Rattle.mip_packets.specs.declared.carried.Carried.{Carried as Seen}
use Rattle.mip_packets.specs.declared.carried.Carried.TheVariants as seen
use Rattle.mip_packets.specs.declared.update_identity.UpdateIdentity.{UpdateIdentity as SeenIdentity}
use Rattle.mip_packets.specs.declared.test_kind.TestKind.{TestKind}
use Rattle.mip_packets.specs.declared.test_kind.TestKind.TheVariants as kinds

-- the packet itself, or what stands in it where it is a tunnel packet, whose body is so many bytes from its end
abbrev pub follow : Result Packet NotPacket → ℕ → (ℕ → Option Packet) → Option Packet
follow (Err fault) size again = None
follow (Ok p) size again = if p.head.proto == 41 then again (size - length p.body) else Some p

-- the same for the bytes behind so many that are skipped
unfoldable pub innermost_after : ℕ → List ℕ → Option Packet
innermost_after skipped [] = None
innermost_after (suc n) (b ∷ rest) = innermost_after n rest
innermost_after zero (b ∷ rest) = follow (packet_of (b ∷ rest)) (length rest) (λ n. innermost_after n rest)

-- the packet in which no further packet stands
unfoldable pub innermost : List ℕ → Option Packet
innermost bytes = innermost_after 0 bytes

-- the mobility message of a packet, where it has a readable one
abbrev pub message_in : Packet → Option Said
message_in p =
    if p.head.proto == 135 then result_ok (message_of (source_of p.head) (destination_of p.head) p.body) else None

-- what two updates have in common where one repeats the other
pub record UpdateIdentity : Type 0 where
  -- the home address
  pub home : Address
  -- the care-of address, an alternate one where there is one
  pub careof : Address
  -- what its authenticator covers of the message
  pub message : List ℕ
  pub authenticator : List ℕ

pub data Carried : Type 0 where
  -- a Home Test (kind 0) or a Care-of Test (kind 1), and where it goes
  Test : (kind index : ℕ) (token : List ℕ) (destination : Address) → Carried
  Update : (key : UpdateIdentity) → Carried
  Other : Carried

abbrev pub update_said : Address → Address → List ℕ → Values → Option (List ℕ) → Carried
update_said source home body options None = Other
update_said source home body options (Some authenticator) = Update (record {
  home = home;
  careof = unwrap_or options.alternate source;
  message = authenticated body;
  authenticator = authenticator;
})

-- the types of a Home Test, a Care-of Test and an update
abbrev pub is_telling : ℕ → Bool
is_telling type = type == 3 || type == 4 || type == 5

-- what a message says, in a packet from this source and this home address to this destination
abbrev pub said_by : Address → Address → Address → List ℕ → Said → Carried
said_by source home destination body (Refresh o) = Other
said_by source home destination body (HomeInit c o) = Other
said_by source home destination body (CareofInit c o) = Other
said_by source home destination body (HomeTest i c t o) = Test 0 i t destination
said_by source home destination body (CareofTest i c t o) = Test 1 i t destination
said_by source home destination body (BindingUpdate s a h l k t o) = update_said source home body o o.authorization
said_by source home destination body (Acknowledgement s k q t o) = Other
said_by source home destination body (Error s h o) = Other

-- what a packet says whose body is no packet
unfoldable pub says : Packet → Carried
says p = option_map_or (said_by p.head.source (source_of p.head) p.head.destination p.body) (message_in p) Other

-- what bytes say
unfoldable pub carried : List ℕ → Carried
carried bytes = option_map_or says (innermost bytes) Other

-- what was found, without how it lies in memory
abbrev pub kind_of : TestKind → ℕ
kind_of kinds.Home = 0
kind_of kinds.Careof = 1

abbrev pub key_of : SeenIdentity → UpdateIdentity
key_of k = record { home = k.home; careof = k.careof; message = authenticated k.body.now; authenticator = k.authenticator }

abbrev pub carried_of : Seen → Carried
carried_of (seen.Test kind index token destination) = Test (kind_of kind) index token.0 destination
carried_of (seen.Update key) = Update (key_of key)
carried_of seen.Other = Other
