-- What a configuration keeps to.
use Rattle.std.specs.Prelude.{Bool, not, ◌&&◌, nat_le, length}
use Rattle.mip_words.specs.Addresses.{is_routable}
use Rattle.mip_words.specs.declared.address.Address.{Address}
use Rattle.mip_schedule.specs.EventTimes.{is_reserved}
use Rattle.mip_config.specs.declared.payload.Payload.{Payload}
use Rattle.mip_config.specs.declared.role.Role.{Role}
use Rattle.mip_config.specs.declared.role.Role.TheVariants.{Agent, Correspondent, Mobile}

-- the address that a node is known by: the home address of a mobile
abbrev pub address_of : Role → Address
address_of (Agent address preference life room) = address
address_of (Correspondent address room) = address
address_of (Mobile address agent) = address

-- an address that may stand in a routing header. RFC 6275 section 6.4
abbrev pub is_home : Address → Bool
is_home a = is_routable a.0

-- data of a protocol that may be sent, to a routable address, and of 512 bytes at most
abbrev pub is_sendable : Payload → Bool
is_sendable p = is_routable p.to.0 && (not (is_reserved p.proto) && nat_le (length p.payload) 512)
