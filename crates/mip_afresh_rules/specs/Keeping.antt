-- What a correspondent keeps of the home that a packet is about: the Home Address option, else the source. RFC 6275 section 9.1
use Rattle.std.specs.Prelude.{◌≡◌, ℕ, Bool, false, ◌==◌, Option, Some, None, unwrap_or, Result, Ok, Err}
use Rattle.mip_words.specs.declared.address.Address.{Address}
use Rattle.mip_ipv6.specs.declared.head.Head.{Head}
use Rattle.mip_ipv6.specs.declared.not_packet.NotPacket.{NotPacket}
use Rattle.mip_ipv6.specs.Packet.{Packet}
use Rattle.mip_bcache.specs.Seen.{CacheSeen, holds_at, floor_at, has_no_room}
use Rattle.mip_reception.specs.declared.address_match.AddressMatch.{AddressMatch}
use Rattle.mip_afresh_rules.specs.declared.kept.Kept.{Kept}
use Rattle.mip_afresh_rules.specs.declared.subject.Subject.{Subject}

abbrev pub holds_home : CacheSeen → ℕ → Address → Option Address → Bool
holds_home cache now source None = false
holds_home cache now source (Some home) = holds_at cache home.0 now source.0

abbrev pub home_of_packet : Address → Option Address → Address
home_of_packet source home = unwrap_or home source

-- these are the answers of a cache at a moment to what a packet asks of it
pub record IsKept (kept : Kept) (cache : CacheSeen) (now : ℕ) (source : Address) (home : Option Address) : Type 0 where
  pub bound : kept.holds ≡ holds_home cache now source home
  pub last : kept.floor ≡ floor_at cache (home_of_packet source home).0 now
  pub room : kept.is_full ≡ has_no_room cache (home_of_packet source home).0 now
  pub count : kept.numbers ≡ cache.numbers

-- what the addresses of a packet are to a correspondent
abbrev pub standing_at : Address → Bool → Head → AddressMatch
standing_at own holds head = record { is_mine = head.destination.0 == own.0; takes_route = false; holds = holds }

-- these are its answers to what these bytes ask, where they are a packet
abbrev pub IsKeptFor : Kept → CacheSeen → ℕ → Result Packet NotPacket → Type 0
IsKeptFor kept cache now (Ok p) = IsKept kept cache now p.head.source p.head.home
IsKeptFor kept cache now (Err fault) = Unit {0}

-- what bytes ask of what is kept: the source of the packet and its Home Address option
abbrev pub subject_in : Result Packet NotPacket → Option Subject
subject_in (Ok p) = Some (record { source = p.head.source; home = p.head.home })
subject_in (Err fault) = None
