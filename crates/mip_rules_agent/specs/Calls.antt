-- What a home agent can be asked: its calls.
use Rattle.std.specs.Prelude.{ℕ, List, Option, Result, Ok, Err}
use Rattle.mip_words.specs.declared.address.Address.{Address}
use Rattle.mip_words.specs.declared.shield.Shield.{Shield}
use Rattle.mip_ipv6.specs.declared.not_packet.NotPacket.{NotPacket}
use Rattle.mip_ipv6.specs.Packet.{Packet, source_of}
use Rattle.mip_ipv6.specs.Reading.{packet_of}
use Rattle.mip_outside.specs.declared.claim.Claim.{Claim}
use Rattle.mip_outside.specs.Places.{Around, claim_in}

pub data Call : Type 0 where
  -- a packet is handed to it, by its number, its shield and its bytes, with what its place answers to a claim of the
  -- packet's home address
  Take : (number : ℕ) (shield : Option Shield) (packet : List ℕ) (claim : Claim) → Call
  -- time goes on
  Tick : Call
  -- from now on its prefix is valid and preferred for so many seconds
  Plan : (valid preferred : ℕ) → Call
  -- another home agent advertised itself, with its preference and for so many seconds
  Hear : (agent : Address) (preference life : ℕ) → Call

-- the home address of a packet: its Home Address option, else its source
abbrev pub home_in : Result Packet NotPacket → ℕ
home_in (Ok p) = (source_of p.head).0
home_in (Err fault) = 0

-- what a place answers to a claim of it
abbrev pub claim_for : Around → List ℕ → Claim
claim_for around packet = claim_in around (home_in (packet_of packet))
