-- How a packet comes that a mobile handles: it is the one that is handed over, or it stands in a tunnel from its agent.
-- RFC 6275 sections 11.3.3 and 11.6.2
use Rattle.std.specs.Prelude.{◌≡◌, ℕ, List, Bool, true, false, Option, Some, Ok, is_some}
use Rattle.mip_words.specs.Protocols.{mobility_header}
use Rattle.mip_words.specs.declared.address.Address.{Address}
use Rattle.mip_words.specs.declared.shield.Shield.{Shield}
use Rattle.mip_ipv6.specs.Packet.{Packet}
use Rattle.mip_ipv6.specs.Reading.{packet_of}
use Rattle.mip_ipv6.specs.Tunnel.{opened}
use Rattle.mip_rules_mobile.specs.Calls.{Call, Take}
use Rattle.mip_rules_mobile.specs.Known.{Known}
use Rattle.mip_rules_mobile.specs.HomeQuestions.{agent_of}

-- it stands in a packet that the mobile's agent sent, and under a shield where it is a mobility message
pub record IsTunnelled (k : Known) (now : ℕ) (shield : Option Shield) (bytes : List ℕ) (packet : Packet) : Type 0 where
  pub outer : Packet
  pub agent : Address
  pub read : packet_of bytes ≡ Ok outer
  pub of : agent_of k now ≡ Some agent
  pub opens : opened agent outer ≡ Ok packet
  pub shielded : packet.head.proto ≡ mobility_header → is_some shield ≡ true

-- in no tunnel it is what was handed over
abbrev pub Came : Known → ℕ → (tunnelled : Bool) → Option Shield → List ℕ → Packet → Type 0
Came k now false shield bytes packet = packet_of bytes ≡ Ok packet
Came k now true shield bytes packet = IsTunnelled k now shield bytes packet

-- a packet that is handed over in this call
pub record IsOfTake (c : Call) (k : Known) (now number : ℕ) (tunnelled : Bool) (shield : Option Shield) (packet : Packet) : Type 0 where
  pub bytes : List ℕ
  pub call : c ≡ Take number shield bytes
  pub came : Came k now tunnelled shield bytes packet

-- the call hands a packet over
abbrev pub is_take : Call → Bool
is_take (Take number shield packet) = true
is_take _ = false
