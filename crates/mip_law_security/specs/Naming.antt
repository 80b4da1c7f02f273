-- Packets that name a home address, and say no update. RFC 6275 section 9.3.1
use Rattle.std.specs.Prelude.{◌≡◌, ℕ, Bool, Some}
use Rattle.mip_ipv6.specs.Packet.{Packet}
use Rattle.mip_mobhdr.specs.OptionValues.{Values}
use Rattle.mip_mobhdr.specs.Said.Said.{Update}
use Rattle.mip_reception.specs.Says.{message_in}

-- a packet says no Binding Update
abbrev pub SaysNoUpdate : Packet → Type 0
SaysNoUpdate p = (sequence : ℕ) (ack home local key : Bool) (lifetime : ℕ) (options : Values) → message_in p ≡ Some (Update sequence ack home local key lifetime options) → ⊥
