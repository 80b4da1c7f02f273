-- What the packets say that a home agent sends: what the packet says that was handed over, or no test. RFC 6275 section
-- 5.2.5
use Rattle.std.specs.Prelude.{◌≡◌, ◌⊎◌, ℕ, List}
use Rattle.mip_reception.specs.Says.{carried}
use Rattle.mip_reception.specs.Written.{SaysNoTest}
use Rattle.mip_entries.specs.declared.answer.Answer.{Answer}
use Rattle.mip_entries.specs.declared.answer.Answer.TheVariants.{Send, Note}

-- of a packet, in a call that hands over these bytes
abbrev pub SaysHanded : (bytes packet : List ℕ) → Type 0
SaysHanded bytes packet = (carried packet ≡ carried bytes) ⊎ SaysNoTest (carried packet)

abbrev pub SaysNoOther : List ℕ → Answer → Type 0
SaysNoOther bytes (Send shield packet) = SaysHanded bytes packet
SaysNoOther bytes (Note entry) = Unit {0}
