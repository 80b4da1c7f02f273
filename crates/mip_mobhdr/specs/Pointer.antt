-- Where a Parameter Problem about a message points to. RFC 6275 section 9.2
use Rattle.std.specs.Prelude.{ℕ, ◌+◌, Option, Some, None}
use Rattle.mip_mobhdr.specs.declared.fault.Fault.{Fault}
use Rattle.mip_mobhdr.specs.declared.fault.Fault.TheVariants as faults

-- Payload Proto is the first byte of the message, Header Len the second; no other fault has a pointer
abbrev pub pointer_of : ℕ → Fault → Option ℕ
pointer_of place faults.Size = None
pointer_of place faults.Checksum = None
pointer_of place (faults.Unknown type) = None
pointer_of place faults.Proto = Some place
pointer_of place faults.HeaderLen = Some (place + 1)
pointer_of place (faults.Option at) = None
