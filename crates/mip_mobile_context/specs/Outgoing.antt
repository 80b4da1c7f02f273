-- What can go out from the home address, wherever the mobile stands.
use Rattle.std.specs.Prelude.{ℕ, ◌≤◌, List, length}
use Rattle.mip_entries.specs.declared.answer.Answer.{Answer}
use Rattle.mip_entries.specs.declared.answer.Answer.TheVariants.{Send, Note}
use Rattle.mip_ipv6.specs.Tunnel.{hop_of}

-- a packet that a tunnel takes: it has its fixed header, its hop limit can be lowered, and it fits into a body. RFC 2473
-- section 3.1
abbrev pub CanEnter : List ℕ → Type 0
CanEnter packet = (40 ≤ length packet) × (2 ≤ hop_of packet) × (length packet ≤ 65535)

-- an answer that can be passed on
abbrev pub CanPass : Answer → Type 0
CanPass (Send shield packet) = CanEnter packet
CanPass (Note entry) = Unit {0}
