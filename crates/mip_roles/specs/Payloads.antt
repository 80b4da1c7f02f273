-- What may be sent as data: no tunnel, no ICMPv6, nothing, no mobility message, and no extension header.
use Rattle.std.specs.Prelude.{ℕ, Bool, not, ◌&&◌}
use Rattle.mip_ipv6.specs.Packet.{names_no_body}
use Rattle.mip_rules_correspondent.specs.Rules.{is_data}

abbrev pub is_payload : ℕ → Bool
is_payload proto = is_data proto && not (names_no_body proto)
