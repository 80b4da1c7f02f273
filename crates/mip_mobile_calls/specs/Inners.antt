-- Why a packet from a tunnel is dropped before the checks. RFC 6275 section 11.3.3
use Rattle.std.specs.Prelude.{not, ◌&&◌, ◌==◌, if◌then◌else◌, Option, Some, None, is_some, is_none}
use Rattle.mip_words.specs.Protocols.{ipv6, mobility_header}
use Rattle.mip_words.specs.declared.address.Address.{Address}
use Rattle.mip_words.specs.declared.shield.Shield.{Shield}
use Rattle.mip_words.specs.declared.why.Why.{Why}
use Rattle.mip_words.specs.declared.why.Why.TheVariants as whys
use Rattle.mip_ipv6.specs.declared.head.Head.{Head}
use Rattle.mip_ipv6.specs.declared.exit_fault.ExitFault.{ExitFault}
use Rattle.mip_ipv6.specs.declared.exit_fault.ExitFault.TheVariants.{NotTunnel, WrongEntry, Inner}
use Rattle.mip_reception.specs.Words.{packet_why}

-- it is a tunnel packet itself, for another address, routed, or unprotected though it carries a mobility message
abbrev pub inner_why : Address → Option Shield → Head → Option Why
inner_why home shield head =
    if head.proto == ipv6 then Some whys.Nested
    else if not (head.destination.0 == home.0) then Some whys.Address
    else if is_some head.route then Some whys.Route
    else if (head.proto == mobility_header) && is_none shield then Some whys.Unshielded
    else None

-- what the exit of a tunnel does not open
abbrev pub entry_why : ExitFault → Why
entry_why NotTunnel = whys.Entry
entry_why (WrongEntry seen) = whys.Entry
entry_why (Inner fault) = packet_why fault
