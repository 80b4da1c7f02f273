-- Why a tunnel is not opened, and why what comes out of it is dropped. RFC 6275 section 11.3.3
use Rattle.std.specs.Prelude.{ℕ, Bool, ◌&&◌, ◌==◌, not, if◌then◌else◌, Option, Some, None, is_some, is_none}
use Rattle.mip_words.specs.Protocols.{ipv6, mobility_header}
use Rattle.mip_words.specs.declared.address.Address.{Address}
use Rattle.mip_words.specs.declared.shield.Shield.{Shield}
use Rattle.mip_words.specs.declared.why.Why.{Why}
use Rattle.mip_words.specs.declared.why.Why.TheVariants as whys
use Rattle.mip_ipv6.specs.declared.head.Head.{Head}
use Rattle.mip_ipv6.specs.declared.exit_fault.ExitFault.{ExitFault}
use Rattle.mip_ipv6.specs.declared.exit_fault.ExitFault.TheVariants.{NotTunnel, WrongEntry, Inner}
use Rattle.mip_reception.specs.Words.{packet_why}
use Rattle.mip_rules_mobile.specs.Steps.{Drops}
use Rattle.mip_rules_mobile.specs.Transitions.{Transition, noted}

-- the first of four faults that is there
abbrev pub first_fault : (nested elsewhere routed unshielded : Bool) → Option Why
first_fault nested elsewhere routed unshielded =
    if nested then Some whys.Nested
    else if elsewhere then Some whys.Address
    else if routed then Some whys.Route
    else if unshielded then Some whys.Unshielded
    else None

-- that of a packet with this head out of a tunnel, where this is the home address
abbrev pub fault_in : (home : Address) → Option Shield → Head → Option Why
fault_in home shield head =
    first_fault (head.proto == ipv6) (not (head.destination.0 == home.0)) (is_some head.route) ((head.proto == mobility_header) && is_none shield)

-- a packet with a fault is dropped
abbrev pub unless_fault : Option Why → ℕ → (rest : Transition) → Transition → Transition
unless_fault None number rest t = rest
unless_fault (Some why) number rest t = noted (Drops number why) t

abbrev pub exit_why : ExitFault → Why
exit_why NotTunnel = whys.Entry
exit_why (WrongEntry seen) = whys.Entry
exit_why (Inner fault) = packet_why fault
