-- The acknowledgement of an update. RFC 6275 sections 6.1.8 and 9.5.4
use Rattle.std.specs.Prelude.{ℕ, List, false, ◌==◌, if◌then◌else◌, Option, Some, None}
use Rattle.mip_words.specs.Protocols.{mobility_header}
use Rattle.mip_words.specs.declared.address.Address.{Address}
use Rattle.mip_ipv6.specs.declared.head.Head.{Head}
use Rattle.mip_mobhdr.specs.OptionValues.{nothing}
use Rattle.mip_mobhdr.specs.Said.{Said}
use Rattle.mip_mobhdr.specs.Said.Said.{Acknowledgement}
use Rattle.mip_packets.specs.Keys.{Kbm}
use Rattle.mip_packets.specs.Packets.{node_head, message_packet}
use Rattle.mip_packets.specs.Authenticated.{authenticated_packet}
use Rattle.mip_reception.specs.declared.registration.Registration.{Registration}
use Rattle.mip_reception.specs.Registrations.{registered_of}

-- a routing header to the Home Address option, where that is not the source
abbrev pub route_unless : Address → Option Address → Option Address
route_unless source None = None
route_unless source (Some home) = if home.0 == source.0 then None else Some home

-- back to the source of the update
abbrev pub ack_head : Address → Registration → Head
ack_head own r = node_head own r.source (route_unless r.source r.home_option) None mobility_header

abbrev pub acknowledgement : (status sequence lifetime : ℕ) → Said
acknowledgement status sequence lifetime = Acknowledgement status false sequence lifetime nothing

-- with an authenticator where there is a key
unfoldable pub ack_packet : Address → Registration → (status sequence lifetime : ℕ) → Option Kbm → List ℕ
ack_packet own r status sequence lifetime None = message_packet (ack_head own r) (acknowledgement status sequence lifetime)
ack_packet own r status sequence lifetime (Some kbm) =
    authenticated_packet (ack_head own r) kbm.0 (registered_of r) own (acknowledgement status sequence lifetime)
