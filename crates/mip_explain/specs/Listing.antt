-- The listing of a packet: its headers line by line, then what its body says.
use Rattle.std.specs.Prelude.{◌≡◌, ℕ, List, [], ◌++◌, ◌==◌, false, if◌then◌else◌, codes, Result, Ok, Err, IsOk}
use Rattle.mip_words.specs.Steps.{◌>>=◌}
use Rattle.mip_words.specs.declared.address.Address.{Address}
use Rattle.mip_ipv6.specs.declared.head.Head.{Head}
use Rattle.mip_ipv6.specs.declared.not_packet.NotPacket.{NotPacket}
use Rattle.mip_ipv6.specs.Packet.{Packet, source_of, destination_of}
use Rattle.mip_ipv6.specs.Reading.{packet_of}
use Rattle.mip_mobhdr.specs.OptionValues.{Values}
use Rattle.mip_mobhdr.specs.declared.fault.Fault.{Fault}
use Rattle.mip_mobhdr.specs.Reading.{message_of}
use Rattle.mip_mobhdr.specs.Said as mobility
use Rattle.mip_icmp.specs.declared.fault.IcmpFault.{IcmpFault}
use Rattle.mip_icmp.specs.Reading.{icmp_of}
use Rattle.mip_icmp.specs.Said as icmp
use Rattle.mip_icmp.specs.Spelling.{type_of}
use Rattle.mip_explain.specs.declared.fault.ExplainFault.{ExplainFault}
use Rattle.mip_explain.specs.declared.fault.ExplainFault.TheVariants as faults
use Rattle.mip_explain.specs.Words.{fault_word, message_word}
use Rattle.mip_explain.specs.Lines.{source_line, destination_line, hop_line, class_line, flow_line, route_line, home_option_line, proto_line, message_line, fault_line, icmp_line, body_line, index_line, cookie_line, token_line, sequence_line, flags_line, lifetime_line, status_line, home_line, advice_line, nonces_line, binding_number_line, alternate_line, authorization_line}

-- the header of every packet. RFC 8200 section 3
unfoldable pub fixed_lines : Head → List ℕ
fixed_lines head =
    source_line head.source ++ (destination_line head.destination ++ (hop_line head.hop ++ (class_line head.class ++ flow_line head.flow)))

-- the routing header, the Home Address option, and the number of the body. RFC 6275 sections 6.3 and 6.4
unfoldable pub extension_lines : Head → List ℕ
extension_lines head = route_line head.route ++ (home_option_line head.home ++ proto_line head.proto)

unfoldable pub option_lines : Values → List ℕ
option_lines o =
    advice_line o.advice ++ (nonces_line o.nonces ++ (binding_number_line o.number ++ (alternate_line o.alternate ++ authorization_line o.authorization)))

-- the fields of a mobility message, in the order of their bytes. RFC 6275 section 6.1
unfoldable pub field_lines : mobility.Said → List ℕ
field_lines (mobility.Refresh o) = []
field_lines (mobility.HomeInit c o) = cookie_line c
field_lines (mobility.CareofInit c o) = cookie_line c
field_lines (mobility.HomeTest i c t o) = index_line i ++ (cookie_line c ++ token_line t)
field_lines (mobility.CareofTest i c t o) = index_line i ++ (cookie_line c ++ token_line t)
field_lines (mobility.Update q a h l k t o) = sequence_line q ++ (flags_line a h l k ++ lifetime_line t)
field_lines (mobility.Acknowledgement s k q t o) = status_line s ++ (flags_line false false false k ++ (sequence_line q ++ lifetime_line t))
field_lines (mobility.Error s h o) = status_line s ++ home_line h

abbrev pub options_in : mobility.Said → Values
options_in (mobility.Refresh o) = o
options_in (mobility.HomeInit c o) = o
options_in (mobility.CareofInit c o) = o
options_in (mobility.HomeTest i c t o) = o
options_in (mobility.CareofTest i c t o) = o
options_in (mobility.Update q a h l k t o) = o
options_in (mobility.Acknowledgement s k q t o) = o
options_in (mobility.Error s h o) = o

unfoldable pub message_lines : mobility.Said → List ℕ
message_lines m = message_line (message_word m) ++ (field_lines m ++ option_lines (options_in m))

abbrev pub mobility_lines : Result mobility.Said Fault → List ℕ
mobility_lines (Ok m) = message_lines m
mobility_lines (Err fault) = fault_line (fault_word fault)

abbrev pub icmp_lines : Result icmp.Said IcmpFault → List ℕ
icmp_lines (Ok m) = icmp_line (type_of m)
icmp_lines (Err fault) = fault_line (codes "icmp")

-- the pseudo-header of a body has the addresses of whom the packet is from and for
unfoldable pub body_lines : Head → List ℕ → List ℕ
body_lines head body =
    if head.proto == 135 then mobility_lines (message_of (source_of head) (destination_of head) body)
    else if head.proto == 58 then icmp_lines (icmp_of (source_of head) (destination_of head) body)
    else body_line body

unfoldable pub packet_lines : Packet → List ℕ
packet_lines p = fixed_lines p.head ++ (extension_lines p.head ++ body_lines p.head p.body)

-- the listing of a packet, or why the bytes are none
unfoldable pub listing_of : List ℕ → Result (List ℕ) NotPacket
listing_of bytes = do
  p ← packet_of bytes
  Ok (packet_lines p)

-- an answer is this listing, or why there is none; memory may run out where there is one
abbrev pub Explains : Result (List ℕ) ExplainFault → Result (List ℕ) NotPacket → Type 0
Explains (Ok b) listing = listing ≡ Ok b
Explains (Err (faults.NotPacket refusal)) listing = listing ≡ Err refusal
Explains (Err faults.Memory) listing = IsOk listing
