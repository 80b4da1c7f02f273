-- What every node checks of a packet before its role looks at it. RFC 6275 sections 6.1.3, 6.4, 9.2, 9.3.1 and 9.3.3
use Rattle.std.specs.Prelude.{ℕ, ◌+◌, ◌-◌, List, length, Bool, true, false, not, ◌&&◌, ◌||◌, ◌==◌, if◌then◌else◌, Option, Some, None, is_some, unwrap_or, Result, Ok, Err}
use Rattle.mip_words.specs.Protocols.{mobility_header}
use Rattle.mip_words.specs.declared.address.Address.{Address}
use Rattle.mip_words.specs.declared.why.Why.{Why}
use Rattle.mip_words.specs.declared.why.Why.TheVariants as whys
use Rattle.mip_ipv6.specs.Packet.{Packet, source_of, destination_of}
use Rattle.mip_mobhdr.specs.declared.fault.Fault.{Fault}
use Rattle.mip_mobhdr.specs.declared.fault.Fault.TheVariants as faults
use Rattle.mip_mobhdr.specs.Said.{Said}
use Rattle.mip_mobhdr.specs.Said.Said.{HomeInit, CareofInit, Update}
use Rattle.mip_mobhdr.specs.Reading.{message_of}
use Rattle.mip_reception.specs.declared.reply.Reply.{Reply}
use Rattle.mip_reception.specs.declared.reply.Reply.TheVariants.{Nothing, BindingError, ParameterProblem}
use Rattle.mip_reception.specs.declared.refusal.Refusal.{Refusal}
use Rattle.mip_reception.specs.declared.address_match.AddressMatch.{AddressMatch}
use Rattle.mip_reception.specs.Words.{message_why}

-- refused without an answer
abbrev pub silent : Why → Refusal
silent why = record { why = why; reply = Nothing }

abbrev pub nobody : Address
nobody = record { 0 = 0 }

-- the place of a packet's body in its bytes
abbrev pub place_in : List ℕ → Packet → ℕ
place_in bytes p = length bytes - length p.body

-- what goes back for a message that cannot be read, which begins at a place of the packet: a Binding Error with
-- status 2 for an unknown type, a Parameter Problem for a wrong Payload Proto or Header Len. RFC 6275 section 9.2
abbrev pub fault_reply : ℕ → Option Address → Fault → Reply
fault_reply place home faults.Size = Nothing
fault_reply place home faults.Checksum = Nothing
fault_reply place home (faults.Unknown type) = BindingError 2 (unwrap_or home nobody)
fault_reply place home faults.Proto = ParameterProblem place
fault_reply place home faults.HeaderLen = ParameterProblem (place + 1)
fault_reply place home (faults.Option at) = Nothing

abbrev pub message_or_refusal : ℕ → Option Address → Result Said Fault → Result (Option Said) Refusal
message_or_refusal place home (Ok message) = Ok (Some message)
message_or_refusal place home (Err fault) = Err (record { why = message_why fault; reply = fault_reply place home fault })

-- the mobility message of a packet whose body begins at this place, none in a packet of another kind
unfoldable pub message_at : ℕ → Packet → Result (Option Said) Refusal
message_at place p =
    if p.head.proto == mobility_header then message_or_refusal place p.head.home (message_of (source_of p.head) (destination_of p.head) p.body)
    else Ok None

abbrev pub is_probe : Option Said → Bool
is_probe (Some (HomeInit cookie options)) = true
is_probe (Some (CareofInit cookie options)) = true
is_probe _ = false

abbrev pub is_update : Option Said → Bool
is_update (Some (Update s a h l k t o)) = true
is_update _ = false

-- a Home Address option: never with a test init; else in an update, or where a binding from this home to
-- the source stands. RFC 6275 sections 6.1.3, 6.1.4 and 9.3.1
abbrev pub with_home : Bool → Option Address → Option Said → Result (Option Said) Refusal
with_home holds None message = Ok message
with_home holds (Some home) message =
    if is_probe message then Err (silent whys.Probe)
    else if is_update message || holds then Ok message
    else Err (record { why = whys.HomeOption; reply = BindingError 1 home })

abbrev pub then_home : Bool → Option Address → Result (Option Said) Refusal → Result (Option Said) Refusal
then_home holds home (Err refusal) = Err refusal
then_home holds home (Ok message) = with_home holds home message

-- the checks in their order: the destination, the routing header, the message, the Home Address option. What passes
-- is the message, if the packet has one
unfoldable pub checked : AddressMatch → ℕ → Packet → Result (Option Said) Refusal
checked standing place p =
    if not standing.is_mine then Err (silent whys.Address)
    else if is_some p.head.route && not standing.takes_route then Err (silent whys.Route)
    else then_home standing.holds p.head.home (message_at place p)
