-- What a mobile does about a packet that it is handed. RFC 6275 sections 9.2, 9.3.1 and 11.3.3
use Rattle.std.specs.Prelude.{ℕ, List, Bool, true, false, not, ◌&&◌, ◌==◌, if◌then◌else◌, Option, Some, None, is_some, is_none, Result, Ok, Err}
use Rattle.mip_words.specs.Protocols.{ipv6, icmpv6, no_next_header, mobility_header}
use Rattle.mip_words.specs.declared.address.Address.{Address}
use Rattle.mip_words.specs.declared.shield.Shield.{Shield}
use Rattle.mip_words.specs.declared.why.Why.TheVariants as whys
use Rattle.mip_ipv6.specs.declared.head.Head.{Head}
use Rattle.mip_ipv6.specs.declared.not_packet.NotPacket.{NotPacket}
use Rattle.mip_ipv6.specs.Packet.{Packet, source_of}
use Rattle.mip_ipv6.specs.Reading.{packet_of}
use Rattle.mip_mobhdr.specs.OptionValues.{Values}
use Rattle.mip_mobhdr.specs.Said.{Said}
use Rattle.mip_mobhdr.specs.Said.Said.{Refresh, HomeTest, CareofTest, Acknowledgement, Error}
use Rattle.mip_ipv6.specs.declared.exit_fault.ExitFault.{ExitFault}
use Rattle.mip_ipv6.specs.declared.exit_fault.ExitFault.TheVariants.{NotTunnel, WrongEntry, Inner}
use Rattle.mip_ipv6.specs.Tunnel.{opened}
use Rattle.mip_reception.specs.declared.refusal.Refusal.{Refusal}
use Rattle.mip_reception.specs.declared.address_match.AddressMatch as checks
use Rattle.mip_reception.specs.Words.{packet_why}
use Rattle.mip_reception.specs.Checks.{checked}
use Rattle.mip_rules_correspondent.specs.Calls as parts
use Rattle.mip_rules_correspondent.specs.Rules.{is_for_part, holds_option, place_in}
use Rattle.mip_rules_mobile.specs.declared.attachment.Attachment.{Attachment}
use Rattle.mip_rules_mobile.specs.declared.attachment.Attachment.TheVariants.{Detached, AtHome, Away}
use Rattle.mip_rules_mobile.specs.declared.home_update.HomeUpdate.{HomeUpdate}
use Rattle.mip_rules_mobile.specs.Steps.{Drops}
use Rattle.mip_rules_mobile.specs.Known.{Known}
use Rattle.mip_rules_mobile.specs.HomeQuestions.{home_of, agent_of}
use Rattle.mip_rules_mobile.specs.Transitions.{Transition, noted}
use Rattle.mip_rules_mobile.specs.OutRules.{asks_part, replies}
use Rattle.mip_rules_mobile.specs.HomeRules.{home_answered, takes_home_ack}
use Rattle.mip_rules_mobile.specs.PeerRules.{meets, takes_home_test, takes_careof_test, takes_ack_of, takes_error, takes_refresh}
use Rattle.mip_rules_mobile.specs.IcmpRules.{takes_icmp}

-- an acknowledgement is first one of the agent, then one of a peer
abbrev pub acks_by : Option HomeUpdate → ℕ → Address → (status sequence lifetime : ℕ) → Option (List ℕ) → List ℕ → Transition → Transition
acks_by (Some u) number source status sequence lifetime authenticator message t = takes_home_ack u status sequence lifetime t
acks_by None number source status sequence lifetime authenticator message t =
    takes_ack_of number source status sequence lifetime authenticator message t

unfoldable pub takes_ack : ℕ → Bool → Option Shield → Packet → (status sequence lifetime : ℕ) → Values → Transition → Transition
takes_ack number tunnelled shield p status sequence lifetime options t =
    acks_by (home_answered t.known tunnelled shield (source_of p.head) status sequence)
    number (source_of p.head) status sequence lifetime options.authorization p.body t

-- the correspondent part; after data from a tunnel its peer is met
abbrev pub then_meets : Bool → Packet → Transition → Transition
then_meets true p t = meets (source_of p.head) t
then_meets false p t = t

unfoldable pub takes_for_part : ℕ → Bool → Packet → Option Said → Transition → Transition
takes_for_part number tunnelled p message t =
    then_meets (tunnelled && is_none message) p (asks_part (parts.Part number p) t)

-- what the correspondent part does not take: ICMPv6, a packet with no next header, and what is left, which has no taker
abbrev pub by_proto : ℕ → Option Shield → Packet → Transition → Transition
by_proto number shield p t =
    if p.head.proto == icmpv6 then takes_icmp number shield p t
    else if p.head.proto == no_next_header then noted (Drops number whys.NoNext) t
    else noted (Drops number whys.Role) t

abbrev pub by_message : ℕ → Bool → Option Shield → Packet → Option Said → Transition → Transition
by_message number tunnelled shield p None t = by_proto number shield p t
by_message number tunnelled shield p (Some (HomeTest index cookie token options)) t =
    takes_home_test number tunnelled (source_of p.head) index cookie token t
by_message number tunnelled shield p (Some (CareofTest index cookie token options)) t =
    takes_careof_test number tunnelled (source_of p.head) index cookie token t
by_message number tunnelled shield p (Some (Acknowledgement status key sequence lifetime options)) t =
    takes_ack number tunnelled shield p status sequence lifetime options t
by_message number tunnelled shield p (Some (Error status home options)) t = takes_error number (source_of p.head) status home t
by_message number tunnelled shield p (Some (Refresh options)) t = takes_refresh number (source_of p.head) t
by_message number tunnelled shield p (Some other) t = noted (Drops number whys.Role) t

-- a packet that has passed the checks, and is no tunnel packet
unfoldable pub by_role : ℕ → Bool → Option Shield → Packet → Option Said → Transition → Transition
by_role number tunnelled shield p message t =
    if is_for_part p.head.proto message then takes_for_part number tunnelled p message t
    else by_message number tunnelled shield p message t

-- a packet is refused, and something may go back to its source
unfoldable pub refuses : ℕ → List ℕ → Address → Refusal → Transition → Transition
refuses number bytes source refusal t = replies source bytes refusal.reply (noted (Drops number refusal.why) t)

abbrev pub after_inner_checks : ℕ → Option Shield → List ℕ → Packet → Result (Option Said) Refusal → Transition → Transition
after_inner_checks number shield bytes p (Err refusal) t = refuses number bytes p.head.source refusal t
after_inner_checks number shield bytes p (Ok message) t = by_role number true shield p message t

-- a packet from a tunnel is its own already, and has no routing header
abbrev pub inner_standing : Known → ℕ → Head → checks.AddressMatch
inner_standing k now head = record { is_mine = true; takes_route = true; holds = holds_option k.part.known now head.source head.home }

-- a packet from a tunnel: it is for the home address, straight, and protected where it carries a mobility message; then it
-- is checked as any packet is
unfoldable pub takes_inner : ℕ → Option Shield → List ℕ → Packet → Transition → Transition
takes_inner number shield bytes p t =
    if p.head.proto == ipv6 then noted (Drops number whys.Nested) t
    else if not (p.head.destination.0 == (home_of t.known).0) then noted (Drops number whys.Address) t
    else if is_some p.head.route then noted (Drops number whys.Route) t
    else if (p.head.proto == mobility_header) && is_none shield then noted (Drops number whys.Unshielded) t
    else after_inner_checks number shield bytes p (checked (inner_standing t.known t.now p.head) (place_in bytes p) p) t

-- a tunnel packet: it comes from the agent
abbrev pub opens_with : ℕ → Option Shield → List ℕ → Result Packet ExitFault → Transition → Transition
opens_with number shield bytes (Ok p) t = takes_inner number shield bytes p t
opens_with number shield bytes (Err NotTunnel) t = noted (Drops number whys.Entry) t
opens_with number shield bytes (Err (WrongEntry seen)) t = noted (Drops number whys.Entry) t
opens_with number shield bytes (Err (Inner fault)) t = noted (Drops number (packet_why fault)) t

abbrev pub opens_from : Option Address → ℕ → Option Shield → Packet → Transition → Transition
opens_from None number shield p t = noted (Drops number whys.Entry) t
opens_from (Some agent) number shield p t = opens_with number shield p.body (opened agent p) t

unfoldable pub opens : ℕ → Option Shield → Packet → Transition → Transition
opens number shield p t = opens_from (agent_of t.known t.now) number shield p t

abbrev pub after_checks : ℕ → Option Shield → List ℕ → Packet → Result (Option Said) Refusal → Transition → Transition
after_checks number shield bytes p (Err refusal) t = refuses number bytes p.head.source refusal t
after_checks number shield bytes p (Ok message) t =
    if p.head.proto == ipv6 then opens number shield p t else by_role number false shield p message t

-- its address: the home address at home, the care-of address away
abbrev pub is_address_of : Attachment → Address → Address → Bool
is_address_of Detached home address = false
is_address_of AtHome home address = address.0 == home.0
is_address_of (Away careof) home address = address.0 == careof.0

abbrev pub is_routed : Address → Option Address → Bool
is_routed home None = false
is_routed home (Some route) = route.0 == home.0

-- away, a routing header may name the home address
abbrev pub takes_route : Attachment → Address → Option Address → Bool
takes_route Detached home route = false
takes_route AtHome home route = false
takes_route (Away careof) home route = is_routed home route

abbrev pub standing_of : Known → ℕ → Head → checks.AddressMatch
standing_of k now head = record {
  is_mine = is_address_of k.standing (home_of k) head.destination;
  takes_route = takes_route k.standing (home_of k) head.route;
  holds = holds_option k.part.known now head.source head.home;
}

abbrev pub receives : ℕ → Option Shield → List ℕ → Result Packet NotPacket → Transition → Transition
receives number shield bytes (Err fault) t = noted (Drops number (packet_why fault)) t
receives number shield bytes (Ok p) t =
    after_checks number shield bytes p (checked (standing_of t.known t.now p.head) (place_in bytes p) p) t

-- a packet is handed to it
unfoldable pub takes : ℕ → Option Shield → List ℕ → Transition → Transition
takes number shield bytes t = receives number shield bytes (packet_of bytes) t
