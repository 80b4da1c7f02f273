-- What a home agent does about a packet: one rule a paragraph. RFC 6275 section 10
use Rattle.std.specs.Prelude.{ℕ, List, length, Bool, true, false, not, ◌&&◌, ◌||◌, ◌==◌, nat_lt, if◌then◌else◌, Option, Some, None, Result, Ok, Err}
use Rattle.std.specs.Option.{option_map_or}
use Rattle.mip_words.specs.Protocols.{ipv6, icmpv6, mobility_header}
use Rattle.mip_words.specs.Addresses.{prefix_of, joined_address}
use Rattle.mip_words.specs.declared.address.Address.{Address}
use Rattle.mip_words.specs.declared.shield.Shield.{Shield}
use Rattle.mip_words.specs.declared.why.Why.TheVariants as whys
use Rattle.mip_ipv6.specs.declared.head.Head.{Head}
use Rattle.mip_ipv6.specs.declared.not_packet.NotPacket.{NotPacket}
use Rattle.mip_ipv6.specs.Packet.{Packet, source_of, destination_of}
use Rattle.mip_ipv6.specs.Reading.{packet_of}
use Rattle.mip_icmp.specs.declared.fault.IcmpFault.{IcmpFault}
use Rattle.mip_icmp.specs.Said as icmp
use Rattle.mip_icmp.specs.Reading.{icmp_of}
use Rattle.mip_mobhdr.specs.Said.{Said}
use Rattle.mip_mobhdr.specs.Said.Said.{Update}
use Rattle.mip_ipv6.specs.Tunnel.{hop_of, encapsulated}
use Rattle.mip_outside.specs.declared.claim.Claim.{Claim}
use Rattle.mip_outside.specs.declared.claim.Claim.TheVariants.{Held}
use Rattle.mip_discovery.specs.Heard.{live}
use Rattle.mip_discovery.specs.Reply.{discovery_reply}
use Rattle.mip_reception.specs.declared.refusal.Refusal.{Refusal}
use Rattle.mip_reception.specs.declared.address_match.AddressMatch.{AddressMatch}
use Rattle.mip_reception.specs.Words.{packet_why}
use Rattle.mip_reception.specs.Checks.{checked}
pub use Rattle.mip_reception.specs.Checks.{place_in}
use Rattle.mip_reception.specs.Replies.{reply_packet}
use Rattle.mip_reception.specs.declared.registration.Registration.{Registration}
use Rattle.mip_reception.specs.Registrations.{registration, home_of, deletes}
use Rattle.mip_reception.specs.Acks.{ack_packet}
use Rattle.mip_reception.specs.Statuses as statuses
use Rattle.mip_rules_agent.specs.declared.bench.Bench.{Bench}
use Rattle.mip_rules_agent.specs.declared.identity.Identity.{Identity}
use Rattle.mip_rules_agent.specs.declared.home_binding.HomeBinding.{HomeBinding}
use Rattle.mip_rules_agent.specs.declared.home_verdict.HomeVerdict.{HomeVerdict}
use Rattle.mip_rules_agent.specs.declared.home_verdict.HomeVerdict.TheVariants.{Refuse, Deny, Accept}
use Rattle.mip_rules_agent.specs.Known.{Known}
use Rattle.mip_rules_agent.specs.Steps.{Sends, Registers, Claims, Releases, Denies, Drops}
use Rattle.mip_rules_agent.specs.Questions.{kept_of, careof_at, holds, is_served, is_full, valid_at, preferred_at}
use Rattle.mip_rules_agent.specs.Transitions.{Transition, noted}
use Rattle.mip_rules_agent.specs.Verdicts.{is_from, verdict, binding_for}
use Rattle.mip_rules_agent.specs.Messages.{shield_to, prefix_packet}

-- the handing of a packet: to whom, when, by what it knows then, and with which number, shield and bytes
pub record Handing : Type 0 where
  pub me : Identity
  pub now : ℕ
  pub known : Known
  pub number : ℕ
  pub shield : Option Shield
  pub bytes : List ℕ
  -- what the place answers to a claim of its home address
  pub claim : Claim

-- a packet to a registered home goes to its care-of address in a tunnel, under the shield of agent and home where it
-- has a mobility message. RFC 6275 sections 10.4.1 and 10.4.2
abbrev pub shield_for : (own home : Address) → ℕ → Option Shield
shield_for own home proto = if proto == mobility_header then shield_to own home else None

unfoldable pub intercepts : Handing → (home careof : Address) → ℕ → Transition → Transition
intercepts h home careof proto t =
    if nat_lt (hop_of h.bytes) 2 then noted (Drops h.number whys.Hop) t
    else if nat_lt 65535 (length h.bytes) then noted (Drops h.number whys.Size) t
    else noted (Sends (shield_for h.me.own home proto) (encapsulated h.me.own careof h.bytes)) t

-- this is the registered care-of address of a home
abbrev pub is_careof : Known → ℕ → Address → Address → Bool
is_careof k now home careof = option_map_or (λ a. a.0 == careof.0) (careof_at k now home) false

-- a packet out of the tunnel of a registered home goes on as it is; not where it is for the agent itself, or has a
-- mobility message and did not come under the shield of the home. RFC 6275 section 10.4.5
abbrev pub sends_on : Handing → (outer inner : Packet) → Transition → Transition
sends_on h outer q t =
    if not (is_careof h.known h.now q.head.source outer.head.source) then noted (Drops h.number whys.Entry) t
    else if q.head.destination.0 == h.me.own.0 then noted (Drops h.number whys.Nested) t
    else if (q.head.proto == mobility_header) && not (is_from q.head.source h.shield) then noted (Drops h.number whys.Unshielded) t
    else noted (Sends None outer.body) t

abbrev pub opens : Handing → Packet → Result Packet NotPacket → Transition → Transition
opens h outer (Err fault) t = noted (Drops h.number (packet_why fault)) t
opens h outer (Ok q) t = sends_on h outer q t

unfoldable pub takes_tunnel : Handing → Packet → Transition → Transition
takes_tunnel h outer t = opens h outer (packet_of outer.body) t

-- an update is judged by what is kept of its home
abbrev pub bench : Identity → Known → ℕ → Registration → Bench
bench me k now r = record {
  own = me.own;
  valid = valid_at k now;
  served = is_served k (home_of r);
  kept = kept_of k (home_of r);
  full = is_full me.room k now (home_of r);
}

-- an address that the agent has claimed is its own
abbrev pub claim_with : Bool → Claim → Claim
claim_with held claim = if held then Held else claim

-- the acknowledgement goes under the shield of agent and home. RFC 6275 section 10.3.1
unfoldable pub acknowledges : Identity → Registration → (status sequence lifetime : ℕ) → Transition → Transition
acknowledges me r status sequence lifetime t =
    noted (Sends (shield_to me.own (home_of r)) (ack_packet me.own r status sequence lifetime None)) t

-- an update that was denied is always answered
unfoldable pub denies : Handing → Registration → (status last : ℕ) → Transition → Transition
denies h r status last t = acknowledges h.me r status last 0 (noted (Denies h.number status) t)

-- the address of a home is claimed as long as the home is registered. RFC 6275 sections 10.3.1, 10.3.2 and 10.4.1
abbrev pub claims_if : (held ends : Bool) → Address → Transition → Transition
claims_if true true home t = noted (Releases home) t
claims_if true false home t = t
claims_if false true home t = t
claims_if false false home t = noted (Claims home) t

-- one that was accepted is answered where flag A asks for it
abbrev pub answers_if : Bool → Identity → Registration → ℕ → Transition → Transition
answers_if true me r granted t = acknowledges me r statuses.accepted r.sequence granted t
answers_if false me r granted t = t

unfoldable pub accepts : Handing → Registration → (held : Bool) → Address → HomeBinding → ℕ → Transition → Transition
accepts h r held home b granted t =
    answers_if r.ack h.me r granted (claims_if held (deletes r) home (noted (Registers h.number home b) t))

abbrev pub judged : Handing → Registration → (held : Bool) → HomeVerdict → Transition → Transition
judged h r held (Refuse why) t = noted (Drops h.number why) t
judged h r held (Deny status last) t = denies h r status last t
judged h r held (Accept home careof sequence granted) t = accepts h r held home (binding_for h.now careof sequence granted) granted t

-- a Binding Update. RFC 6275 sections 10.3.1 and 10.3.2
unfoldable pub takes_update : Handing → Registration → Transition → Transition
takes_update h r t =
    let held : Bool = holds h.known (home_of r) in
    judged h r held (verdict (bench h.me h.known h.now r) h.shield (claim_with held h.claim) r) t

-- a request for the home agents of the link is answered by the list of them. RFC 6275 section 10.5
unfoldable pub names_agents : Handing → Address → ℕ → Transition → Transition
names_agents h to identifier t =
    noted (Sends None (discovery_reply h.me.own h.me.preference to identifier (live h.now h.known.agents.agents))) t

-- a prefix advertisement to a registered home
unfoldable pub advertises : (own : Address) → Known → ℕ → (home careof : Address) → ℕ → Transition → Transition
advertises own k now home careof identifier t =
    noted (Sends (shield_to own home) (prefix_packet own home careof identifier (valid_at k now) (preferred_at k now))) t

-- a prefix solicitation is answered where it came from a registered home, under its shield. RFC 6275 section 10.6.2
abbrev pub answers_solicitation : Handing → Address → ℕ → Option Address → Transition → Transition
answers_solicitation h home identifier None t = noted (Drops h.number whys.Role) t
answers_solicitation h home identifier (Some careof) t =
    if is_from home h.shield then advertises h.me.own h.known h.now home careof identifier t else noted (Drops h.number whys.Role) t

abbrev pub takes_icmp : Handing → Packet → Result icmp.Said IcmpFault → Transition → Transition
takes_icmp h p (Ok (icmp.DiscoverAsk identifier)) t = names_agents h p.head.source identifier t
takes_icmp h p (Ok (icmp.PrefixAsk identifier)) t =
    answers_solicitation h (source_of p.head) identifier (careof_at h.known h.now (source_of p.head)) t
takes_icmp h p _ t = noted (Drops h.number whys.Role) t

-- a tunnel ends at the agent's own address alone
abbrev pub by_proto : Handing → Packet → Transition → Transition
by_proto h p t =
    if (p.head.proto == ipv6) && (p.head.destination.0 == h.me.own.0) then takes_tunnel h p t
    else if p.head.proto == icmpv6 then takes_icmp h p (icmp_of (source_of p.head) (destination_of p.head) p.body) t
    else noted (Drops h.number whys.Role) t

abbrev pub by_role : Handing → Packet → Option Said → Transition → Transition
by_role h p None t = by_proto h p t
by_role h p (Some (Update s a f l k t' o)) t = takes_update h (registration p.head.source p.head.home s a f t' o) t
by_role h p (Some other) t = noted (Drops h.number whys.Role) t

-- a packet is refused, and something may go back to its source. RFC 6275 sections 9.2 and 9.3.3
abbrev pub replies : Option (List ℕ) → Transition → Transition
replies None t = t
replies (Some packet) t = noted (Sends None packet) t

unfoldable pub refuses : Handing → Address → Refusal → Transition → Transition
refuses h source refusal t = replies (reply_packet h.me.own source h.bytes refusal.reply) (noted (Drops h.number refusal.why) t)

-- the home-agents anycast address of its prefix. RFC 2526 section 3
abbrev pub anycast_of : Address → ℕ
anycast_of own = joined_address (prefix_of own.0) 18302628885633695742

-- a registered home has its care-of address at the source
abbrev pub holds_option : Known → ℕ → Address → Option Address → Bool
holds_option k now source None = false
holds_option k now source (Some home) = is_careof k now home source

abbrev pub standing_of : Identity → Known → ℕ → Head → AddressMatch
standing_of me k now head = record {
  is_mine = (head.destination.0 == me.own.0) || (head.destination.0 == anycast_of me.own);
  takes_route = false;
  holds = holds_option k now head.source head.home;
}

abbrev pub after_checks : Handing → Packet → Result (Option Said) Refusal → Transition → Transition
after_checks h p (Err refusal) t = refuses h p.head.source refusal t
after_checks h p (Ok message) t = by_role h p message t

-- what is sent to a registered home is caught before all checks
abbrev pub by_destination : Handing → Packet → Option Address → Transition → Transition
by_destination h p (Some careof) t = intercepts h p.head.destination careof p.head.proto t
by_destination h p None t = after_checks h p (checked (standing_of h.me h.known h.now p.head) (place_in h.bytes p) p) t

abbrev pub receives : Handing → Result Packet NotPacket → Transition → Transition
receives h (Err fault) t = noted (Drops h.number (packet_why fault)) t
receives h (Ok p) t = by_destination h p (careof_at h.known h.now p.head.destination) t
