-- Laws of what counts of the packets that are handed to a mobile; what does not is refused.
-- RFC 6275 sections 6.4, 11.3.3, 11.3.6, 11.4.1, 11.4.3, 11.6.2, 11.7.3 and 11.7.4
use Rattle.std.specs.Prelude.{◌≡◌, ◌≢◌, ℕ, ◌≤◌, ◌<◌, List, Bool, true, false, ◌⊎◌, Option, Some, None, Ok, is_some, unwrap_or}
use Rattle.std.specs.List.{list_any}
use Rattle.mip_words.specs.declared.address.Address.{Address}
use Rattle.mip_words.specs.declared.moment.Moment.{Moment}
use Rattle.mip_words.specs.declared.shield.Shield.{Shield}
use Rattle.mip_ipv6.specs.declared.head.Head.{Head}
use Rattle.mip_ipv6.specs.Packet.{Packet, source_of}
use Rattle.mip_ipv6.specs.Reading.{packet_of}
use Rattle.mip_mobhdr.specs.Said.{Said}
use Rattle.mip_mobhdr.specs.Said.Said.{Refresh, HomeTest, CareofTest, Acknowledgement, Error}
use Rattle.mip_icmp.specs.Said as icmp
use Rattle.mip_discovery.specs.Retries.{DiscoverySeen}
use Rattle.mip_tokens.specs.Token.{is_authentic}
use Rattle.mip_bulist.specs.declared.any.Any.TheVariants.{Pending}
use Rattle.mip_bulist.specs.declared.state.Pending as pending
use Rattle.mip_bulist.specs.declared.trial.Trial.{Trial}
use Rattle.mip_rules_mobile.specs.declared.attachment.Attachment.{Attachment}
use Rattle.mip_rules_mobile.specs.declared.attachment.Attachment.TheVariants.{AtHome, Away}
use Rattle.mip_rules_mobile.specs.declared.registered.Registered.{Registered}
use Rattle.mip_rules_mobile.specs.declared.home_update.HomeUpdate.{HomeUpdate}
use Rattle.mip_rules_mobile.specs.Trials.{last_made, binds_to}
use Rattle.mip_rules_mobile.specs.Steps.{Step}
use Rattle.mip_rules_mobile.specs.Known.{Known}
use Rattle.mip_rules_mobile.specs.HomeQuestions.{home_of}
use Rattle.mip_rules_mobile.specs.RowQuestions.{row_of, trial_of}
use Rattle.mip_rules_mobile.specs.Wording.{bound_at}
use Rattle.mip_rules_mobile.specs.Refusing.{is_refusal}

-- a packet is dropped, or the update in it is denied; or else this is true of it
abbrev pub AreRefusingUnless : List Step → Type 0 → Type 0
AreRefusingUnless steps right = (list_any is_refusal steps ≡ true) ⊎ right

-- a packet is for a mobile that stands there: at home, where it is for the home address and has no routing header; away, where
-- it is for the care-of address, and a routing header names the home address
pub data IsFor (home : Address) (s : Attachment) (head : Head) : Type 0 where
  Home : s ≡ AtHome → head.destination.0 ≡ home.0 → head.route ≡ None → IsFor home s head
  Careof : (careof : Address) → s ≡ Away careof → head.destination.0 ≡ careof.0
      → ((route : Address) → head.route ≡ Some route → route.0 ≡ home.0) → IsFor home s head

-- the mobile's agent: that of its registration before its end, or where its last home registration went
abbrev pub IsAgent : Option Registered → (last : Option Address) → (now : ℕ) → Address → Type 0
IsAgent registered last now agent = ((r : Registered) × (registered ≡ Some r) × (now < r.end.0) × (r.agent ≡ agent)) ⊎ (last ≡ Some agent)

-- a tunnel packet is from the agent; in it is a packet for the home address, straight, that is no tunnel packet, and came
-- under a shield where it has a mobility message
pub record IsOfTunnel (home : Address) (registered : Option Registered) (last : Option Address) (now : ℕ) (shield : Option Shield) (outer : Packet) : Type 0 where
  pub agent : Address
  pub of : IsAgent registered last now agent
  pub from : outer.head.source.0 ≡ agent.0
  pub packet : Packet
  pub inside : packet_of outer.body ≡ Ok packet
  pub single : packet.head.proto ≢ 41
  pub mine : packet.head.destination.0 ≡ home.0
  pub straight : packet.head.route ≡ None
  pub shielded : packet.head.proto ≡ 135 → is_some shield ≡ true

-- the packet that is handled: the one that is handed over, or the one in it where that is a tunnel packet
pub data IsHandled (bytes : List ℕ) (packet : Packet) : (tunnelled : Bool) → Type 0 where
  Itself : packet_of bytes ≡ Ok packet → packet.head.proto ≢ 41 → IsHandled bytes packet false
  Within : (outer : Packet) → packet_of bytes ≡ Ok outer → outer.head.proto ≡ 41 → packet_of outer.body ≡ Ok packet → IsHandled bytes packet true

-- an agent's acknowledgement: in no tunnel, under a shield, from the agent to which the last home registration or
-- deregistration was sent, with its sequence or with status 135; at home, of a deregistration
pub record IsOfLatest (s : Attachment) (latest : Option HomeUpdate) (tunnelled : Bool) (shield : Option Shield) (source : Address) (status sequence : ℕ) : Type 0 where
  pub straight : tunnelled ≡ false
  pub shielded : is_some shield ≡ true
  pub update : HomeUpdate
  pub last : latest ≡ Some update
  pub from : source.0 ≡ update.agent.0
  pub answers : (sequence ≡ update.sequence) ⊎ (status ≡ 135)
  pub there : s ≡ AtHome → update.deletes ≡ true

-- a peer's acknowledgement: it has an authenticator under the key of the last update, or tells without one that nonces expired,
-- by status 136 to 138; and it has the sequence of that update, or status 135
pub record IsOfPending (home : Address) (status sequence : ℕ) (authenticator : Option (List ℕ)) (message : List ℕ) (u : Trial pending.Pending) : Type 0 where
  pub trusted : ((is_some authenticator ≡ true) × (is_authentic (last_made u).kbm.0 (unwrap_or (binds_to u) home) u.peer message ≡ true))
      ⊎ ((authenticator ≡ None) × (136 ≤ status) × (status ≤ 138))
  pub answers : (sequence ≡ (last_made u).sequence) ⊎ (status ≡ 135)

abbrev pub IsOfPeer : Known → Packet → (status sequence : ℕ) → Option (List ℕ) → Type 0
IsOfPeer k packet status sequence authenticator =
    (row : ℕ) × (u : Trial pending.Pending) × (row_of k (source_of packet.head) ≡ Some row) × (trial_of k row ≡ Some (Pending u))
    × IsOfPending (home_of k) status sequence authenticator packet.body u

-- the peer has the mobile's binding: its end lies ahead
abbrev pub IsBoundPeer : Known → (now : ℕ) → Address → Type 0
IsBoundPeer k now peer = (row : ℕ) × (end : Moment) × (row_of k peer ≡ Some row) × (bound_at k row ≡ Some end) × (now < end.0)

-- which messages count: away, a Home Test in a tunnel and a Care-of Test in none; an acknowledgement of the last update to an agent
-- or a peer; a Binding Error with status 1 that names the home, and a refresh request, of a peer that has the binding
abbrev pub IsHeeded : Known → (now : ℕ) → (tunnelled : Bool) → Option Shield → Packet → Said → Type 0
IsHeeded k now tunnelled shield packet (HomeTest index cookie token options) = (careof : Address) → k.standing ≡ Away careof → tunnelled ≡ true
IsHeeded k now tunnelled shield packet (CareofTest index cookie token options) = (careof : Address) → k.standing ≡ Away careof → tunnelled ≡ false
IsHeeded k now tunnelled shield packet (Acknowledgement status key sequence lifetime options) =
    IsOfLatest k.standing k.latest tunnelled shield (source_of packet.head) status sequence ⊎ IsOfPeer k packet status sequence options.authorization
IsHeeded k now tunnelled shield packet (Error status home options) =
    (status ≡ 1) × (home.0 ≡ (home_of k).0) × IsBoundPeer k now (source_of packet.head)
IsHeeded k now tunnelled shield packet (Refresh options) = IsBoundPeer k now (source_of packet.head)
IsHeeded k now tunnelled shield packet _ = Unit {0}

-- which ICMPv6 messages count: away, a reply to the discovery that runs, with its identifier; prefixes under the agent's shield
abbrev pub IsIcmpHeeded : Known → (now : ℕ) → Option Shield → icmp.Said → Type 0
IsIcmpHeeded k now shield (icmp.DiscoverReply identifier agents) =
    ((careof : Address) × (k.standing ≡ Away careof)) × ((d : DiscoverySeen) × (k.discovery ≡ Some d) × (identifier ≡ d.identifier))
IsIcmpHeeded k now shield (icmp.PrefixReply identifier options) =
    (s : Shield) × (shield ≡ Some s) × (agent : Address) × IsAgent k.registered k.agent now agent × (s.from.0 ≡ agent.0)
IsIcmpHeeded k now shield _ = ⊥
