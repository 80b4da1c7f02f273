-- What a correspondent does about a packet: one rule a paragraph. RFC 6275 section 9
use Rattle.std.specs.Prelude.{ℕ, List, Bool, true, false, not, ◌&&◌, ◌==◌, if◌then◌else◌, Option, Some, None, Result, Ok, Err}
use Rattle.mip_words.specs.Protocols.{ipv6, icmpv6, no_next_header, mobility_header}
use Rattle.mip_words.specs.declared.address.Address.{Address}
use Rattle.mip_words.specs.declared.why.Why.{Why}
use Rattle.mip_words.specs.declared.why.Why.TheVariants as whys
use Rattle.mip_ipv6.specs.declared.head.Head.{Head}
use Rattle.mip_ipv6.specs.declared.not_packet.NotPacket.{NotPacket}
use Rattle.mip_ipv6.specs.Packet.{Packet, source_of, destination_of}
use Rattle.mip_mobhdr.specs.Said.{Said}
use Rattle.mip_mobhdr.specs.Said.Said.{HomeInit, CareofInit, Update}
use Rattle.mip_nonce.specs.Secrets.{kcn_of, nonce_of}
use Rattle.mip_nonce.specs.Window.{current_of, index_of}
use Rattle.mip_tokens.specs.Token.{home_token_of, careof_token_of}
use Rattle.mip_tokens.specs.declared.kbm.Kbm.{Kbm}
use Rattle.mip_bcache.specs.declared.accepted.Accepted.{Accepted}
use Rattle.mip_reception.specs.Messages.{home_test_packet, careof_test_packet}
use Rattle.mip_reception.specs.declared.refusal.Refusal.{Refusal}
use Rattle.mip_reception.specs.declared.address_match.AddressMatch.{AddressMatch}
use Rattle.mip_reception.specs.Words.{packet_why}
use Rattle.mip_reception.specs.Checks.{checked}
pub use Rattle.mip_reception.specs.Checks.{place_in}
use Rattle.mip_reception.specs.Replies.{reply_packet}
use Rattle.mip_rules_correspondent.specs.declared.identity.Identity.{Identity}
use Rattle.mip_rules_correspondent.specs.declared.known.Known.{Known}
use Rattle.mip_reception.specs.declared.registration.Registration.{Registration}
use Rattle.mip_rules_correspondent.specs.declared.verdict.Verdict.{Verdict}
use Rattle.mip_rules_correspondent.specs.declared.verdict.Verdict.TheVariants.{Refuse, Deny, Accept}
use Rattle.mip_rules_correspondent.specs.Steps.{Sends, Accepts, Denies, Drops, HandsUp}
use Rattle.mip_rules_correspondent.specs.Questions.{holds_for, floor_of, is_full_for}
use Rattle.mip_rules_correspondent.specs.Transitions.{Transition, noted}
use Rattle.mip_reception.specs.Registrations.{registration, home_of}
use Rattle.mip_rules_correspondent.specs.Verdicts.{Bench, verdict}
use Rattle.mip_reception.specs.Acks.{ack_packet}
use Rattle.mip_reception.specs.Statuses as statuses

-- the Home Test: the cookie comes back, with the index of the newest nonce and the home keygen token of the source under
-- it. RFC 6275 sections 5.2.5, 6.1.5 and 9.4.3
abbrev pub home_test : Identity → ℕ → Address → ℕ → List ℕ
home_test me now source cookie =
    home_test_packet me.own source (index_of (current_of now)) cookie (home_token_of (kcn_of me.secrets) source (nonce_of me.secrets (current_of now)))

-- a Home Test Init is answered by a Home Test, from the correspondent's address to the source. RFC 6275 section 9.4.1
unfoldable pub answers_home_init : Identity → Address → ℕ → Transition → Transition
answers_home_init me source cookie t = noted (Sends (home_test me t.now source cookie)) t

-- the Care-of Test, with the care-of keygen token. RFC 6275 sections 5.2.5, 6.1.6 and 9.4.4
abbrev pub careof_test : Identity → ℕ → Address → ℕ → List ℕ
careof_test me now source cookie =
    careof_test_packet me.own source (index_of (current_of now)) cookie (careof_token_of (kcn_of me.secrets) source (nonce_of me.secrets (current_of now)))

-- a Care-of Test Init is answered by a Care-of Test. RFC 6275 section 9.4.2
unfoldable pub answers_careof_init : Identity → Address → ℕ → Transition → Transition
answers_careof_init me source cookie t = noted (Sends (careof_test me t.now source cookie)) t

-- an update is judged by what is kept of its home
abbrev pub bench : Identity → Known → ℕ → Registration → Bench
bench me k now r = record {
  own = me.own;
  secrets = me.secrets;
  now = now;
  floor = floor_of k now (home_of r);
  full = is_full_for k now (home_of r);
  numbers = k.cache.numbers;
}

-- an update that was denied is always answered
unfoldable pub denies : Identity → ℕ → Registration → (status last : ℕ) → Option Kbm → Transition → Transition
denies me number r status last kbm t = noted (Sends (ack_packet me.own r status last 0 kbm)) (noted (Denies number status) t)

-- one that was accepted is answered where flag A asks for it. RFC 6275 section 9.5.4
abbrev pub acknowledges : Identity → Registration → ℕ → Kbm → Transition → Transition
acknowledges me r granted kbm t =
    if r.ack then noted (Sends (ack_packet me.own r statuses.accepted r.sequence granted (Some kbm))) t else t

unfoldable pub accepts : Identity → ℕ → Registration → Address → ℕ → Accepted → ℕ → Kbm → Transition → Transition
accepts me number r home binding accepted granted kbm t = acknowledges me r granted kbm (noted (Accepts number home binding accepted) t)

abbrev pub judged : Identity → ℕ → Registration → Verdict → Transition → Transition
judged me number r (Refuse why) t = noted (Drops number why) t
judged me number r (Deny status last kbm) t = denies me number r status last kbm t
judged me number r (Accept home binding accepted granted kbm) t = accepts me number r home binding accepted granted kbm t

-- a Binding Update. RFC 6275 section 9.5.1
unfoldable pub takes_update : Identity → ℕ → Registration → List ℕ → Transition → Transition
takes_update me number r message t = judged me number r (verdict (bench me t.known t.now r) r message) t

-- data is handed up from and to home addresses. RFC 6275 sections 9.3.1 and 6.4
unfoldable pub hands_up : ℕ → Packet → Transition → Transition
hands_up number p t = noted (HandsUp number (source_of p.head) (destination_of p.head) p.head.proto p.body) t

-- data is what is neither a tunnel, nor ICMPv6, nor nothing, nor a mobility message
abbrev pub is_data : ℕ → Bool
is_data proto = not (proto == ipv6) && not (proto == icmpv6) && not (proto == no_next_header) && not (proto == mobility_header)

-- the correspondent part: test inits, updates and data
abbrev pub by_message : Identity → ℕ → Packet → Option Said → Transition → Transition
by_message me number p None t = hands_up number p t
by_message me number p (Some (HomeInit cookie options)) t = answers_home_init me p.head.source cookie t
by_message me number p (Some (CareofInit cookie options)) t = answers_careof_init me p.head.source cookie t
by_message me number p (Some (Update s a h l k t' o)) t = takes_update me number (registration p.head.source p.head.home s a h t' o) p.body t
by_message me number p (Some other) t = t

-- what is for the correspondent part
abbrev pub is_for_part : ℕ → Option Said → Bool
is_for_part proto None = is_data proto
is_for_part proto (Some (HomeInit cookie options)) = true
is_for_part proto (Some (CareofInit cookie options)) = true
is_for_part proto (Some (Update s a h l k t o)) = true
is_for_part proto (Some other) = false

-- what is not: a tunnel packet, other messages, ICMPv6, nothing
abbrev pub other_why : ℕ → Why
other_why proto = if proto == icmpv6 then whys.Icmp else if proto == no_next_header then whys.NoNext else whys.Role

unfoldable pub by_role : Identity → ℕ → Packet → Option Said → Transition → Transition
by_role me number p message t =
    if is_for_part p.head.proto message then by_message me number p message t
    else noted (Drops number (other_why p.head.proto)) t

-- a packet is refused, and something may go back to its source. RFC 6275 sections 9.2 and 9.3.3
abbrev pub replies : Option (List ℕ) → Transition → Transition
replies None t = t
replies (Some packet) t = noted (Sends packet) t

unfoldable pub refuses : Identity → ℕ → List ℕ → Address → Refusal → Transition → Transition
refuses me number bytes source refusal t =
    replies (reply_packet me.own source bytes refusal.reply) (noted (Drops number refusal.why) t)

-- a binding from this home address to the source stands
abbrev pub holds_option : Known → ℕ → Address → Option Address → Bool
holds_option k now source None = false
holds_option k now source (Some home) = holds_for k now home source

abbrev pub standing_of : Identity → Known → ℕ → Head → AddressMatch
standing_of me k now head = record {
  is_mine = head.destination.0 == me.own.0;
  takes_route = false;
  holds = holds_option k now head.source head.home;
}

abbrev pub after_checks : Identity → ℕ → List ℕ → Packet → Result (Option Said) Refusal → Transition → Transition
after_checks me number bytes p (Err refusal) t = refuses me number bytes p.head.source refusal t
after_checks me number bytes p (Ok message) t = by_role me number p message t

abbrev pub receives : Identity → ℕ → List ℕ → Result Packet NotPacket → Transition → Transition
receives me number bytes (Err fault) t = noted (Drops number (packet_why fault)) t
receives me number bytes (Ok p) t =
    after_checks me number bytes p (checked (standing_of me t.known t.now p.head) (place_in bytes p) p) t
