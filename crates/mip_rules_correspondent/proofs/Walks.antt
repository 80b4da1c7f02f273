-- What each step of a rule keeps, a whole call keeps; and each packet that a step sends is one of those that a correspondent
-- sends.
use Rattle.std.proofs.Common.{◌≡◌, ℕ, List, refl}
use Rattle.std.specs.Prelude.{Option, Some, None, Bool, true, false, if◌then◌else◌, Result, Ok, Err}
use Rattle.mip_words.specs.declared.address.Address.{Address}
use Rattle.mip_ipv6.specs.Packet.{Packet}
use Rattle.mip_ipv6.specs.Reading.{packet_of}
use Rattle.mip_ipv6.specs.declared.not_packet.NotPacket.{NotPacket}
use Rattle.mip_mobhdr.specs.Said.{Said}
use Rattle.mip_mobhdr.specs.Said.Said.{Refresh, HomeInit, CareofInit, Update}
use Rattle.mip_reception.specs.Says.{message_in}
use Rattle.mip_reception.specs.declared.refusal.Refusal.{Refusal}
use Rattle.mip_reception.specs.declared.reply.Reply.{Reply}
use Rattle.mip_reception.specs.Checks.{checked}
use Rattle.mip_reception.specs.Replies.{reply_packet}
use Rattle.mip_reception.specs.Words.{packet_why}
use Rattle.mip_reception.proofs.Reasons.{RefusesRight as Refuses, packet_why-dropped, checked-right}
use Rattle.mip_rules_correspondent.specs.declared.identity.Identity.{Identity}
use Rattle.mip_reception.specs.declared.registration.Registration.{Registration}
use Rattle.mip_rules_correspondent.specs.declared.verdict.Verdict.{Verdict}
use Rattle.mip_rules_correspondent.specs.declared.verdict.Verdict.TheVariants.{Refuse, Deny, Accept}
use Rattle.mip_rules_correspondent.specs.Calls as calls
use Rattle.mip_rules_correspondent.specs.Calls.{Call}
use Rattle.mip_rules_correspondent.specs.Steps.{Step, Called, Sends, Accepts, Denies, Drops, Idles, is_call}
use Rattle.mip_rules_correspondent.specs.Questions.{held_of}
use Rattle.mip_rules_correspondent.specs.Transitions.{Transition, noted}
use Rattle.mip_reception.specs.Registrations.{registration}
use Rattle.mip_rules_correspondent.specs.Verdicts.{verdict}
use Rattle.mip_reception.specs.Acks.{ack_packet}
use Rattle.mip_rules_correspondent.specs.Rules.{answers_home_init, answers_careof_init, bench, denies, accepts, judged, takes_update, hands_up, by_message, is_for_part, other_why, by_role, replies, refuses, standing_of, after_checks, place_in, receives}
use Rattle.mip_rules_correspondent.specs.Doing.{takes, parts, request_refresh, refreshes, transmits, handles, does}
use Rattle.mip_rules_correspondent.proofs.Reasons.{RefusesRight, verdict-right, other_why-dropped}
use Rattle.mip_rules_correspondent.specs.Sendings.{SendsHomeTest, SendsCareofTest, SendsAck, SendsReply, SendsRefresh, SendsData, SendsOwn}

module _ (me : Identity) (c : Call) (P : Transition → Type 0) (more : (step : Step) (t : Transition) → is_call step ≡ false → SendsOwn me c t.now step → P t → P (noted step t)) where
  every-judged : (number : ℕ) (r : Registration) (v : Verdict) → RefusesRight v → (t : Transition) → P t → P (judged me number r v t)
  unfolding denies accepts
  every-judged number r (Refuse why) right t p = more (Drops number why) t refl right p
  every-judged number r (Deny status last kbm) right t p = more (Sends (ack_packet me.own r status last 0 kbm)) (noted (Denies number status) t) refl (SendsAck r status last 0 kbm, refl) (more (Denies number status) t refl tt p)
  every-judged number r (Accept home binding accepted granted kbm) right t p = by r.ack (more (Accepts number home binding accepted) t refl tt p)
    where
      by : (ack : Bool) → P (noted (Accepts number home binding accepted) t) → P (if ack then noted (Sends (ack_packet me.own r 0 r.sequence granted (Some kbm))) (noted (Accepts number home binding accepted) t) else noted (Accepts number home binding accepted) t)
      by true q = more (Sends (ack_packet me.own r 0 r.sequence granted (Some kbm))) (noted (Accepts number home binding accepted) t) refl (SendsAck r 0 r.sequence granted (Some kbm), refl) q
      by false q = q

  every-message : (number : ℕ) (packet : Packet) (message : Option Said) (t : Transition) → P t → P (by_message me number packet message t)
  unfolding hands_up answers_home_init answers_careof_init takes_update
  every-message number packet None t p = more _ t refl tt p
  every-message number packet (Some (HomeInit cookie options)) t p = more _ t refl (SendsHomeTest packet.head.source cookie, refl) p
  every-message number packet (Some (CareofInit cookie options)) t p = more _ t refl (SendsCareofTest packet.head.source cookie, refl) p
  every-message number packet (Some (Update s a h l k t' o)) t p =
      let r = registration packet.head.source packet.head.home s a h t' o in
      every-judged number r (verdict (bench me t.known t.now r) r packet.body) (verdict-right (bench me t.known t.now r) r packet.body) t p
  every-message number packet (Some _) t p = p

  every-role : (number : ℕ) (packet : Packet) (message : Option Said) (t : Transition) → P t → P (by_role me number packet message t)
  unfolding by_role
  every-role number packet message t p = by (is_for_part packet.head.proto message) (every-message number packet message t p)
    where
      by : (mine : Bool) → P (by_message me number packet message t) → P (if mine then by_message me number packet message t else noted (Drops number (other_why packet.head.proto)) t)
      by true q = q
      by false q = more (Drops number (other_why packet.head.proto)) t refl (other_why-dropped packet.head.proto) p

  every-replies : (source : Address) (bytes : List ℕ) (back : Reply) (reply : Option (List ℕ)) → reply_packet me.own source bytes back ≡ reply → (t : Transition) → P t → P (replies reply t)
  every-replies source bytes back None is t p = p
  every-replies source bytes back (Some packet) is t p = more (Sends packet) t refl (SendsReply source bytes back, is) p

  every-checks : (number : ℕ) (bytes : List ℕ) (packet : Packet) (r : Result (Option Said) Refusal) → Refuses r → (t : Transition) → P t → P (after_checks me number bytes packet r t)
  unfolding refuses
  every-checks number bytes packet (Err refusal) right t p =
      every-replies packet.head.source bytes refusal.reply (reply_packet me.own packet.head.source bytes refusal.reply) refl
      (noted (Drops number refusal.why) t) (more (Drops number refusal.why) t refl right p)
  every-checks number bytes packet (Ok message) right t p = every-role number packet message t p

  every-receives : (number : ℕ) (bytes : List ℕ) (r : Result Packet NotPacket) (t : Transition) → P t → P (receives me number bytes r t)
  every-receives number bytes (Err fault) t p = more (Drops number (packet_why fault)) t refl (packet_why-dropped fault) p
  every-receives number bytes (Ok packet) t p =
      let standing = standing_of me t.known t.now packet.head in
      every-checks number bytes packet (checked standing (place_in bytes packet) packet) (checked-right standing (place_in bytes packet) packet) t p

  every-refresh : (home : Address) (held : Option Address) (t : Transition) → P t → P (request_refresh me home held t)
  every-refresh home None t p = more Idles t refl tt p
  every-refresh home (Some careof) t p = more _ t refl (SendsRefresh home careof, refl) p

  pub every-handles : (call : Call) → c ≡ call → (t : Transition) → P t → P (handles me call t)
  unfolding takes parts refreshes transmits
  every-handles (calls.Take number shield bytes) is t p = every-receives number bytes (packet_of bytes) t p
  every-handles (calls.Part number packet) is t p = every-message number packet (message_in packet) t p
  every-handles calls.Tick is t p = p
  every-handles (calls.Refresh home) is t p = every-refresh home (held_of t.known t.now home) t p
  every-handles (calls.Send to proto payload) is t p = more _ t refl (SendsData to proto payload (held_of t.known t.now to), (is, refl)) p

  module _ (called : (t : Transition) → P t → P (noted (Called c) t)) where
    pub every-call : (t : Transition) → P t → P (does me c t)
    unfolding does
    every-call t p = every-handles c refl (noted (Called c) t) (called t p)
