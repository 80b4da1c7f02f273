-- The packets that a correspondent sends, one kind a line. RFC 6275 sections 9.3 to 9.5
use Rattle.std.specs.Prelude.{◌≡◌, ℕ, List, true, Option, Some}
use Rattle.mip_words.specs.declared.address.Address.{Address}
use Rattle.mip_tokens.specs.declared.kbm.Kbm.{Kbm}
use Rattle.mip_entries.specs.Reasons.{is_dropped_why}
use Rattle.mip_reception.specs.Messages.{refresh_packet}
use Rattle.mip_reception.specs.declared.reply.Reply.{Reply}
use Rattle.mip_reception.specs.Replies.{reply_packet}
use Rattle.mip_rules_correspondent.specs.declared.identity.Identity.{Identity}
use Rattle.mip_reception.specs.declared.registration.Registration.{Registration}
use Rattle.mip_rules_correspondent.specs.Calls as calls
use Rattle.mip_rules_correspondent.specs.Calls.{Call}
use Rattle.mip_rules_correspondent.specs.Steps.{Step, Sends, Drops}
use Rattle.mip_reception.specs.Acks.{ack_packet}
use Rattle.mip_rules_correspondent.specs.Rules.{home_test, careof_test}
use Rattle.mip_rules_correspondent.specs.Doing.{data_sent}

pub data Sending : Type 0 where
  -- a test, to where its init came from
  SendsHomeTest : (source : Address) (cookie : ℕ) → Sending
  SendsCareofTest : (source : Address) (cookie : ℕ) → Sending
  -- the acknowledgement of an update
  SendsAck : (update : Registration) (status sequence lifetime : ℕ) (kbm : Option Kbm) → Sending
  -- what goes back to the source of a packet that was refused
  SendsReply : (source : Address) (packet : List ℕ) (reply : Reply) → Sending
  -- a Binding Refresh Request, to the care-of address of a home
  SendsRefresh : (home careof : Address) → Sending
  -- data, to the care-of address of its destination if one is held
  SendsData : (to : Address) (proto : ℕ) (payload : List ℕ) (held : Option Address) → Sending

-- this is the packet, in this call at a moment; data is sent where the call asks for it
abbrev pub IsPacketOf : Identity → Call → ℕ → Sending → List ℕ → Type 0
IsPacketOf me c now (SendsHomeTest source cookie) packet = packet ≡ home_test me now source cookie
IsPacketOf me c now (SendsCareofTest source cookie) packet = packet ≡ careof_test me now source cookie
IsPacketOf me c now (SendsAck update status sequence lifetime kbm) packet = packet ≡ ack_packet me.own update status sequence lifetime kbm
IsPacketOf me c now (SendsReply source bytes reply) packet = reply_packet me.own source bytes reply ≡ Some packet
IsPacketOf me c now (SendsRefresh home careof) packet = packet ≡ refresh_packet me.own careof home
IsPacketOf me c now (SendsData to proto payload held) packet = (c ≡ calls.Send to proto payload) × (packet ≡ data_sent me to proto payload held)

-- a packet that the step sends is one of these, and one that it drops is dropped for a reason of that kind
abbrev pub SendsOwn : Identity → Call → ℕ → Step → Type 0
SendsOwn me c now (Sends packet) = (x : Sending) × IsPacketOf me c now x packet
SendsOwn me c now (Drops number why) = is_dropped_why why ≡ true
SendsOwn me c now _ = Unit {0}
