-- The packets that a correspondent sends have their fixed header.
use Rattle.std.proofs.Common.{ℕ, List, sym, subst}
use Rattle.std.specs.Prelude.{Option, Some, None, IfSome}
use Rattle.mip_words.specs.declared.address.Address.{Address}
use Rattle.mip_tokens.specs.declared.kbm.Kbm.{Kbm}
use Rattle.mip_reception.proofs.Longs.{IsLong, data-long, message-long, authenticated-long, problem-long}
use Rattle.mip_reception.specs.declared.reply.Reply.{Reply}
use Rattle.mip_reception.specs.declared.reply.Reply.TheVariants.{Nothing, BindingError, ParameterProblem}
use Rattle.mip_reception.specs.Replies.{reply_packet}
use Rattle.mip_reception.specs.declared.registration.Registration.{Registration}
use Rattle.mip_rules_correspondent.specs.declared.identity.Identity.{Identity}
use Rattle.mip_reception.specs.Acks.{ack_packet}
use Rattle.mip_rules_correspondent.specs.Calls.{Call}
use Rattle.mip_rules_correspondent.specs.Sendings.{Sending, SendsHomeTest, SendsCareofTest, SendsAck, SendsReply, SendsRefresh, SendsData, IsPacketOf}

ack-long : (own : Address) (r : Registration) (status sequence lifetime : ℕ) (kbm : Option Kbm) → IsLong (ack_packet own r status sequence lifetime kbm)
unfolding ack_packet
ack-long own r status sequence lifetime None = message-long _ _
ack-long own r status sequence lifetime (Some kbm) = authenticated-long _ _ _ _ _

reply-long : (own source : Address) (packet : List ℕ) (reply : Reply) → IfSome (reply_packet own source packet reply) IsLong
unfolding reply_packet
reply-long own source packet Nothing = tt
reply-long own source packet (BindingError status home) = message-long _ _
reply-long own source packet (ParameterProblem pointer) = problem-long _ _ _ _

-- whatever a correspondent sends has its fixed header
pub sending-long : (me : Identity) (c : Call) (now : ℕ) (x : Sending) (packet : List ℕ) → IsPacketOf me c now x packet → IsLong packet
sending-long me c now (SendsHomeTest source cookie) packet is = subst IsLong (sym is) (message-long _ _)
sending-long me c now (SendsCareofTest source cookie) packet is = subst IsLong (sym is) (message-long _ _)
sending-long me c now (SendsAck update status sequence lifetime kbm) packet is = subst IsLong (sym is) (ack-long me.own update status sequence lifetime kbm)
sending-long me c now (SendsReply source bytes reply) packet is = subst (λ (o : Option (List ℕ)). IfSome o IsLong) is (reply-long me.own source bytes reply)
sending-long me c now (SendsRefresh home careof) packet is = subst IsLong (sym is) (message-long _ _)
sending-long me c now (SendsData to proto payload held) packet is = subst IsLong (sym is.1) (data-long _ _)
