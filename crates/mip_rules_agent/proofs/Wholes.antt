-- The packets that a home agent sends have their fixed header.
use Rattle.std.proofs.Common.{ℕ, List, sym, subst, arith}
use Rattle.std.specs.Prelude.{Option, None, IfSome}
use Rattle.mip_words.specs.declared.address.Address.{Address}
use Rattle.mip_words.specs.declared.shield.Shield.{Shield}
use Rattle.mip_ipv6.proofs.Packets.{read_stands}
use Rattle.mip_ipv6.specs.Tunnel.{encapsulated}
use Rattle.mip_reception.proofs.Longs.{IsLong, packet-long, data-long, message-long, problem-long}
use Rattle.mip_discovery.specs.declared.agent.Agent.{Agent}
use Rattle.mip_discovery.specs.Reply.{discovery_reply}
use Rattle.mip_reception.specs.declared.reply.Reply.{Reply}
use Rattle.mip_reception.specs.declared.reply.Reply.TheVariants.{Nothing, BindingError, ParameterProblem}
use Rattle.mip_reception.specs.Replies.{reply_packet}
use Rattle.mip_reception.specs.declared.registration.Registration.{Registration}
use Rattle.mip_reception.specs.Acks.{ack_packet}
use Rattle.mip_rules_agent.specs.declared.identity.Identity.{Identity}
use Rattle.mip_rules_agent.specs.Messages.{prefix_packet}
use Rattle.mip_rules_agent.specs.Sendings.{Sending, SendsInto, SendsOut, SendsAck, SendsReply, SendsAgents, SendsPrefix, IsPacketOf}

tunnel-long : (entry exit : Address) (packet : List ℕ) → IsLong (encapsulated entry exit packet)
unfolding encapsulated
tunnel-long entry exit packet = packet-long _

ack-long : (own : Address) (r : Registration) (status sequence lifetime : ℕ) → IsLong (ack_packet own r status sequence lifetime None)
unfolding ack_packet
ack-long own r status sequence lifetime = message-long _ _

agents-long : (own : Address) (preference : ℕ) (to : Address) (identifier : ℕ) (agents : List Agent) → IsLong (discovery_reply own preference to identifier agents)
unfolding discovery_reply
agents-long own preference to identifier agents = data-long _ _

prefix-long : (own home careof : Address) (identifier valid preferred : ℕ) → IsLong (prefix_packet own home careof identifier valid preferred)
unfolding prefix_packet
prefix-long own home careof identifier valid preferred = data-long _ _

reply-long : (own source : Address) (packet : List ℕ) (reply : Reply) → IfSome (reply_packet own source packet reply) IsLong
unfolding reply_packet
reply-long own source packet Nothing = tt
reply-long own source packet (BindingError status home) = message-long _ _
reply-long own source packet (ParameterProblem pointer) = problem-long _ _ _ _

-- whatever a home agent sends has its fixed header
pub sending-long : (me : Identity) (bytes : List ℕ) (x : Sending) (shield : Option Shield) (packet : List ℕ) → IsPacketOf me bytes x shield packet → IsLong packet
sending-long me bytes (SendsInto home careof proto) shield packet is = subst IsLong (sym is.1) (tunnel-long _ _ _)
sending-long me bytes (SendsOut outer inner) shield packet is =
    let stands = read_stands inner outer.body is.4 in
    subst IsLong (sym is.1) (let long = stands.long in omega arith)
sending-long me bytes (SendsAck update status sequence lifetime) shield packet is = subst IsLong (sym is.1) (ack-long me.own update status sequence lifetime)
sending-long me bytes (SendsReply source reply) shield packet is = subst (λ (o : Option (List ℕ)). IfSome o IsLong) is.1 (reply-long me.own source bytes reply)
sending-long me bytes (SendsAgents to identifier agents) shield packet is = subst IsLong (sym is.1) (agents-long _ _ _ _ _)
sending-long me bytes (SendsPrefix home careof identifier valid preferred) shield packet is = subst IsLong (sym is.1) (prefix-long _ _ _ _ _ _)
