-- What the packets of a home agent say.
use Rattle.std.proofs.Common.{◌≡◌, ℕ, List, [], ◌∷◌, ◌++◌, inl, inr, refl, sym, ap, ◌∙◌, subst, arith}
use Rattle.std.specs.Prelude.{Option, Some, None, Result, Ok, Err}
use Rattle.std.specs.List.{AllByRecursion}
use Rattle.mip_words.specs.declared.address.Address.{Address}
use Rattle.mip_words.specs.declared.shield.Shield.{Shield}
use Rattle.mip_ipv6.specs.declared.not_packet.NotPacket.{NotPacket}
use Rattle.mip_ipv6.specs.Packet.{Packet}
use Rattle.mip_ipv6.specs.Reading.{packet_of}
use Rattle.mip_ipv6.specs.Tunnel.{tunnel_packet, encapsulated}
use Rattle.mip_reception.specs.Says.{carried}
use Rattle.mip_reception.proofs.Sayings.{carried_is, said_if_read, carried_outer, carried_lowered}
use Rattle.mip_reception.specs.Written.{SaysNoTest}
use Rattle.mip_reception.proofs.WrittenPackets.{read_back}
use Rattle.mip_reception.proofs.WrittenSayings.{message_says_no_test, data_says_no_test, problem_says_no_test}
use Rattle.mip_discovery.specs.declared.agent.Agent.{Agent}
use Rattle.mip_discovery.specs.Reply.{discovery_reply}
use Rattle.mip_reception.specs.declared.reply.Reply.{Reply}
use Rattle.mip_reception.specs.declared.reply.Reply.TheVariants.{Nothing, BindingError, ParameterProblem}
use Rattle.mip_reception.specs.Replies.{reply_packet}
use Rattle.mip_entries.specs.declared.answer.Answer.{Answer}
use Rattle.mip_reception.specs.declared.registration.Registration.{Registration}
use Rattle.mip_reception.specs.Acks.{ack_packet}
use Rattle.mip_rules_agent.specs.declared.identity.Identity.{Identity}
use Rattle.mip_rules_agent.specs.Known.{Known}
use Rattle.mip_rules_agent.specs.Calls.{Call}
use Rattle.mip_rules_agent.specs.CallsLaws.{bytes_of}
use Rattle.mip_rules_agent.specs.Steps.{Step, Called, Sends, Registers, Claims, Releases, Denies, Drops, Rang, answer_of, answers_of}
use Rattle.mip_rules_agent.specs.Messages.{prefix_packet}
use Rattle.mip_rules_agent.specs.Doing.{transition_of}
use Rattle.mip_rules_agent.specs.Sendings.{Sending, SendsInto, SendsOut, SendsAck, SendsReply, SendsAgents, SendsPrefix, IsPacketOf, SendsOwn}
use Rattle.mip_rules_agent.specs.Sayings.{SaysHanded, SaysNoOther}
use Rattle.mip_rules_agent.proofs.Sendings.{call-own}

-- a tunnel packet says what the packet in it says, or cannot be read
tunnel-says : (entry exit : Address) (packet : List ℕ) → SaysHanded packet (encapsulated entry exit packet)
unfolding encapsulated
tunnel-says entry exit packet = by (packet_of (encapsulated entry exit packet)) refl
  where
    by : (r : Result Packet NotPacket) → packet_of (encapsulated entry exit packet) ≡ r → SaysHanded packet (encapsulated entry exit packet)
    by (Ok q) e =
        let back = read_back (tunnel_packet entry exit packet) q refl e in
        inl (carried_outer (encapsulated entry exit packet) q e back.proto ∙ ap carried back.body ∙ carried_lowered packet)
    by (Err fault) e = inr (subst SaysNoTest (sym (carried_is (encapsulated entry exit packet) ∙ ap said_if_read e)) tt)

ack-says : (own : Address) (r : Registration) (status sequence lifetime : ℕ) → SaysNoTest (carried (ack_packet own r status sequence lifetime None))
unfolding ack_packet
ack-says own r status sequence lifetime = message_says_no_test _ _ refl refl

agents-say : (own : Address) (preference : ℕ) (to : Address) (identifier : ℕ) (agents : List Agent) → SaysNoTest (carried (discovery_reply own preference to identifier agents))
unfolding discovery_reply
agents-say own preference to identifier agents = data_says_no_test _ _ refl (λ e. omega (arith, e)) (λ e. omega (arith, e))

prefix-says : (own home careof : Address) (identifier valid preferred : ℕ) → SaysNoTest (carried (prefix_packet own home careof identifier valid preferred))
unfolding prefix_packet
prefix-says own home careof identifier valid preferred = data_says_no_test _ _ refl (λ e. omega (arith, e)) (λ e. omega (arith, e))

-- where there is a packet, it says no test
abbrev SaysNoneIfAny : Option (List ℕ) → Type 0
SaysNoneIfAny None = Unit {0}
SaysNoneIfAny (Some packet) = SaysNoTest (carried packet)

reply-says : (own source : Address) (bytes : List ℕ) (reply : Reply) → SaysNoneIfAny (reply_packet own source bytes reply)
unfolding reply_packet
reply-says own source bytes Nothing = tt
reply-says own source bytes (BindingError status home) = message_says_no_test _ _ refl refl
reply-says own source bytes (ParameterProblem pointer) = problem_says_no_test _ _ _ _

none : (bytes packet other : List ℕ) → packet ≡ other → SaysNoTest (carried other) → SaysHanded bytes packet
none bytes packet other is says = inr (subst (λ (p : List ℕ). SaysNoTest (carried p)) (sym is) says)

sending-says : (me : Identity) (bytes : List ℕ) (x : Sending) (shield : Option Shield) (packet : List ℕ) → IsPacketOf me bytes x shield packet → SaysHanded bytes packet
sending-says me bytes (SendsInto home careof proto) shield packet is = subst (SaysHanded bytes) (sym is.1) (tunnel-says me.own careof bytes)
sending-says me bytes (SendsOut outer inner) shield packet is =
    inl (ap carried is.1 ∙ sym (carried_outer bytes outer is.2 is.3))
sending-says me bytes (SendsAck update status sequence lifetime) shield packet is = none bytes packet _ is.1 (ack-says me.own update status sequence lifetime)
sending-says me bytes (SendsReply source reply) shield packet is = inr (subst SaysNoneIfAny is.1 (reply-says me.own source bytes reply))
sending-says me bytes (SendsAgents to identifier agents) shield packet is = none bytes packet _ is.1 (agents-say me.own me.preference to identifier agents)
sending-says me bytes (SendsPrefix home careof identifier valid preferred) shield packet is = none bytes packet _ is.1 (prefix-says me.own home careof identifier valid preferred)

module _ (me : Identity) (bytes : List ℕ) where
  -- the answer of a step, before the answers of others
  step-says : (step : Step) (rest : List Answer) → SendsOwn me bytes step → AllByRecursion (SaysNoOther bytes) rest → AllByRecursion (SaysNoOther bytes) (answer_of step ++ rest)
  step-says (Called call) rest own all = all
  step-says (Sends shield packet) rest own all = (sending-says me bytes own.0 shield packet own.1, all)
  step-says (Registers number home binding) rest own all = (tt, all)
  step-says (Claims home) rest own all = (tt, all)
  step-says (Releases home) rest own all = (tt, all)
  step-says (Denies number status) rest own all = (tt, all)
  step-says (Drops number why) rest own all = (tt, all)
  step-says Rang rest own all = all

  steps-say : (steps : List Step) → AllByRecursion (SendsOwn me bytes) steps → AllByRecursion (SaysNoOther bytes) (answers_of steps)
  steps-say [] all = tt
  steps-say (step ∷ steps) all = step-says step (answers_of steps) all.0 (steps-say steps all.1)

-- each answer of a call
pub call-says : (me : Identity) (k : Known) (now : ℕ) (c : Call) → AllByRecursion (SaysNoOther (bytes_of c)) (answers_of (transition_of me k now c).steps)
call-says me k now c = steps-say me (bytes_of c) (transition_of me k now c).steps (call-own me k now c)
