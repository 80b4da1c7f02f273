-- No packet that a home agent sends under a shield has an update.
use Rattle.std.proofs.Common.{◌≡◌, ℕ, List, [], ◌∷◌, ◌++◌, false, refl, sym, ap, ◌∙◌, subst, arith}
use Rattle.std.specs.Prelude.{Option, Some, None, slice_index}
use Rattle.std.specs.List.{AllByRecursion}
use Rattle.mip_words.specs.declared.address.Address.{Address}
use Rattle.mip_words.specs.declared.shield.Shield.{Shield}
use Rattle.mip_ipv6.specs.declared.head.Head.{Head}
use Rattle.mip_ipv6.specs.Packet.{source_of, destination_of, names_no_body}
use Rattle.mip_mobhdr.specs.Said.{Said}
use Rattle.mip_mobhdr.specs.Spelling.{type_of, message_bytes}
use Rattle.mip_ipv6.specs.Tunnel.{tunnel_packet, encapsulated}
use Rattle.mip_reception.specs.Packets.{data_packet, message_packet}
use Rattle.mip_reception.proofs.WrittenPackets.{read_back}
use Rattle.mip_reception.proofs.WrittenMessages.{type_written}
use Rattle.mip_entries.specs.declared.answer.Answer.{Answer}
use Rattle.mip_entries.specs.declared.answer.Answer.TheVariants.{Send}
use Rattle.mip_reception.specs.declared.registration.Registration.{Registration}
use Rattle.mip_reception.specs.Acks.{ack_packet}
use Rattle.mip_rules_agent.specs.declared.identity.Identity.{Identity}
use Rattle.mip_rules_agent.specs.Known.{Known}
use Rattle.mip_rules_agent.specs.Calls.{Call}
use Rattle.mip_rules_agent.specs.CallsLaws.{bytes_of}
use Rattle.mip_rules_agent.specs.Steps.{Step, Called, Sends, Registers, Claims, Releases, Denies, Drops, Rang, answer_of, answers_of}
use Rattle.mip_rules_agent.specs.Messages.{prefix_packet}
use Rattle.mip_rules_agent.specs.Doing.{transition_of}
use Rattle.mip_rules_agent.specs.Sendings.{Sending, SendsInto, SendsOut, SendsAck, SendsReply, SendsAgents, SendsPrefix, IsPacketOf, SendsOwn}
use Rattle.mip_rules_agent.specs.Shielding.{HasNoUpdate, ShieldsNoUpdate, ShieldNoUpdate}
use Rattle.mip_rules_agent.proofs.Sendings.{call-own}

-- a tunnel has a packet for its body
tunnel-none : (entry exit : Address) (packet : List ℕ) → HasNoUpdate (encapsulated entry exit packet)
unfolding encapsulated
tunnel-none entry exit packet = λ update is.
    let back = read_back (tunnel_packet entry exit packet) is.packet refl is.read in
    absurd (let p = back.proto in let q = is.mobility in omega (arith, p, q))

-- another message is no update
message-none : (head : Head) (m : Said) → head.proto ≡ 135 → (type_of m ≡ 5 → ⊥) → HasNoUpdate (message_packet head m)
unfolding message_packet
message-none head m proto other = λ update is.
    let back = read_back (record { head = head; body = message_bytes (source_of head) (destination_of head) m }) is.packet (plain head.proto proto) is.read in
    other (sym (type_written (source_of head) (destination_of head) m) ∙ sym (ap (λ (l : List ℕ). slice_index l 2) back.body) ∙ is.of_type)
  where
    plain : (n : ℕ) → n ≡ 135 → names_no_body n ≡ false
    plain n e = ap names_no_body e

ack-none : (own : Address) (r : Registration) (status sequence lifetime : ℕ) → HasNoUpdate (ack_packet own r status sequence lifetime None)
unfolding ack_packet
ack-none own r status sequence lifetime = message-none _ _ refl (λ e. omega (arith, e))

-- and neither is a message of another protocol
prefix-none : (own home careof : Address) (identifier valid preferred : ℕ) → HasNoUpdate (prefix_packet own home careof identifier valid preferred)
unfolding prefix_packet data_packet
prefix-none own home careof identifier valid preferred = λ update is.
    let back = read_back _ is.packet refl is.read in
    absurd (let p = back.proto in let q = is.mobility in omega (arith, p, q))

none-of : (packet other : List ℕ) → packet ≡ other → HasNoUpdate other → HasNoUpdate packet
none-of packet other is none = subst HasNoUpdate (sym is) none

unshielded : (shield : Option Shield) (packet : List ℕ) → shield ≡ None → ShieldsNoUpdate (Send shield packet)
unshielded None packet is = tt
unshielded (Some shield) packet is = absurd cc

whichever : (shield : Option Shield) (packet : List ℕ) → HasNoUpdate packet → ShieldsNoUpdate (Send shield packet)
whichever None packet none = tt
whichever (Some shield) packet none = none

sending-none : (me : Identity) (bytes : List ℕ) (x : Sending) (shield : Option Shield) (packet : List ℕ) → IsPacketOf me bytes x shield packet → ShieldsNoUpdate (Send shield packet)
sending-none me bytes (SendsInto home careof proto) shield packet is = whichever shield packet (none-of packet _ is.1 (tunnel-none me.own careof bytes))
sending-none me bytes (SendsOut outer inner) shield packet is = unshielded shield packet is.0
sending-none me bytes (SendsAck update status sequence lifetime) shield packet is = whichever shield packet (none-of packet _ is.1 (ack-none me.own update status sequence lifetime))
sending-none me bytes (SendsReply source reply) shield packet is = unshielded shield packet is.0
sending-none me bytes (SendsAgents to identifier agents) shield packet is = unshielded shield packet is.0
sending-none me bytes (SendsPrefix home careof identifier valid preferred) shield packet is =
    whichever shield packet (none-of packet _ is.1 (prefix-none me.own home careof identifier valid preferred))

module _ (me : Identity) (bytes : List ℕ) where
  -- the answer of a step, before the answers of others
  step-none : (step : Step) (rest : List Answer) → SendsOwn me bytes step → ShieldNoUpdate rest → ShieldNoUpdate (answer_of step ++ rest)
  step-none (Called call) rest own all = all
  step-none (Sends shield packet) rest own all = (sending-none me bytes own.0 shield packet own.1, all)
  step-none (Registers number home binding) rest own all = (tt, all)
  step-none (Claims home) rest own all = (tt, all)
  step-none (Releases home) rest own all = (tt, all)
  step-none (Denies number status) rest own all = (tt, all)
  step-none (Drops number why) rest own all = (tt, all)
  step-none Rang rest own all = all

  steps-none : (steps : List Step) → AllByRecursion (SendsOwn me bytes) steps → ShieldNoUpdate (answers_of steps)
  steps-none [] all = tt
  steps-none (step ∷ steps) all = step-none step (answers_of steps) all.0 (steps-none steps all.1)

pub call-none : (me : Identity) (k : Known) (now : ℕ) (c : Call) → ShieldNoUpdate (answers_of (transition_of me k now c).steps)
call-none me k now c = steps-none me (bytes_of c) (transition_of me k now c).steps (call-own me k now c)
