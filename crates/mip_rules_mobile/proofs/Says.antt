-- What the packets of a mobile say: a test of its own correspondent part, or no test.
use Rattle.std.proofs.Common.{◌≡◌, ℕ, List, Bool, true, false, ◌⊎◌, inl, inr, refl, sym, ap, ◌∙◌, subst, arith}
use Rattle.std.specs.Prelude.{Option, Some, None, is_some, Result, Ok, Err}
use Rattle.mip_words.specs.declared.address.Address.{Address}
use Rattle.mip_ipv6.specs.declared.not_packet.NotPacket.{NotPacket}
use Rattle.mip_ipv6.specs.Packet.{Packet, names_no_body}
use Rattle.mip_ipv6.specs.Reading.{packet_of}
use Rattle.mip_tokens.specs.declared.kbm.Kbm.{Kbm}
use Rattle.mip_ipv6.specs.Tunnel.{tunnel_packet, encapsulated}
use Rattle.mip_reception.specs.Says.{carried}
use Rattle.mip_reception.proofs.Sayings.{carried_is, said_if_read, carried_outer, carried_lowered}
use Rattle.mip_reception.specs.Packets.{data_packet}
use Rattle.mip_reception.specs.Authenticated.{authenticated_packet}
use Rattle.mip_reception.specs.Written.{SaysNoTest}
use Rattle.mip_reception.proofs.WrittenPackets.{read_back}
use Rattle.mip_reception.proofs.WrittenSayings.{message_says_no_test, data_says_no_test, problem_says_no_test}
use Rattle.mip_reception.specs.declared.reply.Reply.{Reply}
use Rattle.mip_reception.specs.declared.reply.Reply.TheVariants.{Nothing, BindingError, ParameterProblem}
use Rattle.mip_reception.specs.Replies.{reply_packet}
use Rattle.mip_reception.specs.declared.registration.Registration.{Registration}
use Rattle.mip_reception.specs.Acks.{ack_packet}
use Rattle.mip_rules_correspondent.specs.declared.identity.Identity.{Identity}
use Rattle.mip_rules_correspondent.specs.Doing as part_doing
use Rattle.mip_rules_correspondent.specs.Calls as part_calls
use Rattle.mip_rules_correspondent.specs.Sendings as parts
use Rattle.mip_rules_mobile.specs.Calls as calls
use Rattle.mip_rules_mobile.specs.Calls.{Call}
use Rattle.mip_rules_mobile.specs.Sendings.{Inner, OfPart, AsksHome, Given, Sending, FromHome, ByTunnel, AsksCareof, RegistersHome, DeregistersHome, SendsData, Discovers, Solicits, PeerUpdate, inner_packet, registration_packet, deregistration_packet, data_head, discovery_packet, solicitation_packet, packet_of_sending, update_bytes, update_packet}
use Rattle.mip_rules_mobile.specs.Known.{Known}
use Rattle.mip_rules_mobile.specs.Doing.{transition_of}
use Rattle.mip_rules_mobile.specs.Fitting.{IsAsked, IsInner, IsSentBy}
use Rattle.mip_rules_mobile.specs.Answering.{EachAnswer, SendsPlainData, SaysOwn, NoTest, OwnHomeTest, OwnCareofTest, Asked, SaysRight}
use Rattle.mip_rules_mobile.proofs.Fits.{call-fits}
use Rattle.mip_rules_mobile.proofs.Answers.{each-answer}

-- a tunnel packet says what the packet in it says, or cannot be read
tunnel-says : (entry exit : Address) (packet : List ℕ) → (carried (encapsulated entry exit packet) ≡ carried packet) ⊎ SaysNoTest (carried (encapsulated entry exit packet))
unfolding encapsulated
tunnel-says entry exit packet = by (packet_of (encapsulated entry exit packet)) refl
  where
    by : (r : Result Packet NotPacket) → packet_of (encapsulated entry exit packet) ≡ r → (carried (encapsulated entry exit packet) ≡ carried packet) ⊎ SaysNoTest (carried (encapsulated entry exit packet))
    by (Ok q) e =
        let back = read_back (tunnel_packet entry exit packet) q refl e in
        inl (carried_outer (encapsulated entry exit packet) q e back.proto ∙ ap carried back.body ∙ carried_lowered packet)
    by (Err fault) e = inr (subst SaysNoTest (sym (carried_is (encapsulated entry exit packet) ∙ ap said_if_read e)) tt)

ack-says : (own : Address) (r : Registration) (status sequence lifetime : ℕ) (kbm : Option Kbm) → SaysNoTest (carried (ack_packet own r status sequence lifetime kbm))
unfolding ack_packet authenticated_packet
ack-says own r status sequence lifetime None = message_says_no_test _ _ refl refl
ack-says own r status sequence lifetime (Some kbm) = message_says_no_test _ _ refl refl

reply-says : (own source : Address) (bytes : List ℕ) (reply : Reply) (packet : List ℕ) → reply_packet own source bytes reply ≡ Some packet → SaysNoTest (carried packet)
unfolding reply_packet
reply-says own source bytes Nothing packet is = absurd cc
reply-says own source bytes (BindingError status home) packet is = subst some is (message_says_no_test _ _ refl refl)
  where
    some : Option (List ℕ) → Type 0
    some None = Unit {0}
    some (Some p) = SaysNoTest (carried p)
reply-says own source bytes (ParameterProblem pointer) packet is = subst some is (problem_says_no_test _ _ _ _)
  where
    some : Option (List ℕ) → Type 0
    some None = Unit {0}
    some (Some p) = SaysNoTest (carried p)

module _ (c : Call) (plain : SendsPlainData c) (me : Identity) (now : ℕ) where
  none : (packet other : List ℕ) → packet ≡ other → SaysNoTest (carried other) → SaysOwn c me now packet
  none packet other is says = NoTest (subst (λ (p : List ℕ). SaysNoTest (carried p)) (sym is) says)

  part-says : (call : part_calls.Call) (x : parts.Sending) (packet : List ℕ) → IsAsked c call → parts.IsPacketOf me call now x packet → SaysOwn c me now packet
  part-says call (parts.SendsHomeTest source cookie) packet asked is = OwnHomeTest source cookie (ap carried is)
  part-says call (parts.SendsCareofTest source cookie) packet asked is = OwnCareofTest source cookie (ap carried is)
  part-says call (parts.SendsAck update status sequence lifetime kbm) packet asked is = none packet _ is (ack-says me.own update status sequence lifetime kbm)
  part-says call (parts.SendsReply source bytes reply) packet asked is = NoTest (reply-says me.own source bytes reply packet is)
  part-says call (parts.SendsRefresh home careof) packet asked is = none packet _ is (message_says_no_test _ _ refl refl)
  part-says call (parts.SendsData to proto payload held) packet asked is =
      let sent : c ≡ calls.Send to proto payload = subst (IsAsked c) is.0 asked in
      let able : (names_no_body proto ≡ false) × (proto ≡ 135 → ⊥) × (proto ≡ 41 → ⊥) = subst SendsPlainData sent plain in
      none packet _ is.1 (held-says held able)
    where
      held-says : (held : Option Address) → (names_no_body proto ≡ false) × (proto ≡ 135 → ⊥) × (proto ≡ 41 → ⊥) → SaysNoTest (carried (part_doing.data_sent me to proto payload held))
      held-says None able = data_says_no_test _ payload able.0 able.1 able.2
      held-says (Some careof) able = data_says_no_test _ payload able.0 able.1 able.2

  inner-says : (home : Address) (inner : Inner) → IsInner c me now inner → SaysOwn c me now (inner_packet home inner)
  inner-says home (OfPart packet) is = part-says is.call is.sending packet is.asked is.is
  inner-says home (AsksHome peer cookie) is = NoTest (message_says_no_test _ _ refl refl)
  inner-says home (Given packet) is = Asked packet is refl

  within-says : (packet outer : List ℕ) → carried outer ≡ carried packet → SaysOwn c me now packet → SaysOwn c me now outer
  within-says packet outer same (NoTest says) = NoTest (subst SaysNoTest (sym same) says)
  within-says packet outer same (OwnHomeTest source cookie is) = OwnHomeTest source cookie (same ∙ is)
  within-says packet outer same (OwnCareofTest source cookie is) = OwnCareofTest source cookie (same ∙ is)
  within-says packet outer same (Asked inner asked is) = Asked inner asked (same ∙ is)

  by-tunnel : (entry exit : Address) (packet : List ℕ) → SaysOwn c me now packet → SaysOwn c me now (encapsulated entry exit packet)
  by-tunnel entry exit packet says = by (tunnel-says entry exit packet)
    where
      by : (carried (encapsulated entry exit packet) ≡ carried packet) ⊎ SaysNoTest (carried (encapsulated entry exit packet)) → SaysOwn c me now (encapsulated entry exit packet)
      by (inl same) = within-says packet (encapsulated entry exit packet) same says
      by (inr none) = NoTest none

  sending-says : (k : Known) (x : Sending) → k.part.identity ≡ me → IsSentBy c now k x → SaysOwn c me now (packet_of_sending x)
  unfolding registration_packet deregistration_packet discovery_packet solicitation_packet
  sending-says k (FromHome home inner) same is = inner-says home inner (subst (λ (i : Identity). IsInner c i now inner) same is.1)
  sending-says k (ByTunnel home careof agent inner) same is =
      by-tunnel careof agent (inner_packet home inner) (inner-says home inner (subst (λ (i : Identity). IsInner c i now inner) same is.1))
  sending-says k (AsksCareof careof peer cookie) same is = NoTest (message_says_no_test _ _ refl refl)
  sending-says k (RegistersHome home careof agent sequence) same is = NoTest (message_says_no_test _ _ refl refl)
  sending-says k (DeregistersHome home agent sequence) same is = NoTest (message_says_no_test _ _ refl refl)
  sending-says k (SendsData home careof to held proto payload) same is = NoTest (held-says held (subst SendsPlainData is.1 plain))
    where
      held-says : (held : Option Address) → (names_no_body proto ≡ false) × (proto ≡ 135 → ⊥) × (proto ≡ 41 → ⊥) → SaysNoTest (carried (data_packet (data_head home careof to proto held) payload))
      held-says None able = data_says_no_test _ payload able.0 able.1 able.2
      held-says (Some other) able = data_says_no_test _ payload able.0 able.1 able.2
  sending-says k (Discovers home careof identifier) same is = NoTest (data_says_no_test _ _ refl (λ e. omega (arith, e)) (λ e. omega (arith, e)))
  sending-says k (Solicits home careof agent identifier) same is = NoTest (data_says_no_test _ _ refl (λ e. omega (arith, e)) (λ e. omega (arith, e)))

  update-says : (u : PeerUpdate) → SaysOwn c me now (update_packet u)
  unfolding update_packet authenticated_packet
  update-says u = NoTest (by (is_some u.made.careof))
    where
      by : (binds : Bool) → SaysNoTest (carried (update_bytes u binds))
      by true = message_says_no_test _ _ refl refl
      by false = message_says_no_test _ _ refl refl

pub call-says : (k : Known) (now : ℕ) (c : Call) → SendsPlainData c → EachAnswer (SaysRight c now) now k (transition_of k now c).steps
call-says k now c plain =
    each-answer (SaysRight c now) (λ k. Unit {0}) c now (λ k step i. tt) (λ k e is. tt)
    (λ l x i is. sending-says c plain l.part.identity now l x refl is) (λ l row u i is. update-says c plain l.part.identity now u)
    k (transition_of k now c).steps tt (call-fits k now c)
