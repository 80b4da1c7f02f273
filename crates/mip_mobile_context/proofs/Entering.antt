-- The packets that go out from the home address can enter a tunnel.
use Rattle.std.proofs.Common.{◌≡◌, ℕ, ◌+◌, ◌≤◌, List, [], ◌∷◌, ◌++◌, length, take, false, refl, sym, subst, arith, length-append}
use Rattle.std.proofs.lemmas.List.{length-take}
use Rattle.std.specs.Prelude.{Option, Some, None, IfSome}
use Rattle.std.specs.List.{AllByRecursion}
use Rattle.mip_words.specs.Numbers.{number_bytes}
use Rattle.mip_words.specs.declared.address.Address.{Address}
use Rattle.mip_words.proofs.Fields.{length-number_bytes}
use Rattle.mip_ipv6.specs.declared.head.Head.{Head}
use Rattle.mip_ipv6.specs.Packet.{Packet, source_of, destination_of}
use Rattle.mip_ipv6.specs.Spelling.{packet_bytes, behind_bytes, fixed_bytes, first_number, second_number}
use Rattle.mip_ipv6.proofs.Canonical.{length_fixed}
use Rattle.mip_mobhdr.specs.Said.{Said}
use Rattle.mip_mobhdr.specs.Said.Said.{Refresh, HomeInit, HomeTest, CareofTest, Acknowledgement, Error}
use Rattle.mip_mobhdr.specs.Spelling.{field_bytes, options_said, message_bytes}
use Rattle.mip_mobhdr.specs.OptionValues.{nothing}
use Rattle.mip_icmp.specs.Said as icmp
use Rattle.mip_icmp.specs.Spelling.{icmp_bytes}
use Rattle.mip_words.specs.Protocols.{icmpv6}
use Rattle.mip_ipv6.specs.Tunnel.{hop_of}
use Rattle.mip_tokens.specs.Token.{home_token_of, careof_token_of, authenticator_of}
use Rattle.mip_tokens.specs.declared.kbm.Kbm.{Kbm}
use Rattle.mip_packets.specs.Packets.{straight, data_packet, message_packet, problem_packet}
use Rattle.mip_packets.specs.Authenticated.{authenticated_packet, authorized, unsealed}
use Rattle.mip_packets.specs.Messages.{home_init_packet, home_test_packet, careof_test_packet, refresh_packet, error_packet}
use Rattle.mip_reception.specs.declared.reply.Reply.{Reply}
use Rattle.mip_reception.specs.declared.reply.Reply.TheVariants.{Nothing, BindingError, ParameterProblem}
use Rattle.mip_reception.specs.Replies.{reply_packet}
use Rattle.mip_reception.specs.declared.registration.Registration.{Registration}
use Rattle.mip_reception.specs.Registrations.{registered_of}
use Rattle.mip_reception.specs.Acks.{ack_head, acknowledgement, ack_packet}
use Rattle.mip_entries.specs.declared.answer.Answer.{Answer}
use Rattle.mip_rules_correspondent.specs.declared.identity.Identity.{Identity}
use Rattle.mip_rules_correspondent.specs.declared.known.Known.{Known}
use Rattle.mip_rules_correspondent.specs.Calls as calls
use Rattle.mip_rules_correspondent.specs.Calls.{Call}
use Rattle.mip_rules_correspondent.specs.Steps.{Step, Called, Sends, answer_of, answers_of}
use Rattle.mip_rules_correspondent.specs.Doing.{transition_of, data_head, data_sent}
use Rattle.mip_rules_correspondent.specs.Sendings.{Sending, SendsHomeTest, SendsCareofTest, SendsAck, SendsReply, SendsRefresh, SendsData, IsPacketOf, SendsOwn}
use Rattle.mip_rules_correspondent.proofs.Sendings.{call-own}
use Rattle.mip_mobile_context.specs.Outgoing.{CanEnter, CanPass}
use Rattle.mip_mobile_context.proofs.Lengths.{behind-short, plain-short, authorized-short, problem-short}

-- the hop limit is the eighth byte
packet-hop : (p : Packet) → hop_of (packet_bytes p) ≡ p.head.hop
unfolding packet_bytes fixed_bytes number_bytes
packet-hop p = refl

packet-enters : (head : Head) (body : List ℕ) → head.hop ≡ 64 → length body ≤ 2048 → CanEnter (packet_bytes (record { head = head; body = body }))
unfolding packet_bytes
packet-enters head body hop short =
    let p : Packet = record { head = head; body = body } in
    let first : ℕ = first_number head.route (second_number head.home head.proto) in
    let size : ℕ = length (behind_bytes p) in
    let long : length (packet_bytes p) ≡ length (fixed_bytes head first size) + length (behind_bytes p) = length-append (fixed_bytes head first size) (behind_bytes p) in (
      omega (arith, long, length_fixed head first size),
      omega (arith, packet-hop p, hop),
      omega (arith, long, length_fixed head first size, behind-short head body short),
    )

data-enters : (head : Head) (body : List ℕ) → head.hop ≡ 64 → length body ≤ 2048 → CanEnter (data_packet head body)
unfolding data_packet
data-enters head body hop short = packet-enters head body hop short

message-enters : (head : Head) (m : Said) → head.hop ≡ 64 → options_said m ≡ nothing → length (field_bytes m) ≤ 18 → CanEnter (message_packet head m)
unfolding message_packet
message-enters head m hop none fields = packet-enters head (message_bytes (source_of head) (destination_of head) m) hop (plain-short (source_of head) (destination_of head) m none fields)

-- a token has eight bytes at most, an authenticator twelve
take-short : (n : ℕ) (bytes : List ℕ) → length (take n bytes) ≤ n
take-short n bytes = omega (arith, length-take n bytes)

home-token : (kcn : List ℕ) (address : Address) (nonce : List ℕ) → length (home_token_of kcn address nonce) ≤ 8
unfolding home_token_of
home-token kcn address nonce = take-short 8 _

careof-token : (kcn : List ℕ) (address : Address) (nonce : List ℕ) → length (careof_token_of kcn address nonce) ≤ 8
unfolding careof_token_of
careof-token kcn address nonce = take-short 8 _

authenticator-size : (kbm : List ℕ) (careof peer : Address) (message : List ℕ) → length (authenticator_of kbm careof peer message) ≤ 12
unfolding authenticator_of
authenticator-size kbm careof peer message = take-short 12 _

test-fields : (index cookie : ℕ) (token : List ℕ) → length token ≤ 8 → length (number_bytes 2 index ++ (number_bytes 8 cookie ++ token)) ≤ 18
test-fields index cookie token short =
    omega (
      arith,
      short,
      length-append (number_bytes 2 index) (number_bytes 8 cookie ++ token),
      length-append (number_bytes 8 cookie) token,
      length-number_bytes 2 index,
      length-number_bytes 8 cookie,
    )

ack-fields : (status flags sequence lifetime : ℕ) → length (status ∷ flags ∷ (number_bytes 2 sequence ++ number_bytes 2 lifetime)) ≤ 18
ack-fields status flags sequence lifetime =
    omega (arith, length-append (number_bytes 2 sequence) (number_bytes 2 lifetime), length-number_bytes 2 sequence, length-number_bytes 2 lifetime)

-- a Home Test Init
pub init-enters : (source peer : Address) (cookie : ℕ) → CanEnter (home_init_packet source peer cookie)
init-enters source peer cookie = message-enters _ (HomeInit cookie nothing) refl refl (omega (arith, length-number_bytes 8 cookie))

home-enters : (own to : Address) (index cookie : ℕ) (token : List ℕ) → length token ≤ 8 → CanEnter (home_test_packet own to index cookie token)
home-enters own to index cookie token short = message-enters _ (HomeTest index cookie token nothing) refl refl (test-fields index cookie token short)

careof-enters : (own to : Address) (index cookie : ℕ) (token : List ℕ) → length token ≤ 8 → CanEnter (careof_test_packet own to index cookie token)
careof-enters own to index cookie token short = message-enters _ (CareofTest index cookie token nothing) refl refl (test-fields index cookie token short)

refresh-enters : (own careof home : Address) → CanEnter (refresh_packet own careof home)
refresh-enters own careof home = message-enters _ (Refresh nothing) refl refl (omega arith)

error-enters : (own to : Address) (status : ℕ) (home : Address) → CanEnter (error_packet own to status home)
error-enters own to status home = message-enters _ (Error status home nothing) refl refl (omega (arith, length-number_bytes 16 home.0))

sealed-enters : (head : Head) (kbm : List ℕ) (careof peer : Address) (status sequence lifetime : ℕ) → head.hop ≡ 64
    → CanEnter (authenticated_packet head kbm careof peer (Acknowledgement status false sequence lifetime nothing))
unfolding authenticated_packet message_packet
sealed-enters head kbm careof peer status sequence lifetime hop =
    let plain : Said = Acknowledgement status false sequence lifetime nothing in
    let bytes : List ℕ = authenticator_of kbm careof peer (unsealed head plain) in
    packet-enters head (message_bytes (source_of head) (destination_of head) (authorized bytes plain)) hop
    (authorized-short (source_of head) (destination_of head) (authorized bytes plain) bytes refl (authenticator-size kbm careof peer (unsealed head plain)) (ack-fields status 0 sequence lifetime))

ack-enters : (own : Address) (r : Registration) (status sequence lifetime : ℕ) (kbm : Option Kbm) → CanEnter (ack_packet own r status sequence lifetime kbm)
unfolding ack_packet
ack-enters own r status sequence lifetime None = message-enters (ack_head own r) (acknowledgement status sequence lifetime) refl refl (ack-fields status 0 sequence lifetime)
ack-enters own r status sequence lifetime (Some kbm) = sealed-enters (ack_head own r) kbm.0 (registered_of r) own status sequence lifetime refl

problem-enters : (source destination : Address) (pointer : ℕ) (packet : List ℕ) → CanEnter (problem_packet source destination pointer packet)
unfolding problem_packet
problem-enters source destination pointer packet =
    packet-enters (straight source destination icmpv6) (icmp_bytes source destination (icmp.Parameter pointer (take 1232 packet))) refl
    (problem-short source destination pointer (take 1232 packet) (take-short 1232 packet))

-- what goes back to the source of a refused packet
pub reply-enters : (own source : Address) (packet : List ℕ) (reply : Reply) → IfSome (reply_packet own source packet reply) CanEnter
unfolding reply_packet
reply-enters own source packet Nothing = tt
reply-enters own source packet (BindingError status home) = error-enters own source status home
reply-enters own source packet (ParameterProblem pointer) = problem-enters own source pointer packet

part-data : (me : Identity) (to : Address) (proto : ℕ) (payload : List ℕ) (held : Option Address) → length payload ≤ 512 → CanEnter (data_sent me to proto payload held)
part-data me to proto payload None short = data-enters (data_head me.own to proto None) payload refl (omega (arith, short))
part-data me to proto payload (Some held) short = data-enters (data_head me.own to proto (Some held)) payload refl (omega (arith, short))

-- what the correspondent part is asked to send is short
abbrev pub IsShort : Call → Type 0
IsShort (calls.Send to proto payload) = length payload ≤ 512
IsShort _ = Unit {0}

sending-enters : (me : Identity) (c : Call) (now : ℕ) (x : Sending) (packet : List ℕ) → IsShort c → IsPacketOf me c now x packet → CanEnter packet
sending-enters me c now (SendsHomeTest source cookie) packet short is = subst CanEnter (sym is) (home-enters _ _ _ _ _ (home-token _ _ _))
sending-enters me c now (SendsCareofTest source cookie) packet short is = subst CanEnter (sym is) (careof-enters _ _ _ _ _ (careof-token _ _ _))
sending-enters me c now (SendsAck update status sequence lifetime kbm) packet short is = subst CanEnter (sym is) (ack-enters me.own update status sequence lifetime kbm)
sending-enters me c now (SendsReply source bytes reply) packet short is = subst (λ (o : Option (List ℕ)). IfSome o CanEnter) is (reply-enters me.own source bytes reply)
sending-enters me c now (SendsRefresh home careof) packet short is = subst CanEnter (sym is) (refresh-enters _ _ _)
sending-enters me c now (SendsData to proto payload held) packet short is = subst CanEnter (sym is.1) (part-data me to proto payload held (subst IsShort is.0 short))

-- each answer of the correspondent part can be passed on
abbrev CanPassAll : List Answer → Type 0
CanPassAll answers = AllByRecursion CanPass answers

pass-append : (xs ys : List Answer) → CanPassAll xs → CanPassAll ys → CanPassAll (xs ++ ys)
pass-append [] ys first second = second
pass-append (x ∷ xs) ys first second = (first.0, pass-append xs ys first.1 second)

step-passes : (me : Identity) (c : Call) (now : ℕ) (step : Step) → IsShort c → SendsOwn me c now step → CanPassAll (answer_of step)
step-passes me c now (Called call) short own = tt
step-passes me c now (Sends packet) short own = (sending-enters me c now own.0 packet short own.1, tt)
step-passes me c now _ short own = (tt, tt)

steps-pass : (me : Identity) (c : Call) (now : ℕ) (steps : List Step) → IsShort c → AllByRecursion (SendsOwn me c now) steps → CanPassAll (answers_of steps)
steps-pass me c now [] short all = tt
steps-pass me c now (step ∷ steps) short all = pass-append (answer_of step) (answers_of steps) (step-passes me c now step short all.0) (steps-pass me c now steps short all.1)

pub part-passes : (me : Identity) (k : Known) (now : ℕ) (c : Call) → IsShort c → AllByRecursion CanPass (answers_of (transition_of me k now c).steps)
part-passes me k now c short = steps-pass me c now (transition_of me k now c).steps short (call-own me k now c)
