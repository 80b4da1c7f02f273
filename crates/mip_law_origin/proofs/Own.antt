-- Each test that a call sends is one of the node's own.
use Rattle.std.proofs.Common.{◌≡◌, ℕ, ◌%◌, ◌++◌, List, [], ◌∷◌, length, take, refl, sym, ap, subst, ◌∙◌, arith, length-take}
use Rattle.std.specs.Prelude.{Option, Some, None}
use Rattle.std.specs.List.{AllByRecursion}
use Rattle.mip_words.specs.Addresses.{address_bytes}
use Rattle.mip_words.specs.declared.address.Address.{Address}
use Rattle.mip_mobhdr.specs.OptionValues.{nothing}
use Rattle.mip_mobhdr.specs.Said.Said.{Refresh, HomeTest, CareofTest, Error}
use Rattle.sha1.specs.Sha1.{sha1, digest_bytes}
use Rattle.mip_tokens.specs.Hmac.{hmac_sha1}
use Rattle.mip_nonce.specs.Secrets.{Life, kcn_of, nonce_of}
use Rattle.mip_nonce.specs.Window.{current_of, index_of}
use Rattle.mip_tokens.specs.Token.{token_of, home_token_of, careof_token_of}
use Rattle.mip_tokens.specs.declared.kbm.Kbm.{Kbm}
use Rattle.mip_packets.specs.Says.{Carried, Other, Test, Update, carried}
use Rattle.mip_packets.specs.Packets.{straight, data_packet}
use Rattle.mip_packets.specs.Authenticated.{authenticated_packet}
use Rattle.mip_packets.specs.Written.{TestsOf, SaysNoTest}
use Rattle.mip_packets.proofs.WrittenSayings.{message_says, message_says_no_test, data_says_no_test, problem_says_no_test}
use Rattle.mip_reception.specs.declared.reply.Reply.{Reply}
use Rattle.mip_reception.specs.declared.reply.Reply.TheVariants.{Nothing, BindingError, ParameterProblem}
use Rattle.mip_reception.specs.Replies.{reply_packet}
use Rattle.mip_reception.specs.declared.registration.Registration.{Registration}
use Rattle.mip_reception.specs.Acks.{ack_packet}
use Rattle.mip_rules_correspondent.specs.declared.identity.Identity.{Identity}
use Rattle.mip_rules_correspondent.specs.declared.known.Known.{Known}
use Rattle.mip_rules_correspondent.specs.Calls as calls
use Rattle.mip_rules_correspondent.specs.Calls.{Call}
use Rattle.mip_rules_correspondent.specs.Steps.{Step, Sends}
use Rattle.mip_rules_correspondent.specs.Rules.{home_test, careof_test}
use Rattle.mip_rules_correspondent.specs.Doing.{transition_of, data_head}
use Rattle.mip_rules_correspondent.specs.Sendings.{Sending, SendsHomeTest, SendsCareofTest, SendsAck, SendsReply, SendsRefresh, SendsData, IsPacketOf, SendsOwn}
use Rattle.mip_rules_correspondent.proofs.Sendings.{call-own}
use Rattle.mip_law_origin.specs.OwnTests.{IsOwnTest, SendsOwnTests, SendsPlainData}

-- a packet without a test
pub own_of_none : (life : Life) (now : ℕ) (c : Carried) → SaysNoTest c → IsOwnTest life now c
own_of_none life now Other none = tt
own_of_none life now (Update key) none = tt
own_of_none life now (Test kind index token destination) none = absurd none

the : (a b : List ℕ) → Some a ≡ Some b → a ≡ b
the a b e = cc

index_small : (n : ℕ) → index_of n ≡ index_of n % 65536
index_small n = omega arith

-- a token depends on its address's bytes alone
token_same : (kind : ℕ) (kcn nonce : List ℕ) (a b : Address) → address_bytes a ≡ address_bytes b → token_of kind kcn a nonce ≡ token_of kind kcn b nonce
token_same kind kcn nonce a b e = ap (λ (bytes : List ℕ). take 8 (hmac_sha1 kcn (bytes ++ (nonce ++ kind ∷ [])))) e

-- a digest has 20 bytes, and so has a keyed one
digest_long : (m : List ℕ) → length (sha1 m) ≡ 20
unfolding sha1 digest_bytes
digest_long m = refl

hmac_long : (key text : List ℕ) → length (hmac_sha1 key text) ≡ 20
unfolding hmac_sha1
hmac_long key text = digest_long _

token_long : (kind : ℕ) (kcn nonce : List ℕ) (a : Address) → length (token_of kind kcn a nonce) ≡ 8
token_long kind kcn nonce a =
    let text : List ℕ = address_bytes a ++ (nonce ++ kind ∷ []) in
    omega (arith, length-take 8 (hmac_sha1 kcn text), hmac_long kcn text)

-- a test that was read is the node's own where it was written so
home_back : (life : Life) (now : ℕ) (source : Address) (cookie : ℕ) (c : Carried)
    → TestsOf source (HomeTest (index_of (current_of now)) cookie (token_of 0 (kcn_of life) source (nonce_of life (current_of now))) nothing) c → IsOwnTest life now c
home_back life now source cookie Other says = tt
home_back life now source cookie (Update key) says = tt
home_back life now source cookie (Test kind index token destination) says =
    let kcn : List ℕ = kcn_of life in
    let nonce : List ℕ = nonce_of life (current_of now) in (
      says.1 (index_small (current_of now)),
      says.2 (token_long 0 kcn nonce source) ∙ token_same 0 kcn nonce source destination (sym says.3) ∙ ap (λ (k : ℕ). token_of k kcn destination nonce) (sym says.0),
    )

careof_back : (life : Life) (now : ℕ) (source : Address) (cookie : ℕ) (c : Carried)
    → TestsOf source (CareofTest (index_of (current_of now)) cookie (token_of 1 (kcn_of life) source (nonce_of life (current_of now))) nothing) c → IsOwnTest life now c
careof_back life now source cookie Other says = tt
careof_back life now source cookie (Update key) says = tt
careof_back life now source cookie (Test kind index token destination) says =
    let kcn : List ℕ = kcn_of life in
    let nonce : List ℕ = nonce_of life (current_of now) in (
      says.1 (index_small (current_of now)),
      says.2 (token_long 1 kcn nonce source) ∙ token_same 1 kcn nonce source destination (sym says.3) ∙ ap (λ (k : ℕ). token_of k kcn destination nonce) (sym says.0),
    )

pub home_own : (me : Identity) (now : ℕ) (source : Address) (cookie : ℕ) → IsOwnTest me.secrets now (carried (home_test me now source cookie))
unfolding home_token_of
home_own me now source cookie = home_back me.secrets now source cookie (carried (home_test me now source cookie)) (message_says (straight me.own source 135) _ refl)

pub careof_own : (me : Identity) (now : ℕ) (source : Address) (cookie : ℕ) → IsOwnTest me.secrets now (carried (careof_test me now source cookie))
unfolding careof_token_of
careof_own me now source cookie = careof_back me.secrets now source cookie (carried (careof_test me now source cookie)) (message_says (straight me.own source 135) _ refl)

-- an acknowledgement, with and without an authenticator
ack_none : (own : Address) (r : Registration) (status sequence lifetime : ℕ) (kbm : Option Kbm) → SaysNoTest (carried (ack_packet own r status sequence lifetime kbm))
unfolding ack_packet authenticated_packet
ack_none own r status sequence lifetime None = message_says_no_test _ _ refl refl
ack_none own r status sequence lifetime (Some kbm) = message_says_no_test _ _ refl refl

-- what goes back for a packet that was refused
reply_none : (own source : Address) (bytes packet : List ℕ) (reply : Reply) → reply_packet own source bytes reply ≡ Some packet → SaysNoTest (carried packet)
unfolding reply_packet
reply_none own source bytes packet Nothing e = absurd cc
reply_none own source bytes packet (BindingError status home) e = subst (λ (b : List ℕ). SaysNoTest (carried b)) (the _ packet e) (message_says_no_test (straight own source 135) (Error status home nothing) refl refl)
reply_none own source bytes packet (ParameterProblem pointer) e = subst (λ (b : List ℕ). SaysNoTest (carried b)) (the _ packet e) (problem_says_no_test own source pointer bytes)

-- data that a call asks for
data_none : (me : Identity) (c : Call) (to : Address) (proto : ℕ) (payload : List ℕ) (held : Option Address) → SendsPlainData c → c ≡ calls.Send to proto payload
    → SaysNoTest (carried (data_packet (data_head me.own to proto held) payload))
data_none me c to proto payload held plain is = by held (subst SendsPlainData is plain)
  where
    by : (held : Option Address) → SendsPlainData (calls.Send to proto payload) → SaysNoTest (carried (data_packet (data_head me.own to proto held) payload))
    by None plain = data_says_no_test _ payload plain.0 plain.1 plain.2
    by (Some careof) plain = data_says_no_test _ payload plain.0 plain.1 plain.2

-- each kind of packet that a correspondent sends
sending-own : (me : Identity) (c : Call) (now : ℕ) (x : Sending) (packet : List ℕ) → SendsPlainData c → IsPacketOf me c now x packet → IsOwnTest me.secrets now (carried packet)
sending-own me c now (SendsHomeTest source cookie) packet plain is = subst (λ (b : List ℕ). IsOwnTest me.secrets now (carried b)) (sym is) (home_own me now source cookie)
sending-own me c now (SendsCareofTest source cookie) packet plain is = subst (λ (b : List ℕ). IsOwnTest me.secrets now (carried b)) (sym is) (careof_own me now source cookie)
sending-own me c now (SendsAck update status sequence lifetime kbm) packet plain is =
    own_of_none me.secrets now (carried packet) (subst (λ (b : List ℕ). SaysNoTest (carried b)) (sym is) (ack_none me.own update status sequence lifetime kbm))
sending-own me c now (SendsReply source bytes reply) packet plain is = own_of_none me.secrets now (carried packet) (reply_none me.own source bytes packet reply is)
sending-own me c now (SendsRefresh home careof) packet plain is =
    own_of_none me.secrets now (carried packet) (subst (λ (b : List ℕ). SaysNoTest (carried b)) (sym is) (message_says_no_test _ (Refresh nothing) refl refl))
sending-own me c now (SendsData to proto payload held) packet plain is =
    own_of_none me.secrets now (carried packet) (subst (λ (b : List ℕ). SaysNoTest (carried b)) (sym is.1) (data_none me c to proto payload held plain is.0))

step-own : (me : Identity) (c : Call) (now : ℕ) (step : Step) → SendsPlainData c → SendsOwn me c now step → SendsOwnTests me now step
step-own me c now (Sends packet) plain own = sending-own me c now own.0 packet plain own.1
step-own me c now _ plain own = tt

each-own : (me : Identity) (c : Call) (now : ℕ) (steps : List Step) → SendsPlainData c → AllByRecursion (SendsOwn me c now) steps → AllByRecursion (SendsOwnTests me now) steps
each-own me c now [] plain all = tt
each-own me c now (step ∷ steps) plain all = (step-own me c now step plain all.0, each-own me c now steps plain all.1)

pub call-own-tests : (me : Identity) (k : Known) (now : ℕ) (c : Call) → SendsPlainData c → AllByRecursion (SendsOwnTests me now) (transition_of me k now c).steps
call-own-tests me k now c plain = each-own me c now (transition_of me k now c).steps plain (call-own me k now c)
