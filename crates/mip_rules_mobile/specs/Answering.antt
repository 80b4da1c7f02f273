-- What is true of each answer of a mobile, given what is known where it is given.
use Rattle.std.specs.Prelude.{◌≡◌, ◌≢◌, ℕ, ◌≤◌, List, [], ◌∷◌, length, take, drop, Bool, true, false, ◌||◌}
use Rattle.std.specs.List.{AllByRecursion}
use Rattle.mip_words.specs.Addresses.{address_bytes}
use Rattle.mip_words.specs.declared.address.Address.{Address}
use Rattle.mip_ipv6.specs.Packet.{names_no_body}
use Rattle.mip_reception.specs.Says.{carried}
use Rattle.mip_reception.specs.Written.{SaysNoTest}
use Rattle.mip_entries.specs.declared.answer.Answer.{Answer}
use Rattle.mip_entries.specs.declared.answer.Answer.TheVariants.{Send, Note}
use Rattle.mip_entries.specs.declared.entry.Entry.{Entry}
use Rattle.mip_entries.specs.declared.entry.Entry.TheVariants as entries
use Rattle.mip_entries.specs.Reasons.{is_unsent_why}
use Rattle.mip_rules_correspondent.specs.declared.identity.Identity.{Identity}
use Rattle.mip_rules_correspondent.specs.Rules.{home_test, careof_test, is_data}
use Rattle.mip_rules_correspondent.specs.Wholes as wholes
use Rattle.mip_rules_correspondent.specs.Answering as parts
use Rattle.mip_rules_correspondent.specs.Calls as part_calls
use Rattle.mip_rules_mobile.specs.declared.attachment.Attachment.{Attachment}
use Rattle.mip_rules_mobile.specs.declared.attachment.Attachment.TheVariants.{Detached, AtHome, Away}
use Rattle.mip_rules_mobile.specs.Calls as calls
use Rattle.mip_rules_mobile.specs.Calls.{Call}
use Rattle.mip_rules_mobile.specs.Steps.{Step, answer_of}
use Rattle.mip_rules_mobile.specs.Known.{Known}
use Rattle.mip_rules_mobile.specs.HomeQuestions.{home_of}
use Rattle.mip_rules_mobile.specs.Questions.{after}

-- each answer of these steps, with what is known where it is given
abbrev pub EachAnswer : (Known → Answer → Type 0) → ℕ → Known → List Step → Type 0
EachAnswer R now k [] = Unit {0}
EachAnswer R now k (step ∷ steps) = AllByRecursion (R k) (answer_of step) × EachAnswer R now (after k (record { at = now; step = step })) steps

-- what it may be asked to send: data, and a packet that has its fixed header
abbrev pub CanBeAsked : Call → Type 0
CanBeAsked (calls.Send to proto payload) = (is_data proto ≡ true) × (names_no_body proto ≡ false)
CanBeAsked (calls.Tunnel inner) = 40 ≤ length inner
CanBeAsked _ = Unit {0}

-- what it is asked to send as data is no packet, no mobility message and no extension header
abbrev pub SendsPlainData : Call → Type 0
SendsPlainData (calls.Send to proto payload) = parts.SendsPlainData (part_calls.Send to proto payload)
SendsPlainData _ = Unit {0}

-- the entries that a mobile leaves beside those of its correspondent part, with a reason of their kind
abbrev pub is_mobiles : Entry → Bool
is_mobiles (entries.Claimed who link address) = true
is_mobiles (entries.Released who link address) = true
is_mobiles (entries.Taken who link address holder) = true
is_mobiles (entries.Careof node address) = true
is_mobiles (entries.Registered node agent end) = true
is_mobiles (entries.Unregistered node agent) = true
is_mobiles (entries.Refused node status) = true
is_mobiles (entries.Chosen node agent) = true
is_mobiles (entries.Prefixes node valid preferred) = true
is_mobiles (entries.Made node peer number home careof) = true
is_mobiles (entries.Bound node peer end) = true
is_mobiles (entries.Unbound node peer) = true
is_mobiles (entries.Unsent node why) = is_unsent_why why
is_mobiles (entries.Restarted node) = true
is_mobiles _ = false

-- whole: a packet has its fixed header (RFC 8200 section 3), and an entry is of a kind that a mobile leaves, with a reason of its kind
abbrev pub IsWhole : Known → Answer → Type 0
IsWhole k (Send shield packet) = 40 ≤ length packet
IsWhole k (Note entry) = (is_mobiles entry || wholes.is_own entry) ≡ true

-- the source of a packet in bytes
abbrev pub source_bytes : List ℕ → List ℕ
source_bytes packet = take 16 (drop 8 packet)

-- away, a packet leaves from the care-of address, which is not the home address; detached none leaves. RFC 6275 section
-- 11.3.1
abbrev pub LeavesFrom : Attachment → (home : Address) → List ℕ → Type 0
LeavesFrom Detached home packet = ⊥
LeavesFrom AtHome home packet = Unit {0}
LeavesFrom (Away careof) home packet = (careof.0 ≢ home.0) × (source_bytes packet ≡ address_bytes careof)

abbrev pub LeavesRight : Known → Answer → Type 0
LeavesRight k (Send shield packet) = LeavesFrom k.standing (home_of k) packet
LeavesRight k (Note entry) = Unit {0}

-- where it is away, its care-of address is not its home address
abbrev pub IsApart : Attachment → Address → Type 0
IsApart (Away careof) home = careof.0 ≢ home.0
IsApart _ home = Unit {0}

abbrev pub IsElsewhere : Known → Type 0
IsElsewhere k = IsApart k.standing (home_of k)

-- what a packet says: no test; a test of its own correspondent part; or what the packet said that it was asked to send
pub data SaysOwn (c : Call) (me : Identity) (now : ℕ) (packet : List ℕ) : Type 0 where
  NoTest : SaysNoTest (carried packet) → SaysOwn c me now packet
  OwnHomeTest : (source : Address) (cookie : ℕ) → carried packet ≡ carried (home_test me now source cookie) → SaysOwn c me now packet
  OwnCareofTest : (source : Address) (cookie : ℕ) → carried packet ≡ carried (careof_test me now source cookie) → SaysOwn c me now packet
  Asked : (inner : List ℕ) → c ≡ calls.Tunnel inner → carried packet ≡ carried inner → SaysOwn c me now packet

abbrev pub SaysRight : Call → ℕ → Known → Answer → Type 0
SaysRight c now k (Send shield packet) = SaysOwn c k.part.identity now packet
SaysRight c now k (Note entry) = Unit {0}

-- a packet leaves from this address
abbrev pub IsFrom : Address → Answer → Type 0
IsFrom address (Send shield packet) = source_bytes packet ≡ address_bytes address
IsFrom address (Note entry) = Unit {0}

-- each of these packets does
abbrev pub AreFrom : Address → List Answer → Type 0
AreFrom address answers = AllByRecursion (IsFrom address) answers

-- by this call the mobile stays where it stands
abbrev pub stays_put : Call → Bool
stays_put (calls.Attach prefix of_home of_address) = false
stays_put (calls.Leave of_home) = false
stays_put _ = true
