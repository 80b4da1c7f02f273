-- What is true of each step of a mobile where it is taken: a packet leaves from the address that the mobile stands at, a
-- packet of the correspondent part is one that a correspondent sends, and an update is the one that its trial makes; whose
-- word is taken, and how it came. What is not sent, or is dropped, is so for a reason of that kind.
-- RFC 6275 sections 11.3, 11.6 and 11.7
use Rattle.std.specs.Prelude.{◌≡◌, ℕ, ◌<◌, List, [], ◌∷◌, Bool, true, false, Option, Some, None, Ok}
use Rattle.mip_words.specs.declared.address.Address.{Address}
use Rattle.mip_words.specs.declared.shield.Shield.{Shield}
use Rattle.mip_reception.specs.Says.{carried, Test as Told}
use Rattle.mip_bulist.specs.declared.any.Any.{Any}
use Rattle.mip_bulist.specs.declared.tested.Test.{Test}
use Rattle.mip_bulist.specs.declared.home_timer.HomeTimer.TheVariants as home_timers
use Rattle.mip_bulist.specs.declared.work.Work.{Work}
use Rattle.mip_bulist.specs.declared.work.Work.TheVariants.{Resend, Renew, End, Home}
use Rattle.mip_bulist.specs.Rows.{peer_of_any}
use Rattle.mip_entries.specs.Reasons.{is_dropped_why, is_unsent_why}
use Rattle.mip_rules_correspondent.specs.declared.identity.Identity.{Identity}
use Rattle.mip_rules_correspondent.specs.Calls as part_calls
use Rattle.mip_rules_correspondent.specs.Sendings as parts
use Rattle.mip_rules_correspondent.specs.Wholes.{is_own}
use Rattle.mip_rules_mobile.specs.declared.attachment.Attachment.{Attachment}
use Rattle.mip_rules_mobile.specs.declared.attachment.Attachment.TheVariants.{Detached, AtHome, Away}
use Rattle.mip_rules_mobile.specs.Calls as calls
use Rattle.mip_rules_mobile.specs.Calls.{Call}
use Rattle.mip_rules_mobile.specs.Coming.{is_take}
use Rattle.mip_rules_mobile.specs.Trusting.{IsRegistered, IsUnregistered, IsDeclined, IsBehind, IsAcknowledged, ComesByTunnel}
use Rattle.mip_rules_mobile.specs.Trials.{Change, HomeTest, CareofTest, Acknowledge, makes}
use Rattle.mip_rules_mobile.specs.Sendings.{Inner, OfPart, AsksHome, Given, Sending, FromHome, ByTunnel, AsksCareof, RegistersHome, DeregistersHome, SendsData, Discovers, Solicits, PeerUpdate}
use Rattle.mip_rules_mobile.specs.Steps.{Step, Called, Parts, Notes, Sends, Unsends, Drops, Claims, FindsTaken, Arrives, Detaches, Restarts, Registers, Unregisters, IsRefused, Resequences, Tries, Updates, Binds, Unbinds, Waits, Stops, Rings}
use Rattle.mip_rules_mobile.specs.Known.{Known}
use Rattle.mip_rules_mobile.specs.HomeQuestions.{home_of, binding_number_of}
use Rattle.mip_rules_mobile.specs.RowQuestions.{peer_of_row, trial_of}
use Rattle.mip_rules_mobile.specs.Questions.{after}
use Rattle.mip_rules_mobile.specs.TrialRules.{source_for}

-- what the correspondent part is asked is what the mobile was asked, where it is asked to send data
abbrev pub IsAsked : Call → part_calls.Call → Type 0
IsAsked c (part_calls.Send to proto payload) = c ≡ calls.Send to proto payload
IsAsked c _ = Unit {0}

-- a packet that a correspondent sends in a call at a moment
pub record IsOfPart (c : Call) (me : Identity) (now : ℕ) (packet : List ℕ) : Type 0 where
  pub call : part_calls.Call
  pub asked : IsAsked c call
  pub sending : parts.Sending
  pub is : parts.IsPacketOf me call now sending packet

-- a packet from the home address: of the correspondent part, a Home Test Init, or the one that this call gave
abbrev pub IsInner : Call → Identity → ℕ → Inner → Type 0
IsInner c me now (OfPart packet) = IsOfPart c me now packet
IsInner c me now (AsksHome peer cookie) = Unit {0}
IsInner c me now (Given packet) = c ≡ calls.Tunnel packet

-- it stands there, and this is its home address
abbrev pub IsAt : Known → Attachment → Address → Type 0
IsAt k standing home = (k.standing ≡ standing) × (home ≡ home_of k)

-- a packet leaves from the address that the mobile stands at
abbrev pub IsSentBy : Call → ℕ → Known → Sending → Type 0
IsSentBy c now k (FromHome home inner) = IsAt k AtHome home × IsInner c k.part.identity now inner
IsSentBy c now k (ByTunnel home careof agent inner) = IsAt k (Away careof) home × IsInner c k.part.identity now inner
IsSentBy c now k (AsksCareof careof peer cookie) = k.standing ≡ Away careof
IsSentBy c now k (RegistersHome home careof agent sequence) = IsAt k (Away careof) home
IsSentBy c now k (DeregistersHome home agent sequence) = IsAt k AtHome home
IsSentBy c now k (SendsData home careof to held proto payload) = IsAt k (Away careof) home × (c ≡ calls.Send to proto payload)
IsSentBy c now k (Discovers home careof identifier) = IsAt k (Away careof) home
IsSentBy c now k (Solicits home careof agent identifier) = IsAt k (Away careof) home

-- an update is the one that its row's trial makes, from where such an update is sent
pub record IsUpdateOf (now : ℕ) (k : Known) (row : ℕ) (u : PeerUpdate) : Type 0 where
  pub home : u.home ≡ home_of k
  pub peer : peer_of_row k row ≡ Some u.peer
  pub number : u.number ≡ binding_number_of k
  pub made : makes (record { 0 = now }) (trial_of k row) ≡ Some (Ok u.made)
  pub source : source_for k.standing (home_of k) u.made ≡ Some u.source

-- a test that was kept: a packet that was handed over said it, at this moment, and it came as such a test is to come
pub record IsHanded (c : Call) (now : ℕ) (k : Known) (kind : ℕ) (test : Test) : Type 0 where
  pub number : ℕ
  pub shield : Option Shield
  pub packet : List ℕ
  pub destination : Address
  pub call : c ≡ calls.Take number shield packet
  pub says : carried packet ≡ Told kind test.index test.token.0 destination
  pub moment : test.at.0 ≡ now
  -- away, a Home Test came by the agent's tunnel
  pub way : kind ≡ 0 → ComesByTunnel c now k

-- a trial is given a test that was handed over, and ends by an acknowledgement that was
abbrev pub IsChangedBy : Call → ℕ → Known → ℕ → Change → Type 0
IsChangedBy c now k row (HomeTest peer cookie test) = IsHanded c now k 0 test
IsChangedBy c now k row (CareofTest peer cookie test) = IsHanded c now k 1 test
IsChangedBy c now k row (Acknowledge sequence granted) = IsAcknowledged c k now row sequence granted
IsChangedBy c now k row _ = Unit {0}

-- it uses no address
abbrev pub is_detached : Attachment → Bool
is_detached Detached = true
is_detached AtHome = false
is_detached (Away careof) = false

-- there is a trial, and it is one of this peer
abbrev pub IsTrialOf : Option Any → Address → Type 0
IsTrialOf None peer = ⊥
IsTrialOf (Some any) peer = peer_of_any any ≡ peer

-- work by which a registration or a binding ends: it is set by its acknowledgement alone
abbrev pub is_end : Work → Bool
is_end (Resend row) = false
is_end (Renew row) = false
is_end (End row) = true
is_end (Home home_timers.Resend) = false
is_end (Home home_timers.Renew) = false
is_end (Home home_timers.End) = true
is_end (Home home_timers.Discover) = false

-- a step is taken in a call, at a moment, where this is known
abbrev pub Fits : Call → ℕ → Known → Step → Type 0
Fits c now k (Called call) = c ≡ call
Fits c now k (Notes entry) = is_own entry ≡ true
Fits c now k (Restarts secrets) = c ≡ calls.Restart secrets
Fits c now k (Sends sending) = IsSentBy c now k sending
Fits c now k (Unsends why) = is_unsent_why why ≡ true
Fits c now k (Drops number why) = is_dropped_why why ≡ true
Fits c now k (Updates row update) = IsUpdateOf now k row update
Fits c now k (Tries row change) = IsChangedBy c now k row change
Fits c now k (Registers agent end renew) = (is_detached k.standing ≡ false) × IsRegistered c k.latest agent end renew
Fits c now k (Unregisters agent) = is_take c ≡ true → IsUnregistered c k.latest agent
Fits c now k (IsRefused status) = IsDeclined c k.latest status
Fits c now k (Resequences agent last) = IsBehind c k.latest agent last
Fits c now k (Binds row peer end renew) = IsTrialOf (trial_of k row) peer
Fits c now k (Unbinds row peer) = peer_of_row k row ≡ Some peer
Fits c now k (Waits work wait) = (0 < wait) × (is_end work ≡ false)
Fits c now k (Stops work) = is_end work ≡ false
Fits c now k (Rings work) = c ≡ calls.Tick
Fits c now k _ = Unit {0}

-- each step fits where it is taken
abbrev pub EachFits : Call → ℕ → Known → List Step → Type 0
EachFits c now k [] = Unit {0}
EachFits c now k (step ∷ steps) = Fits c now k step × EachFits c now (after k (record { at = now; step = step })) steps

-- which steps change what others rest on, or tell of what did not change: a call begins, the mobile moves or restarts, a
-- binding is acknowledged, a packet is dropped, the correspondent part is called or leaves an entry
pub data Kind : Type 0 where
  OfCall : Kind
  OfMove : Kind
  OfAck : Kind
  OfDrop : Kind
  OfNote : Kind
  OfAsk : Kind
  Steady : Kind

abbrev pub kind_of : Step → Kind
kind_of (Called call) = OfCall
kind_of (Drops number why) = OfDrop
kind_of (Notes entry) = OfNote
kind_of (Parts call) = OfAsk
kind_of (Claims address) = OfMove
kind_of (FindsTaken address holder) = OfMove
kind_of (Arrives address) = OfMove
kind_of Detaches = OfMove
kind_of (Restarts secrets) = OfMove
kind_of (Registers agent end renew) = OfAck
kind_of (Binds row peer end renew) = OfAck
kind_of _ = Steady
