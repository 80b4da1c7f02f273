-- What becomes of an update, by the verdict on it; and that nothing else is acknowledged. RFC 6275 sections 9.5.1 and 9.5.4
use Rattle.std.specs.Prelude.{◌≡◌, ℕ, ◌≤◌, ◌+◌, List, [], ◌∷◌, true, false, if◌then◌else◌, Option, Some, Ok}
use Rattle.mip_words.specs.Sequence.{is_after}
use Rattle.mip_words.specs.declared.address.Address.{Address}
use Rattle.mip_ipv6.specs.Packet.{Packet, names_no_body}
use Rattle.mip_ipv6.specs.Reading.{packet_of}
use Rattle.mip_nonce.specs.Window.{IsValidAt}
use Rattle.mip_reception.specs.declared.registration.Registration.{Registration}
use Rattle.mip_reception.specs.Registrations.{registration_in}
use Rattle.mip_reception.specs.Acks.{ack_packet}
use Rattle.mip_rules_correspondent.specs.declared.identity.Identity.{Identity}
use Rattle.mip_rules_correspondent.specs.declared.known.Known.{Known}
use Rattle.mip_rules_correspondent.specs.declared.verdict.Verdict.{Verdict}
use Rattle.mip_rules_correspondent.specs.declared.verdict.Verdict.TheVariants.{Refuse, Deny, Accept}
use Rattle.mip_rules_correspondent.specs.Calls.{Call, Take, Part, Send}
use Rattle.mip_rules_correspondent.specs.Steps.{Step, Called, Sends, Accepts, Denies, Drops}
use Rattle.mip_rules_correspondent.specs.Questions.{floor_of, is_full_for}
use Rattle.mip_rules_correspondent.specs.Verdicts.{verdict}
use Rattle.mip_rules_correspondent.specs.Rules.{bench}
use Rattle.mip_rules_correspondent.specs.Sendings.{Sending, SendsHomeTest, SendsCareofTest, SendsAck, SendsReply, SendsRefresh, SendsData, IsPacketOf}

-- what is refused is dropped in silence; what is denied is told, and acknowledged with its status and sequence and no lifetime;
-- what is accepted is acknowledged where flag A asks, with status 0, its sequence and the lifetime granted
abbrev pub IsAnswered : Identity → (number : ℕ) → Registration → Verdict → List Step → Type 0
IsAnswered me number r (Refuse why) steps = steps ≡ Drops number why ∷ []
IsAnswered me number r (Deny status last kbm) steps = steps ≡ Denies number status ∷ Sends (ack_packet me.own r status last 0 kbm) ∷ []
IsAnswered me number r (Accept home binding accepted granted kbm) steps =
    steps ≡ Accepts number home binding accepted ∷ (if r.ack then Sends (ack_packet me.own r 0 r.sequence granted (Some kbm)) ∷ [] else [])

-- what is sent as data is no packet, no mobility message and no extension header
abbrev pub SendsPlainData : Call → Type 0
SendsPlainData (Send to proto payload) = (names_no_body proto ≡ false) × (proto ≡ 135 → ⊥) × (proto ≡ 41 → ⊥)
SendsPlainData _ = Unit {0}

-- a call hands over this packet under this number
abbrev pub HandsOver : Call → (number : ℕ) → Packet → Type 0
HandsOver (Take n shield bytes) number packet = (n ≡ number) × (packet_of bytes ≡ Ok packet)
HandsOver (Part n p) number packet = (n ≡ number) × (p ≡ packet)
HandsOver _ number packet = ⊥

-- the steps of a call that hands over an update: what becomes of it, and nothing else
pub record IsOfUpdate (me : Identity) (k : Known) (now : ℕ) (c : Call) (steps : List Step) : Type 0 where
  pub number : ℕ
  pub packet : Packet
  pub handed : HandsOver c number packet
  pub update : Registration
  pub asks : registration_in packet.head.source packet.head.home packet.body ≡ Some update
  pub rest : List Step
  pub steps_are : steps ≡ Called c ∷ rest
  pub answered : IsAnswered me number update (verdict (bench me k now update) update packet.body) rest

-- no acknowledgement
abbrev pub IsNoAck : Sending → Type 0
IsNoAck (SendsAck update status sequence lifetime kbm) = ⊥
IsNoAck _ = Unit {0}

-- a step that is about no update: nothing is accepted or denied, and what is sent is no acknowledgement
abbrev pub IsPlain : Identity → Call → (now : ℕ) → Step → Type 0
IsPlain me c now (Sends packet) = (x : Sending) × IsNoAck x × IsPacketOf me c now x packet
IsPlain me c now (Accepts number home binding accepted) = ⊥
IsPlain me c now (Denies number status) = ⊥
IsPlain me c now _ = Unit {0}

-- an acceptance comes after the sequence that is kept of its home, under a nonce that is valid then, where there is room for
-- the home, and for 420 s at most
pub record IsInPlace (k : Known) (now : ℕ) (home : Address) (sequence nonce end : ℕ) : Type 0 where
  pub newer : (last : ℕ) → floor_of k now home ≡ Some last → is_after sequence last ≡ true
  pub valid : IsValidAt now nonce
  pub room : is_full_for k now home ≡ false
  pub short : end ≤ now + 420000

abbrev pub AcceptsInPlace : Known → (now : ℕ) → Step → Type 0
AcceptsInPlace k now (Accepts number home binding accepted) = IsInPlace k now home accepted.sequence accepted.home_nonce accepted.end.0
AcceptsInPlace k now _ = Unit {0}
