-- What becomes of an update at a home agent, by the verdict on it. RFC 6275 sections 9.5.4, 10.3.1 and 10.3.2
use Rattle.std.specs.Prelude.{◌≡◌, ℕ, ◌+◌, ◌*◌, List, [], ◌∷◌, Bool, true, false, if◌then◌else◌, Option, Some, None}
use Rattle.std.specs.List.{filter}
use Rattle.mip_words.specs.declared.shield.Shield.{Shield}
use Rattle.mip_outside.specs.declared.claim.Claim.{Claim}
use Rattle.mip_reception.specs.declared.registration.Registration.{Registration}
use Rattle.mip_reception.specs.Registrations.{home_of, registered_of}
use Rattle.mip_reception.specs.Acks.{ack_packet}
use Rattle.mip_rules_agent.specs.declared.identity.Identity.{Identity}
use Rattle.mip_rules_agent.specs.declared.home_verdict.HomeVerdict.{HomeVerdict}
use Rattle.mip_rules_agent.specs.declared.home_verdict.HomeVerdict.TheVariants.{Refuse, Deny, Accept}
use Rattle.mip_rules_agent.specs.Known.{Known}
use Rattle.mip_rules_agent.specs.Calls.{Call, Take}
use Rattle.mip_rules_agent.specs.Steps.{Step, Called, Sends, Registers, Denies, Drops}
use Rattle.mip_rules_agent.specs.Questions.{holds}
use Rattle.mip_rules_agent.specs.Verdicts.{verdict}
use Rattle.mip_rules_agent.specs.Rules.{bench, claim_with}
use Rattle.mip_rules_agent.specs.Taken.{IsUpdateIn}

-- the verdict on an update that is handed over
abbrev pub verdict_at : Identity → Known → (now : ℕ) → Option Shield → Claim → Registration → HomeVerdict
verdict_at me k now shield claim r = verdict (bench me k now r) shield (claim_with (holds k (home_of r)) claim) r

-- an acknowledgement with this status, sequence and lifetime tells of the verdict: nothing tells of silence, a denial has no
-- lifetime, and an acceptance has status 0, the sequence of the update and the lifetime granted
abbrev pub Tells : Registration → HomeVerdict → (status sequence lifetime : ℕ) → Type 0
Tells r (Refuse why) status sequence lifetime = ⊥
Tells r (Deny denied last) status sequence lifetime = (status ≡ denied) × (sequence ≡ last) × (lifetime ≡ 0)
Tells r (Accept home careof accepted granted) status sequence lifetime = (status ≡ 0) × (sequence ≡ r.sequence) × (lifetime ≡ granted)

-- the acknowledgement of an update, under the shield of agent and home
abbrev pub ack_of : Identity → Registration → (status sequence lifetime : ℕ) → Step
ack_of me r status sequence lifetime = Sends (Some (record { from = me.own; to = home_of r })) (ack_packet me.own r status sequence lifetime None)

abbrev pub is_sending : Step → Bool
is_sending (Sends shield packet) = true
is_sending _ = false

-- an accepted update is registered, until 4 s later for each unit granted; what is sent behind that is its acknowledgement,
-- where flag A asks
pub record IsRegistered (me : Identity) (now number : ℕ) (r : Registration) (v : HomeVerdict) (steps : List Step) : Type 0 where
  pub granted : ℕ
  pub accepts : v ≡ Accept (home_of r) (registered_of r) r.sequence granted
  pub rest : List Step
  pub steps_are : steps ≡ Registers number (home_of r) (record { careof = registered_of r; sequence = r.sequence; end = record { 0 = now + 4000 * granted } }) ∷ rest
  pub told : filter is_sending rest ≡ (if r.ack then ack_of me r 0 r.sequence granted ∷ [] else [])

-- what is refused is dropped in silence; what is denied is told, and acknowledged with its status and sequence and no lifetime
abbrev pub IsAnswered : Identity → (now number : ℕ) → Registration → HomeVerdict → List Step → Type 0
IsAnswered me now number r (Refuse why) steps = steps ≡ Drops number why ∷ []
IsAnswered me now number r (Deny status last) steps = steps ≡ Denies number status ∷ ack_of me r status last 0 ∷ []
IsAnswered me now number r (Accept home careof sequence granted) steps = IsRegistered me now number r (Accept home careof sequence granted) steps

-- the steps of a call that hands over this update
pub record IsOfUpdate (me : Identity) (k : Known) (now number : ℕ) (shield : Option Shield) (bytes : List ℕ) (claim : Claim) (r : Registration) (steps : List Step) : Type 0 where
  pub rest : List Step
  pub steps_are : steps ≡ Called (Take number shield bytes claim) ∷ rest
  pub answered : IsAnswered me now number r (verdict_at me k now shield claim r) rest

-- it is denied with this status
pub record IsDenied (me : Identity) (k : Known) (now : ℕ) (shield : Option Shield) (bytes : List ℕ) (claim : Claim) (status : ℕ) : Type 0 where
  pub update : Registration
  pub is_in : IsUpdateIn bytes update
  pub last : ℕ
  pub verdict_is : verdict_at me k now shield claim update ≡ Deny status last
