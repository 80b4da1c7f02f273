-- Laws and invariants of Taken: only proofs stand on them.
use Rattle.std.specs.Prelude.{◌≡◌, ℕ, List, [], ◌∷◌, ◌++◌, Bool, true, false, not, ◌==◌, if◌then◌else◌, Option, Some}
use Rattle.std.specs.List.{list_any}
use Rattle.mip_words.specs.Sequence.{is_after}
use Rattle.mip_words.specs.declared.address.Address.{Address}
use Rattle.mip_words.specs.declared.shield.Shield.{Shield}
use Rattle.mip_outside.specs.declared.claim.Claim.{Claim}
use Rattle.mip_reception.specs.declared.registration.Registration.{Registration}
use Rattle.mip_reception.specs.Registrations.{home_of, deletes, registered_of}
use Rattle.mip_rules_agent.specs.declared.identity.Identity.{Identity}
use Rattle.mip_rules_agent.specs.declared.home_verdict.HomeVerdict.TheVariants.{Accept}
use Rattle.mip_rules_agent.specs.Known.{Known}
use Rattle.mip_rules_agent.specs.Calls.{Call, Take}
use Rattle.mip_rules_agent.specs.Steps.{Step, Called, Registers, Claims, Releases}
use Rattle.mip_rules_agent.specs.StepsLaws.{is_registration}
use Rattle.mip_rules_agent.specs.Refusing.{is_refusal}
use Rattle.mip_rules_agent.specs.Questions.{kept_of, holds, binding_of}
use Rattle.mip_rules_agent.specs.Verdicts.{verdict, binding_for}
use Rattle.mip_rules_agent.specs.Rules.{bench, claim_with}
use Rattle.mip_rules_agent.specs.Doing.{transition_of}
use Rattle.mip_rules_agent.specs.Taken.{IsUpdateIn}
use Rattle.mip_rules_agent.specs.Answering.{ack_of}

-- behind a registration the home address is claimed, where it was not held; behind the end of one it is given up, where it was
abbrev pub claims_behind : (held ends : Bool) → Address → List Step
claims_behind true true home = Releases home ∷ []
claims_behind false false home = Claims home ∷ []
claims_behind _ _ home = []

-- the update in the packet is accepted at once, with this verdict
pub record IsUpdateTaken (me : Identity) (k : Known) (now number : ℕ) (shield : Option Shield) (bytes : List ℕ) (claim : Claim) (steps : List Step) : Type 0 where
  pub update : Registration
  pub is_in : IsUpdateIn bytes update
  pub home : Address
  pub careof : Address
  pub sequence : ℕ
  pub granted : ℕ
  pub verdict_is : verdict (bench me k now update) shield (claim_with (holds k (home_of update)) claim) update ≡ Accept home careof sequence granted
  pub rest : List Step
  pub steps_are : steps ≡ Called (Take number shield bytes claim) ∷ Registers number home (binding_for now careof sequence granted) ∷ rest
  pub behind : rest ≡ claims_behind (holds k (home_of update)) (deletes update) home ++ (if update.ack then ack_of me update 0 update.sequence granted ∷ [] else [])
  pub none : list_any is_registration rest ≡ false
  pub kept : list_any is_refusal rest ≡ false

-- a call registers a home, or ends its registration: it hands over an update for that home, which came under its shield and
-- comes after the sequence that is kept
pub record IsRegisteredBy (me : Identity) (k : Known) (now : ℕ) (c : Call) (home : Address) : Type 0 where
  pub number : ℕ
  pub shield : Shield
  pub bytes : List ℕ
  pub claim : Claim
  pub called : c ≡ Take number (Some shield) bytes claim
  pub from : shield.from.0 ≡ home.0
  pub update : Registration
  pub is_in : IsUpdateIn bytes update
  pub of_home : (home_of update).0 ≡ home.0
  pub newer : (last : ℕ) → kept_of k home ≡ Some last → is_after update.sequence last ≡ true
  pub granted : ℕ
  pub becomes : binding_of (transition_of me k now c).known home ≡ Some (binding_for now (registered_of update) update.sequence granted)

-- behind a call that registers a home its address is held, and behind one that ends its registration it is not
abbrev pub HoldsBehind : (behind : Known) → Step → Type 0
HoldsBehind behind (Registers number home b) = holds behind home ≡ not (b.careof.0 == home.0)
HoldsBehind behind _ = Unit {0}
