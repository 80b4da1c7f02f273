-- What a call accepts: the update in the packet that was handed over, at once, with the verdict Accept; and so does the
-- correspondent part of a mobile.
use Rattle.std.specs.Prelude.{◌≡◌, ℕ, List, ◌∷◌, false, Option, Some, Ok}
use Rattle.std.specs.List.{list_any}
use Rattle.mip_words.specs.declared.address.Address.{Address}
use Rattle.mip_words.specs.declared.shield.Shield.{Shield}
use Rattle.mip_ipv6.specs.Packet.{Packet}
use Rattle.mip_ipv6.specs.Reading.{packet_of}
use Rattle.mip_tokens.specs.declared.kbm.Kbm.{Kbm}
use Rattle.mip_bcache.specs.declared.accepted.Accepted.{Accepted}
use Rattle.mip_rules_correspondent.specs.declared.identity.Identity.{Identity}
use Rattle.mip_rules_correspondent.specs.declared.known.Known.{Known}
use Rattle.mip_reception.specs.declared.registration.Registration.{Registration}
use Rattle.mip_rules_correspondent.specs.declared.verdict.Verdict.TheVariants.{Accept}
use Rattle.mip_rules_correspondent.specs.Calls.{Take, Part}
use Rattle.mip_rules_correspondent.specs.Steps.{Step, Called, Accepts}
use Rattle.mip_rules_correspondent.specs.StepsLaws.{is_acceptance}
use Rattle.mip_rules_correspondent.specs.Refusing.{is_refusal}
use Rattle.mip_reception.specs.Registrations.{registration_in}
use Rattle.mip_rules_correspondent.specs.Verdicts.{verdict}
use Rattle.mip_rules_correspondent.specs.Rules.{bench}

-- the update in the packet is accepted at once, with this verdict
pub record IsUpdateTaken (me : Identity) (k : Known) (now number : ℕ) (shield : Option Shield) (bytes : List ℕ) (steps : List Step) : Type 0 where
  pub packet : Packet
  pub read : packet_of bytes ≡ Ok packet
  pub mobility : packet.head.proto ≡ 135
  pub registration : Registration
  pub asks : registration_in packet.head.source packet.head.home packet.body ≡ Some registration
  pub home : Address
  pub binding : ℕ
  pub accepted : Accepted
  pub granted : ℕ
  pub kbm : Kbm
  pub verdict_is : verdict (bench me k now registration) registration packet.body ≡ Accept home binding accepted granted kbm
  pub rest : List Step
  pub steps_are : steps ≡ Called (Take number shield bytes) ∷ Accepts number home binding accepted ∷ rest
  pub none : list_any is_acceptance rest ≡ false
  pub kept : list_any is_refusal rest ≡ false

-- the update in a packet that was handed to the correspondent part of a mobile is accepted at once, with this verdict
pub record IsUpdateParted (me : Identity) (k : Known) (now number : ℕ) (packet : Packet) (steps : List Step) : Type 0 where
  pub mobility : packet.head.proto ≡ 135
  pub registration : Registration
  pub asks : registration_in packet.head.source packet.head.home packet.body ≡ Some registration
  pub home : Address
  pub binding : ℕ
  pub accepted : Accepted
  pub granted : ℕ
  pub kbm : Kbm
  pub verdict_is : verdict (bench me k now registration) registration packet.body ≡ Accept home binding accepted granted kbm
  pub rest : List Step
  pub steps_are : steps ≡ Called (Part number packet) ∷ Accepts number home binding accepted ∷ rest
  pub none : list_any is_acceptance rest ≡ false
  pub kept : list_any is_refusal rest ≡ false
