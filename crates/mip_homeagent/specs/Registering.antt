-- What an update is that a home agent accepts, and that what is registered of a home changes only by such a one, or by the end of
-- its time. RFC 6275 sections 10.3.1 and 10.3.2
use Rattle.std.specs.Prelude.{◌≡◌, ◌⊎◌, ℕ, Option, Some, true}
use Rattle.mip_words.specs.Sequence.{is_after}
use Rattle.mip_words.specs.declared.address.Address.{Address}
use Rattle.mip_words.specs.declared.shield.Shield.{Shield}
use Rattle.mip_reception.specs.declared.registration.Registration.{Registration}
use Rattle.mip_reception.specs.Registrations.{home_of}
use Rattle.mip_rules_agent.specs.declared.identity.Identity.{Identity}
use Rattle.mip_rules_agent.specs.Known.{Known}
use Rattle.mip_rules_agent.specs.Calls.{Call}
use Rattle.mip_rules_agent.specs.Questions.{careof_at, kept_of}
use Rattle.mip_rules_agent.specs.Soundness.{IsShielded}
use Rattle.mip_rules_agent.specs.TakenLaws.{IsRegisteredBy}

-- an update of this home, which came under its shield, and comes after the sequence that is kept of it
pub record IsOwnUpdate (k : Known) (shield : Option Shield) (r : Registration) (home : Address) : Type 0 where
  pub of_home : home ≡ home_of r
  pub shielded : IsShielded shield home
  pub newer : (last : ℕ) → kept_of k home ≡ Some last → is_after r.sequence last ≡ true

-- the address that is registered for a home is as it was, at each moment, or an update of that home changed it
abbrev pub ChangesByUpdate : Identity → (before : Known) → (now : ℕ) → Call → (after : Known) → Type 0
ChangesByUpdate me before now c after = (home : Address) (later : ℕ) → (careof_at after later home ≡ careof_at before later home) ⊎ IsRegisteredBy me before now c home
