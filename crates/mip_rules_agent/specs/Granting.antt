-- For how long a home agent registers: an hour at most, no longer than was asked, and not beyond the valid time of the prefix.
-- RFC 6275 section 10.3.1
use Rattle.std.specs.Prelude.{◌≡◌, ℕ, ◌≤◌, ◌*◌, List, true, false, Option}
use Rattle.mip_words.specs.declared.shield.Shield.{Shield}
use Rattle.mip_outside.specs.declared.claim.Claim.{Claim}
use Rattle.mip_reception.specs.declared.registration.Registration.{Registration}
use Rattle.mip_reception.specs.Registrations.{deletes}
use Rattle.mip_rules_agent.specs.declared.identity.Identity.{Identity}
use Rattle.mip_rules_agent.specs.Known.{Known}
use Rattle.mip_rules_agent.specs.Steps.{Step}
use Rattle.mip_rules_agent.specs.Questions.{valid_at}
use Rattle.mip_rules_agent.specs.TakenLaws.{IsUpdateTaken}

-- the time is in units of 4 s, the valid time in seconds; an update that ends the registration is granted none, and any other
-- some
pub record IsBounded (valid : ℕ) (r : Registration) (granted : ℕ) : Type 0 where
  pub hour : granted ≤ 900
  pub asked : granted ≤ r.lifetime
  pub within : 4 * granted ≤ valid
  pub none : deletes r ≡ true → granted ≡ 0
  pub some : deletes r ≡ false → 1 ≤ granted

-- what a call registers, it registers for such a time
pub record IsGranted (me : Identity) (k : Known) (now number : ℕ) (shield : Option Shield) (bytes : List ℕ) (claim : Claim) (steps : List Step) : Type 0 where
  pub taken : IsUpdateTaken me k now number shield bytes claim steps
  pub bounded : IsBounded (valid_at k now) taken.update taken.granted
