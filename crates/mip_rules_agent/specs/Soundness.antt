-- What is known of an update that a home agent accepted, and of one that it denied for its sequence.
-- RFC 6275 sections 10.3.1 and 10.3.2
use Rattle.std.specs.Prelude.{◌≡◌, ℕ, ◌≤◌, true, false, Option, Some}
use Rattle.mip_words.specs.Sequence.{is_after}
use Rattle.mip_words.specs.declared.address.Address.{Address}
use Rattle.mip_words.specs.declared.shield.Shield.{Shield}
use Rattle.mip_outside.specs.declared.claim.Claim.{Claim}
use Rattle.mip_outside.specs.Places.{is_held}
use Rattle.mip_reception.specs.declared.registration.Registration.{Registration}
use Rattle.mip_reception.specs.Registrations.{home_of, deletes, registered_of}
use Rattle.mip_rules_agent.specs.declared.bench.Bench.{Bench}
use Rattle.mip_rules_agent.specs.Verdicts.{is_near, granted_of, is_away}

-- it came under the shield of this home address
pub record IsShielded (shield : Option Shield) (home : Address) : Type 0 where
  pub ends : Shield
  pub stands : shield ≡ Some ends
  pub from : ends.from.0 ≡ home.0

-- it is for a home agent, under the shield of its home address, which is served; its care-of address is on another link
pub record IsFit (b : Bench) (shield : Option Shield) (r : Registration) : Type 0 where
  pub for_agent : r.for_agent ≡ true
  pub shielded : IsShielded shield (home_of r)
  pub near : is_near (home_of r) b.own ≡ true
  pub valid : 4 ≤ b.valid
  pub served : b.served ≡ true
  pub away : deletes r ≡ false → is_away b r ≡ true

-- it was accepted for this home, care-of address and sequence, and for this time in units of 4 s
pub record IsSound (b : Bench) (shield : Option Shield) (claim : Claim) (r : Registration) (home careof : Address) (sequence granted : ℕ) : Type 0 where
  pub fit : IsFit b shield r
  pub of_home : home ≡ home_of r
  pub of_careof : careof ≡ registered_of r
  pub of_sequence : sequence ≡ r.sequence
  pub of_time : granted ≡ granted_of b r
  pub newer : (last : ℕ) → b.kept ≡ Some last → is_after r.sequence last ≡ true
  pub room : deletes r ≡ false → b.full ≡ false
  pub held : deletes r ≡ false → is_held claim ≡ true

-- it was denied for its sequence: it does not come after the one that is kept
pub record IsBehind (b : Bench) (r : Registration) (last : ℕ) : Type 0 where
  pub kept : b.kept ≡ Some last
  pub behind : is_after r.sequence last ≡ false
