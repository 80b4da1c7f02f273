-- The verdict read row by row: each row where those before it do not apply. RFC 6275 sections 6.1.8, 10.3.1 and 10.3.2
use Rattle.std.specs.Prelude.{◌≡◌, ◌⊎◌, ℕ, ◌≤◌, ◌<◌, true, false, Option, Some}
use Rattle.mip_words.specs.Sequence.{is_after}
use Rattle.mip_words.specs.declared.shield.Shield.{Shield}
use Rattle.mip_words.specs.declared.why.Why.TheVariants as whys
use Rattle.mip_outside.specs.declared.claim.Claim.{Claim}
use Rattle.mip_outside.specs.Places.{is_held}
use Rattle.mip_reception.specs.declared.registration.Registration.{Registration}
use Rattle.mip_reception.specs.Registrations.{home_of, careof_of, deletes, registered_of}
use Rattle.mip_rules_agent.specs.declared.bench.Bench.{Bench}
use Rattle.mip_rules_agent.specs.declared.home_verdict.HomeVerdict.TheVariants.{Refuse, Deny, Accept}
use Rattle.mip_rules_agent.specs.Verdicts.{verdict}
use Rattle.mip_rules_agent.specs.Soundness.{IsShielded}
use Rattle.mip_rules_agent.specs.Placing.{AreOfOneLink, IsElsewhere}

-- an update for a home agent, under the shield of its home address
pub record IsHeard (shield : Option Shield) (r : Registration) : Type 0 where
  pub for_agent : r.for_agent ≡ true
  pub shielded : IsShielded shield (home_of r)

-- of a home of the agent's link, while its prefix is valid for 4 s more
pub record IsNear (b : Bench) (shield : Option Shield) (r : Registration) : Type 0 where
  pub heard : IsHeard shield r
  pub near : AreOfOneLink (home_of r) b.own
  pub valid : 4 ≤ b.valid

-- that is served
pub record IsServed (b : Bench) (shield : Option Shield) (r : Registration) : Type 0 where
  pub near : IsNear b shield r
  pub served : b.served ≡ true

-- it ends a registration, or has a care-of address of another link
pub record IsPlaced (b : Bench) (shield : Option Shield) (r : Registration) : Type 0 where
  pub served : IsServed b shield r
  pub elsewhere : deletes r ≡ false → IsElsewhere b.own (careof_of r)

-- it comes after the sequence that is kept
pub record IsNewer (b : Bench) (shield : Option Shield) (r : Registration) : Type 0 where
  pub placed : IsPlaced b shield r
  pub newer : (last : ℕ) → b.kept ≡ Some last → is_after r.sequence last ≡ true

-- the rows, each where those before it do not apply
pub record JudgesInOrder (b : Bench) (shield : Option Shield) (claim : Claim) (r : Registration) : Type 0 where
  -- silence: it is not for a home agent, or came without the shield of its home address
  pub role : r.for_agent ≡ false → verdict b shield claim r ≡ Refuse whys.Role
  pub unshielded : r.for_agent ≡ true → (IsShielded shield (home_of r) → ⊥) → verdict b shield claim r ≡ Refuse whys.Unshielded
  -- 132: the home has another prefix, or the prefix is hardly valid
  pub other_link : IsHeard shield r → (AreOfOneLink (home_of r) b.own → ⊥) → verdict b shield claim r ≡ Deny 132 r.sequence
  pub invalid : IsHeard shield r → b.valid < 4 → verdict b shield claim r ≡ Deny 132 r.sequence
  -- 133: the agent does not serve it
  pub unserved : IsNear b shield r → b.served ≡ false → verdict b shield claim r ≡ Deny 133 r.sequence
  -- 174: the care-of address is none of another link
  pub careof : IsServed b shield r → deletes r ≡ false → (IsElsewhere b.own (careof_of r) → ⊥) → verdict b shield claim r ≡ Deny 174 r.sequence
  -- 135: it does not come after the sequence that is kept
  pub sequence : (last : ℕ) → IsPlaced b shield r → b.kept ≡ Some last → is_after r.sequence last ≡ false → verdict b shield claim r ≡ Deny 135 last
  -- 130: there is no room
  pub room : IsNewer b shield r → deletes r ≡ false → b.full ≡ true → verdict b shield claim r ≡ Deny 130 r.sequence
  -- 134: somebody else holds the home address
  pub taken : IsNewer b shield r → deletes r ≡ false → b.full ≡ false → is_held claim ≡ false → verdict b shield claim r ≡ Deny 134 r.sequence
  -- else it is accepted
  pub ended : IsNewer b shield r → deletes r ≡ true → (granted : ℕ) × (verdict b shield claim r ≡ Accept (home_of r) (registered_of r) r.sequence granted)
  pub registered : IsNewer b shield r → deletes r ≡ false → b.full ≡ false → is_held claim ≡ true
      → (granted : ℕ) × (verdict b shield claim r ≡ Accept (home_of r) (registered_of r) r.sequence granted)
