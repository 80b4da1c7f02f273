-- What the calls on a handle tell, and what they make of it: 11 where it is closed, and else what its station tells.
use Rattle.std.specs.Prelude.{◌≡◌, ◌⊎◌, ℕ, List, Bool, true, false, ◌&&◌, Option, Some, None, IsSomeAnd}
use Rattle.mip_words.specs.declared.address.Address.{Address}
use Rattle.mip_rules_agent.specs.declared.identity.Identity.{Identity}
use Rattle.mip_c_agent.specs.declared.registration_fields.RegistrationFields.{RegistrationFields}
use Rattle.mip_c_agent.specs.declared.station.Station.{Station}
use Rattle.mip_c_agent.specs.Sixteens.{are_addresses, addresses_in, are_served}
use Rattle.mip_c_agent.specs.Stations.{TellsCareof, TellsRow, TellsDue, IsFresh}

-- the care-of address of a home is asked for
abbrev pub CareofAt : Option Station → ℕ → Address → ℕ → List ℕ → List ℕ → Type 0
CareofAt None now home status old new = (status ≡ 11) × (new ≡ old)
CareofAt (Some s) now home status old new = TellsCareof s now home status old new

-- a registered home is asked for
abbrev pub RowAt : Option Station → ℕ → ℕ → ℕ → RegistrationFields → RegistrationFields → Type 0
RowAt None now place status old new = (status ≡ 11) × (new ≡ old)
RowAt (Some s) now place status old new = TellsRow s now place status old new

-- the first end is asked for
abbrev pub DueAt : Option Station → ℕ → ℕ → ℕ → Type 0
DueAt None status old new = (status ≡ 11) × (new ≡ old)
DueAt (Some s) status old new = TellsDue s status old new

-- the bytes are addresses that can be served
abbrev pub can_serve : List ℕ → Bool
can_serve serves = are_addresses serves && are_served (addresses_in serves)

-- a closed handle is opened: 5 where memory has run out, 14 where the addresses can't be served
abbrev pub Begins : Bool → Option Station → Identity → List Address → ℕ → Type 0
Begins false new identity serves status = (status ≡ 14) × (new ≡ None)
Begins true new identity serves status = (status ≡ 0) × IsSomeAnd new (IsFresh identity serves)

-- 13 where it is open, and stays as it was
abbrev pub Opens : Option Station → Option Station → Identity → List ℕ → ℕ → Type 0
Opens (Some s) new identity serves status = (status ≡ 13) × (new ≡ Some s)
Opens None new identity serves status =
    ((status ≡ 5) × (new ≡ None)) ⊎ Begins (can_serve serves) new identity (addresses_in serves) status
