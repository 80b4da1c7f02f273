-- What the calls on a handle tell, and what they make of it: 11 where it is closed, and else what its station tells.
use Rattle.std.specs.Prelude.{◌≡◌, ◌⊎◌, ℕ, List, Bool, true, false, Option, Some, None, IsSomeAnd}
use Rattle.mip_words.specs.declared.address.Address.{Address}
use Rattle.mip_nonce.specs.Secrets.{Life}
use Rattle.mip_c_correspondent.specs.declared.row_fields.RowFields.{RowFields}
use Rattle.mip_c_correspondent.specs.declared.station.Station.{Station}
use Rattle.mip_c_correspondent.specs.Stations.{TellsRoute, TellsRow, IsFresh, has_room}

-- the care-of address of a home is asked for
abbrev pub RouteAt : Option Station → ℕ → Address → ℕ → List ℕ → List ℕ → Type 0
RouteAt None now peer status old new = (status ≡ 11) × (new ≡ old)
RouteAt (Some s) now peer status old new = TellsRoute s now peer status old new

-- a row is asked for
abbrev pub RowAt : Option Station → ℕ → ℕ → ℕ → RowFields → RowFields → Type 0
RowAt None now place status old new = (status ≡ 11) × (new ≡ old)
RowAt (Some s) now place status old new = TellsRow s now place status old new

-- a closed handle is opened: 14 where there can't be such room, 5 where memory has run out
abbrev pub OpensIf : Bool → Option Station → Address → Life → ℕ → ℕ → ℕ → Type 0
OpensIf false new own secrets room numbers status = (status ≡ 14) × (new ≡ None)
OpensIf true new own secrets room numbers status =
    ((status ≡ 5) × (new ≡ None)) ⊎ ((status ≡ 0) × IsSomeAnd new (IsFresh own secrets room numbers))

-- 13 where it is open, and stays as it was
abbrev pub Opens : Option Station → Option Station → Address → Life → ℕ → ℕ → ℕ → Type 0
Opens (Some s) new own secrets room numbers status = (status ≡ 13) × (new ≡ Some s)
Opens None new own secrets room numbers status = OpensIf (has_room room numbers) new own secrets room numbers status
