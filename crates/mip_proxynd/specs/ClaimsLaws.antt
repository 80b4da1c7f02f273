-- Laws and invariants of Claims: only proofs stand on them.
use Rattle.std.specs.Prelude.{◌≡◌, ℕ, ◌<◌, [], ◌∷◌, IfSome, false, Option}
use Rattle.std.specs.List.{AllByRecursion}
use Rattle.mip_proxynd.specs.declared.claim.Claim.{Claim}
use Rattle.mip_proxynd.specs.Fields.{is_group}
use Rattle.mip_proxynd.specs.Claims.{Rows}

-- addresses rise, so each has one row at most
abbrev pub Rise : Rows → Type 0
Rise [] = Unit {0}
Rise (row ∷ rows) = AllByRecursion (λ other. row.0 < other.0) rows × Rise rows

-- the row of an address that is no multicast address, with a claim of this address or none
abbrev pub IsOwn : ℕ × Option Claim → Type 0
IsOwn row = (is_group (record { 0 = row.0 }) ≡ false) × IfSome row.1 (λ claim. claim.address.0 ≡ row.0)
