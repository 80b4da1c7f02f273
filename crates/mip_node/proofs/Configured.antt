-- What a configuration keeps to is what its role asks.
use Rattle.std.proofs.Common.{◌≡◌, ℕ, ◌≤◌, List, [], ◌∷◌, length, Bool, true, false, refl, sym, subst, ◌∙◌, ap, arith}
use Rattle.std.proofs.lemmas.Bool.{leb-true}
use Rattle.std.specs.Prelude.{◌&&◌, ◌||◌, ◌==◌, not, nat_le, Result, Ok, Err, IfOk}
use Rattle.std.specs.List.{AllByRecursion, list_all}
use Rattle.mip_words.specs.Addresses.{is_routable}
use Rattle.mip_words.specs.declared.address.Address.{Address}
use Rattle.mip_schedule.specs.EventTimes.{is_reserved}
use Rattle.mip_history.specs.Setup.{Kind}
use Rattle.mip_roles.specs.Hosts.{IsFitKind}
use Rattle.mip_roles.specs.Payloads.{is_payload}
use Rattle.mip_roles.specs.Roles.{last_of, new_role}
use Rattle.mip_roles.specs.declared.role.Role.{Role}
use Rattle.mip_roles.proofs.RoleLaws.{new_last}
use Rattle.mip_config.specs.Configs.{Content}
use Rattle.mip_config.specs.Facts.{address_of, is_home, is_sendable}
use Rattle.mip_config.specs.declared.payload.Payload.{Payload}
use Rattle.mip_config.specs.declared.role.Role.{Role as Named}
use Rattle.mip_config.specs.declared.role.Role.TheVariants.{Agent, Correspondent, Mobile}
use Rattle.mip_node.specs.Roles.{IsBy, kind_by, kind_in, new_role_of}

both : (a b : Bool) → (a && b) ≡ true → (a ≡ true) × (b ≡ true)
both true b e = (refl, e)
both false b e = absurd cc

each_home : (serves : List Address) → list_all is_home serves ≡ true → AllByRecursion (λ a. is_routable a.0 ≡ true) serves
each_home [] e = tt
each_home (a ∷ more) e = let p = both (is_home a) (list_all is_home more) e in (p.0, each_home more p.1)

-- the addresses of a configured node may stand in a routing header
pub fits : (serves : List Address) (role : Named) → is_routable (address_of role).0 ≡ true → list_all is_home serves ≡ true → IsFitKind (address_of role) (kind_by serves role)
fits serves (Agent address preference life room) own homes = each_home serves homes
fits serves (Correspondent address room) own homes = tt
fits serves (Mobile address agent) own homes = own

-- a new role is that of the configuration, and has had no call
pub new_is : {E : Type 0} (c : Content) (r : Result Role E) (own : Address) (kind : Kind) → own ≡ address_of c.role → kind ≡ kind_in c
    → IfOk r (λ x. x ≡ new_role c.seed 1 c.node.0 0 own kind) → IfOk r (λ x. x ≡ new_role_of c)
unfolding new_role_of
new_is c (Err e) own kind is_own is_kind new = tt
new_is c (Ok x) own kind is_own is_kind new =
    new ∙ ap (λ (a : Address). new_role c.seed 1 c.node.0 0 a kind) is_own ∙ ap (new_role c.seed 1 c.node.0 0 (address_of c.role)) is_kind

pub new_is_early : {E : Type 0} (seed : List ℕ) (numbers n : ℕ) (own : Address) (kind : Kind) (r : Result Role E) → IfOk r (λ x. x ≡ new_role seed numbers n 0 own kind) → IfOk r (λ x. IsBy x 0)
unfolding IsBy
new_is_early seed numbers n own kind (Err e) new = tt
new_is_early seed numbers n own kind (Ok x) new =
    let first : last_of (new_role seed numbers n 0 own kind) ≡ 0 = new_last seed numbers n 0 own kind in
    subst (λ (y : Role). last_of y ≤ 0) (sym new) (omega arith)

payload_of : (b0 b41 b43 b44 b50 b51 b58 b59 b60 b135 : Bool)
    → (b0 || b41 || b43 || b44 || b50 || b51 || b58 || b59 || b60 || b135) ≡ false
    → ((not b41 && not b58 && not b59 && not b135) && not (((((b0 || b43) || b44) || b50) || b51) || b60)) ≡ true
payload_of true b41 b43 b44 b50 b51 b58 b59 b60 b135 e = absurd cc
payload_of false true b43 b44 b50 b51 b58 b59 b60 b135 e = absurd cc
payload_of false false true b44 b50 b51 b58 b59 b60 b135 e = absurd cc
payload_of false false false true b50 b51 b58 b59 b60 b135 e = absurd cc
payload_of false false false false true b51 b58 b59 b60 b135 e = absurd cc
payload_of false false false false false true b58 b59 b60 b135 e = absurd cc
payload_of false false false false false false true b59 b60 b135 e = absurd cc
payload_of false false false false false false false true b60 b135 e = absurd cc
payload_of false false false false false false false false true b135 e = absurd cc
payload_of false false false false false false false false false true e = absurd cc
payload_of false false false false false false false false false false e = refl

-- what is not reserved is data
data_fits : (proto : ℕ) → is_reserved proto ≡ false → is_payload proto ≡ true
unfolding is_reserved
data_fits p e = payload_of (p == 0) (p == 41) (p == 43) (p == 44) (p == 50) (p == 51) (p == 58) (p == 59) (p == 60) (p == 135) e

free : (b : Bool) → not b ≡ true → b ≡ false
free true e = absurd cc
free false e = refl

short : (a b : ℕ) → nat_le a b ≡ true → a ≤ b
short a b e = leb-true a b e

-- a payload of a configuration may be sent
pub askable : (p : Payload) → is_sendable p ≡ true → (is_payload p.proto ≡ true) × (length p.payload ≤ 512)
askable p e =
    let first = both (is_routable p.to.0) (not (is_reserved p.proto) && nat_le (length p.payload) 512) e in
    let then = both (not (is_reserved p.proto)) (nat_le (length p.payload) 512) first.1 in
    (data_fits p.proto (free (is_reserved p.proto) then.0), short (length p.payload) 512 then.1)
