-- Engines stay calm.
use Rattle.std.proofs.Common.{◌≡◌, ℕ, zero, suc, ◌<◌, ◌≤◌, ◌^◌, List, [], ◌∷◌, ◌++◌, length, subst, arith, length-set}
use Rattle.std.specs.Prelude.{Some, slice_get, slice_set}
use Rattle.std.proofs.lemmas.List.{length-append}
use Rattle.mip_roles.specs.declared.role.Role.{Role}
use Rattle.mip_roles.specs.declared.role.Role.TheVariants.{Correspondent, Agent, Mobile}
use Rattle.mip_roles.specs.Nodes.{NodeSeen, reborn, next_role}
use Rattle.mip_roles.specs.Roles.{last_of, new_role}
use Rattle.mip_roles.proofs.RoleLaws.{new_last}
use Rattle.mip_engine.specs.Engines.{IsCalm}

pub calm_set : (nodes : List NodeSeen) (now n : ℕ) (c : NodeSeen) → IsCalm nodes now → last_of c.role ≤ now → IsCalm (slice_set nodes n c) now
calm_set nodes now n c calm early = record { early = calm.early; few = omega (arith, calm.few, length-set nodes n c); later = by nodes n calm.later }
  where
    by : (xs : List NodeSeen) (i : ℕ) → ((m : ℕ) (x : NodeSeen) → slice_get xs m ≡ Some x → last_of x.role ≤ now)
        → (m : ℕ) (x : NodeSeen) → slice_get (slice_set xs i c) m ≡ Some x → last_of x.role ≤ now
    by [] i all m x found = absurd cc
    by (y ∷ ys) zero all zero x found = let same : c ≡ x = cc in subst (λ (z : NodeSeen). last_of z.role ≤ now) same early
    by (y ∷ ys) zero all (suc m) x found = all (suc m) x found
    by (y ∷ ys) (suc i) all zero x found = all zero x found
    by (y ∷ ys) (suc i) all (suc m) x found = by ys i (λ m x found. all (suc m) x found) m x found

pub calm_later : (nodes : List NodeSeen) (now moment : ℕ) → IsCalm nodes now → now ≤ moment → moment < 2 ^ 62 → IsCalm nodes moment
calm_later nodes now moment calm after early = record { early = early; few = calm.few; later = λ n c found. let l = calm.later n c found in omega arith }

pub calm_push : (nodes : List NodeSeen) (now : ℕ) (c : NodeSeen) → IsCalm nodes now → length nodes < 32 → last_of c.role ≤ now → IsCalm (nodes ++ c ∷ []) now
calm_push nodes now c calm room early = record { early = calm.early; few = omega (arith, room, length-append nodes (c ∷ [])); later = by nodes calm.later }
  where
    by : (xs : List NodeSeen) → ((m : ℕ) (x : NodeSeen) → slice_get xs m ≡ Some x → last_of x.role ≤ now)
        → (m : ℕ) (x : NodeSeen) → slice_get (xs ++ c ∷ []) m ≡ Some x → last_of x.role ≤ now
    by [] all zero x found = let same : c ≡ x = cc in subst (λ (z : NodeSeen). last_of z.role ≤ now) same early
    by [] all (suc m) x found = absurd cc
    by (y ∷ ys) all zero x found = all zero x found
    by (y ∷ ys) all (suc m) x found = by ys (λ m x found. all (suc m) x found) m x found

-- a node in its next life was called at no later moment
pub reborn_early : (seed : List ℕ) (numbers n : ℕ) (c : NodeSeen) (now : ℕ) → last_of c.role ≤ now → last_of (reborn seed numbers n c).role ≤ now
reborn_early seed numbers n c now early = by c.role early
  where
    by : (role : Role) → last_of role ≤ now → last_of (next_role role (new_role seed numbers n (suc c.life) c.host.address c.host.kind)) ≤ now
    by (Correspondent x) early = omega (arith, new_last seed numbers n (suc c.life) c.host.address c.host.kind)
    by (Agent x) early = omega (arith, new_last seed numbers n (suc c.life) c.host.address c.host.kind)
    by (Mobile k) early = early
