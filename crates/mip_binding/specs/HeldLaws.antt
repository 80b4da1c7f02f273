-- Laws and invariants of Held: only proofs stand on them.
use Rattle.std.specs.Prelude.{◌≡◌, ◌≢◌, ◌<◌, ◌++◌, true, false, ℕ, List, [], ◌∷◌, is_some, Bool, ◌&&◌, ◌==◌}
use Rattle.std.specs.List.{list_any}
use Rattle.mip_binding.specs.Acceptance.{Acceptance, Binding, binding_of, is_deletion}
use Rattle.mip_binding.specs.Held.{floor}

-- an acceptance of this home under this number
abbrev pub is_of : ℕ → ℕ → Acceptance → Bool
is_of home number a = (a.home == home) && (a.number == number)

-- a binding outlives these later acceptances, where those came before: none of its home is a deletion, has
-- its number, or came when no sequence of the home was kept
abbrev pub Lives : ℕ → ℕ → List Acceptance → List Acceptance → Type 0
Lives home number before [] = Unit {0}
Lives home number before (x ∷ xs) =
    (x.home ≡ home → (is_deletion x ≡ false) × (x.number ≢ number) × (is_some (floor before home x.at) ≡ true))
    × Lives home number (before ++ x ∷ []) xs

-- a binding lives: it was accepted, and outlives what came later
pub record LivesIn (xs : List Acceptance) (home : ℕ) (binding : Binding) : Type 0 where
  pub acceptance : Acceptance
  pub is : binding_of acceptance ≡ binding
  pub before : List Acceptance
  pub after : List Acceptance
  pub whole : xs ≡ before ++ acceptance ∷ after
  pub of_home : acceptance.home ≡ home
  pub lives : Lives home acceptance.number (before ++ acceptance ∷ []) after

-- a care-of address is held by a binding that lives
pub record HeldFrom (xs : List Acceptance) (home now careof : ℕ) : Type 0 where
  pub binding : Binding
  pub lives : LivesIn xs home binding
  pub of_careof : binding.careof ≡ careof
  pub away : careof ≢ home
  pub in_time : now < binding.end

-- and by the one of this number
pub record HeldUnder (xs : List Acceptance) (home number now careof : ℕ) : Type 0 where
  pub from : HeldFrom xs home now careof
  pub of_number : from.binding.number ≡ number

-- a sequence is kept from the last acceptance of its home
pub record FloorFrom (xs : List Acceptance) (home sequence : ℕ) : Type 0 where
  pub acceptance : Acceptance
  pub before : List Acceptance
  pub after : List Acceptance
  pub whole : xs ≡ before ++ acceptance ∷ after
  pub of_home : acceptance.home ≡ home
  pub of_sequence : acceptance.sequence ≡ sequence
  pub last : list_any (λ a. a.home == home) after ≡ false
