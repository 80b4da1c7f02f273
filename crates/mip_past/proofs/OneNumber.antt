-- A home whose bindings have one number is as its last acceptance leaves it.
use Rattle.std.proofs.Common.{◌≡◌, ℕ, List, [], ◌∷◌, ◌++◌, Bool, true, false, refl, sym, ap, ◌∙◌, arith}
use Rattle.std.specs.Prelude.{Option, Some, None, option_map, option_and_then, fold, not, ◌&&◌, nat_lt, ◌==◌, if◌then◌else◌}
use Rattle.std.specs.List.{AllByRecursion}
use Rattle.mip_words.specs.Last.{or_else, last_where}
use Rattle.mip_binding.specs.Acceptance.{Acceptance, Binding, binding_of}
use Rattle.mip_binding.specs.Rows.{others_by}
use Rattle.mip_binding.specs.Homes.{HomeKept, kept_of, kept_with, joins, home_step, home_after, number_key}
use Rattle.mip_binding.specs.Held.{is_standing, careof_where, sequence_in, held, floor}
use Rattle.mip_past.specs.OneNumber.{last_of, careof_to_its_end, sequence_for_a_while}

-- a home with the binding of one acceptance
abbrev alone : Acceptance → HomeKept
alone a = kept_of a (binding_of a ∷ [])

abbrev IsNumbered : Option Acceptance → Type 0
IsNumbered None = ℕ
IsNumbered (Some a) = a.number ≡ 0

alone-again : (o : Option Acceptance) (x : Acceptance) → IsNumbered o → x.number ≡ 0 → kept_with (option_map alone o) x ≡ alone x
alone-again None x is zero = refl
alone-again (Some a) x is zero = by (joins (alone a) x)
  where
    same : (a.number == x.number) ≡ true
    same = grind (arith, is, zero)

    gone : others_by number_key x.number (binding_of a ∷ []) ≡ []
    gone = ap (λ (b : Bool). if not b then binding_of a ∷ [] else []) same

    by : (b : Bool) → (if b then kept_of x (others_by number_key x.number (binding_of a ∷ []) ++ binding_of x ∷ []) else alone x) ≡ alone x
    by true = ap (λ (l : List Binding). kept_of x (l ++ binding_of x ∷ [])) gone
    by false = refl

module _ (home : ℕ) where
  or-none : (o p : Option Acceptance) → or_else (or_else o None) p ≡ or_else o p
  or-none (Some a) p = refl
  or-none None p = refl

  or-some : (o p : Option Acceptance) (x : Acceptance) → or_else (or_else o (Some x)) p ≡ or_else o (Some x)
  or-some (Some a) p x = refl
  or-some None p x = refl

  folded : (xs : List Acceptance) (o : Option Acceptance) → IsNumbered o → AllByRecursion (λ a. a.number ≡ 0) xs
      → fold (home_step home) (option_map alone o) xs ≡ option_map alone (or_else (last_where (λ a. a.home == home) xs) o)
  folded [] o is are = refl
  folded (x ∷ xs) o is are = by (x.home == home) refl (folded xs (Some x) are.0 are.1) (folded xs o is are.1)
    where
      l : Option Acceptance
      l = last_where (λ a. a.home == home) xs

      by : (b : Bool) → (x.home == home) ≡ b
          → fold (home_step home) (Some (alone x)) xs ≡ option_map alone (or_else l (Some x))
          → fold (home_step home) (option_map alone o) xs ≡ option_map alone (or_else l o)
          → fold (home_step home) (if b then Some (kept_with (option_map alone o) x) else option_map alone o) xs
          ≡ option_map alone (or_else (or_else l (if b then Some x else None)) o)
      by true e here other =
          ap (λ (k : HomeKept). fold (home_step home) (Some k) xs) (alone-again o x is are.0)
          ∙ here
          ∙ ap (option_map alone) (sym (or-some l o x))
      by false e here other = other ∙ ap (option_map alone) (sym (or-none l o))

or-nothing : (o : Option Acceptance) → or_else o None ≡ o
or-nothing (Some a) = refl
or-nothing None = refl

after-last : (xs : List Acceptance) (home : ℕ) → AllByRecursion (λ a. a.number ≡ 0) xs → home_after home xs ≡ option_map alone (last_of home xs)
after-last xs home are = folded home xs None 0 are ∙ ap (option_map alone) (or-nothing (last_of home xs))

pub held-last : (xs : List Acceptance) (home now : ℕ) → AllByRecursion (λ a. a.number ≡ 0) xs → held xs home now ≡ option_and_then (careof_to_its_end home now) (last_of home xs)
unfolding held
held-last xs home now are = ap (careof_where (is_standing home now)) (after-last xs home are) ∙ by (last_of home xs)
  where
    by : (o : Option Acceptance) → careof_where (is_standing home now) (option_map alone o) ≡ option_and_then (careof_to_its_end home now) o
    by None = refl
    by (Some a) = at (not (a.careof == home) && nat_lt now a.end)
      where
        at : (b : Bool) → option_map (λ (x : Binding). x.careof) (if b then Some (binding_of a) else None) ≡ (if b then Some a.careof else None)
        at true = refl
        at false = refl

pub floor-last : (xs : List Acceptance) (home now : ℕ) → AllByRecursion (λ a. a.number ≡ 0) xs → floor xs home now ≡ option_and_then (sequence_for_a_while now) (last_of home xs)
unfolding floor
floor-last xs home now are = ap (sequence_in now) (after-last xs home are) ∙ by (last_of home xs)
  where
    by : (o : Option Acceptance) → sequence_in now (option_map alone o) ≡ option_and_then (sequence_for_a_while now) o
    by None = refl
    by (Some a) = refl
