-- Who belongs to the circle of two ends: themselves, who holds their home addresses, and the addresses that they hold.
use Rattle.std.proofs.Common.{◌≡◌, ℕ, List, [], ◌∷◌, ◌++◌, Bool, true, false, refl, ap, ◌∙◌}
use Rattle.std.specs.Prelude.{Option, Some, ◌||◌, ◌==◌, option_to_list}
use Rattle.std.specs.List.{list_any}
use Rattle.std.specs.Option.{option_and_then}
use Rattle.std.proofs.lemmas.List.Folds.{list_any-append}
use Rattle.std.proofs.lemmas.Bool.{eq-eqb}
use Rattle.mip_words.specs.declared.address.Address.{Address}
use Rattle.mip_entries.specs.declared.entry.Entry.{Entry}
use Rattle.mip_history.specs.Questions.{holder_in, declared_in}
use Rattle.mip_history.specs.Told.{present_in}
use Rattle.mip_law_delivery.specs.Quiet.{Circle, has_node, has_address, circle_of, nodes_of, addresses_of, home_and_present}

or_right : (a b : Bool) → b ≡ true → (a || b) ≡ true
or_right true b is = refl
or_right false b is = is

any_left : {X : Type 0} (f : X → Bool) (xs ys : List X) → list_any f xs ≡ true → list_any f (xs ++ ys) ≡ true
any_left f xs ys is = list_any-append f xs ys ∙ ap (λ (b : Bool). b || list_any f ys) is

any_right : {X : Type 0} (f : X → Bool) (xs ys : List X) → list_any f ys ≡ true → list_any f (xs ++ ys) ≡ true
any_right f xs ys is = list_any-append f xs ys ∙ or_right (list_any f xs) (list_any f ys) is

module _ (past : List Entry) where
  first_node : (x : ℕ) → list_any (λ m. m == x) (nodes_of past x) ≡ true
  first_node x = ap (λ (b : Bool). b || list_any (λ (m : ℕ). m == x) (option_to_list (option_and_then (λ (own : Address). holder_in past own.0) (declared_in past x)))) (eq-eqb x x refl)

  holder_node : (x g : ℕ) (own : Address) → declared_in past x ≡ Some own → holder_in past own.0 ≡ Some g → list_any (λ m. m == g) (nodes_of past x) ≡ true
  holder_node x g own told held =
      ap (list_any (λ (m : ℕ). m == g))
      (ap (λ (o : Option Address). x ∷ option_to_list (option_and_then (λ (a : Address). holder_in past a.0) o)) told ∙ ap (λ (o : Option ℕ). x ∷ option_to_list o) held)
      ∙ or_right (x == g) ((g == g) || false) (ap (λ (b : Bool). b || false) (eq-eqb g g refl))

  two_addresses : (x : ℕ) (own present : Address) → declared_in past x ≡ Some own → present_in past x own ≡ Some present → addresses_of past x ≡ own ∷ present ∷ []
  two_addresses x own present told found = ap (home_and_present past x) told ∙ ap (λ (o : Option Address). own ∷ option_to_list o) found

  module _ (x y : ℕ) where
    abbrev c : Circle
    c = circle_of past x y

    pub has_first : has_node c x ≡ true
    has_first = any_left (λ (m : ℕ). m == x) (nodes_of past x) (nodes_of past y) (first_node x)

    pub has_second : has_node c y ≡ true
    has_second = any_right (λ (m : ℕ). m == y) (nodes_of past x) (nodes_of past y) (first_node y)

    pub has_first_holder : (g : ℕ) (own : Address) → declared_in past x ≡ Some own → holder_in past own.0 ≡ Some g → has_node c g ≡ true
    has_first_holder g own told held = any_left (λ (m : ℕ). m == g) (nodes_of past x) (nodes_of past y) (holder_node x g own told held)

    pub has_second_holder : (g : ℕ) (to : Address) → declared_in past y ≡ Some to → holder_in past to.0 ≡ Some g → has_node c g ≡ true
    has_second_holder g to told held = any_right (λ (m : ℕ). m == g) (nodes_of past x) (nodes_of past y) (holder_node y g to told held)

    pub has_home : (to present : Address) → declared_in past y ≡ Some to → present_in past y to ≡ Some present → has_address c to ≡ true
    has_home to present told found =
        any_right (λ (b : Address). b.0 == to.0) (addresses_of past x) (addresses_of past y)
        (ap (list_any (λ (b : Address). b.0 == to.0)) (two_addresses y to present told found) ∙ ap (λ (b : Bool). b || ((present.0 == to.0) || false)) (eq-eqb to.0 to.0 refl))

    pub has_present : (to present : Address) → declared_in past y ≡ Some to → present_in past y to ≡ Some present → has_address c present ≡ true
    has_present to present told found =
        any_right (λ (b : Address). b.0 == present.0) (addresses_of past x) (addresses_of past y)
        (ap (list_any (λ (b : Address). b.0 == present.0)) (two_addresses y to present told found)
        ∙ or_right (to.0 == present.0) ((present.0 == present.0) || false) (ap (λ (b : Bool). b || false) (eq-eqb present.0 present.0 refl)))
