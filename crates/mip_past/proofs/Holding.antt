-- A home is held with a care-of address where that is held under the number of a binding that the node made of it.
use Rattle.std.proofs.Common.{◌≡◌, ℕ, List, [], ◌∷◌, ◌++◌, Bool, true, false, refl, sym, ap, ◌∙◌}
use Rattle.std.specs.Prelude.{Option, Some, None, fold, ◌&&◌, ◌||◌, ◌==◌, if◌then◌else◌}
use Rattle.std.specs.List.{list_any}
use Rattle.std.proofs.lemmas.Bool.{eq-eqb, eqb-true}
use Rattle.std.proofs.lemmas.List.Folds.{list_any-append}
use Rattle.mip_binding.specs.Acceptance.{Acceptance, Binding}
use Rattle.mip_binding.specs.Held.{held_under, holds}
use Rattle.mip_binding.specs.HeldLaws.{HeldUnder}
use Rattle.mip_binding.proofs.HeldLaws.{under_was_accepted, under_is_one, holds_some}
use Rattle.mip_entries.specs.declared.entry.Entry.{Entry}
use Rattle.mip_entries.specs.declared.entry.Entry.TheVariants as entries
use Rattle.mip_history.specs.Bound.{Lived, lived, accepted_by}
use Rattle.mip_past.specs.declared.made.Made.{Made}
use Rattle.mip_past.specs.Recalling.{made_told}
use Rattle.mip_past.specs.Holding.{is_careof, holds_by}

both_ways : (a b : Bool) → (a ≡ true → b ≡ true) → (b ≡ true → a ≡ true) → a ≡ b
both_ways true b to from = sym (to refl)
both_ways false true to from = from refl
both_ways false false to from = refl

-- a binding of the home under a number
module _ (home number : ℕ) where
  abbrev is_under : Acceptance → Bool
  is_under x = (x.home == home) && (x.number == number)

  abbrev of_number : Option Made → Bool
  of_number None = false
  of_number (Some made) = made.number == number

  -- an entry that makes none of this number leaves none
  none_more : (n : ℕ) (e : Entry) (l : Lived) → of_number (made_told n home e) ≡ false → list_any is_under l.accepted ≡ false → list_any is_under (lived n l e).accepted ≡ false
  none_more n (entries.Accepted node k h binding careof sequence end i j) l told none = by (n == node.0) refl
    where
      x : Acceptance
      x = record { at = l.at; home = h.0; number = binding; careof = careof.0; sequence = sequence; end = end.0 }

      no : (mine same : Bool) → mine ≡ true → of_number (if mine && same then Some (record { number = binding; careof = careof; sequence = sequence; end = end }) else None) ≡ false → (same && (binding == number)) ≡ false
      no true true is e = e
      no true false is e = refl
      no false same is e = absurd cc

      by : (mine : Bool) → (n == node.0) ≡ mine → list_any is_under (if mine then record { at = l.at; accepted = l.accepted ++ x ∷ [] } else l).accepted ≡ false
      by true is =
          list_any-append is_under l.accepted (x ∷ [])
          ∙ ap (λ (b : Bool). b || (is_under x || false)) none
          ∙ ap (λ (b : Bool). b || false) (no (n == node.0) (h.0 == home) is told)
      by false is = none
  none_more n (entries.Restarted node) l told none = by (n == node.0)
    where
      by : (mine : Bool) → list_any is_under (if mine then [] else l.accepted) ≡ false
      by true = refl
      by false = none
  none_more n (entries.At moment) l told none = none
  none_more n e l told none = none

  -- what was accepted was told
  was_told : (n : ℕ) (es : List Entry) (l : Lived) → list_any is_under (fold (lived n) l es).accepted ≡ true → list_any is_under l.accepted ≡ false → list_any (λ e. of_number (made_told n home e)) es ≡ true
  was_told n [] l any none = absurd cc
  was_told n (e ∷ es) l any none = by (of_number (made_told n home e)) refl (was_told n es (lived n l e) any)
    where
      by : (b : Bool) → of_number (made_told n home e) ≡ b → (list_any is_under (lived n l e).accepted ≡ false → list_any (λ y. of_number (made_told n home y)) es ≡ true)
          → (b || list_any (λ y. of_number (made_told n home y)) es) ≡ true
      by true told rest = refl
      by false told rest = rest (none_more n e l told none)

  accepted_here : (xs : List Acceptance) (now careof : ℕ) → held_under xs home number now ≡ Some careof → list_any is_under xs ≡ true
  accepted_here xs now careof is = at_it (under_was_accepted xs home number now careof is)
    where
      at_it : HeldUnder xs home number now careof → list_any is_under xs ≡ true
      at_it u =
          let live = u.from.lives in
          let same : live.acceptance.number ≡ number = ap (λ (b : Binding). b.number) live.is ∙ u.of_number in
          let here : is_under live.acceptance ≡ true = ap (λ (b : Bool). b && (live.acceptance.number == number)) (eq-eqb live.acceptance.home home live.of_home) ∙ eq-eqb live.acceptance.number number same in
          ap (list_any is_under) live.whole
          ∙ list_any-append is_under live.before (live.acceptance ∷ live.after)
          ∙ ap (λ (b : Bool). list_any is_under live.before || (b || list_any is_under live.after)) here
          ∙ yes (list_any is_under live.before)
        where
          yes : (b : Bool) → (b || true) ≡ true
          yes true = refl
          yes false = refl

-- where one of the numbers told has it, the home is held with it
module _ (n home careof : ℕ) (under : ℕ → Option ℕ) where
  found : (es : List Entry) → list_any (λ e. holds_by under careof (made_told n home e)) es ≡ true → (number : ℕ) × (under number ≡ Some careof)
  found [] any = absurd cc
  found (e ∷ es) any = by (made_told n home e) (found es) any
    where
      here : (number : ℕ) (o : Option ℕ) → under number ≡ o → is_careof careof o ≡ true → (m : ℕ) × (under m ≡ Some careof)
      here number None is e = absurd cc
      here number (Some a) is e = (number, is ∙ ap (λ (x : ℕ). Some x) (eqb-true a careof e))

      one : (made : Made) (b : Bool) → is_careof careof (under made.number) ≡ b
          → (list_any (λ y. holds_by under careof (made_told n home y)) es ≡ true → (m : ℕ) × (under m ≡ Some careof))
          → (b || list_any (λ y. holds_by under careof (made_told n home y)) es) ≡ true → (m : ℕ) × (under m ≡ Some careof)
      one made true is rest e = here made.number (under made.number) refl is
      one made false is rest e = rest e

      by : (o : Option Made) → (list_any (λ y. holds_by under careof (made_told n home y)) es ≡ true → (m : ℕ) × (under m ≡ Some careof))
          → (holds_by under careof o || list_any (λ y. holds_by under careof (made_told n home y)) es) ≡ true → (m : ℕ) × (under m ≡ Some careof)
      by None rest e = rest e
      by (Some made) rest e = one made (is_careof careof (under made.number)) refl rest e

  finds : (number : ℕ) → under number ≡ Some careof → (es : List Entry) → list_any (λ e. of_number home number (made_told n home e)) es ≡ true
      → list_any (λ e. holds_by under careof (made_told n home e)) es ≡ true
  finds number is [] any = absurd cc
  finds number is (e ∷ es) any = by (made_told n home e) (finds number is es) any
    where
      yes : (b : Bool) → (b || true) ≡ true
      yes true = refl
      yes false = refl

      one : (made : Made) (b : Bool) → (made.number == number) ≡ b
          → (list_any (λ y. of_number home number (made_told n home y)) es ≡ true → list_any (λ y. holds_by under careof (made_told n home y)) es ≡ true)
          → (b || list_any (λ y. of_number home number (made_told n home y)) es) ≡ true
          → (is_careof careof (under made.number) || list_any (λ y. holds_by under careof (made_told n home y)) es) ≡ true
      one made true same rest e =
          ap (λ (o : Option ℕ). is_careof careof o || list_any (λ y. holds_by under careof (made_told n home y)) es) (ap under (eqb-true made.number number same) ∙ is)
          ∙ ap (λ (b : Bool). b || list_any (λ y. holds_by under careof (made_told n home y)) es) (eq-eqb careof careof refl)
      one made false same rest e =
          ap (λ (b : Bool). is_careof careof (under made.number) || b) (rest e) ∙ yes (is_careof careof (under made.number))

      by : (o : Option Made) → (list_any (λ y. of_number home number (made_told n home y)) es ≡ true → list_any (λ y. holds_by under careof (made_told n home y)) es ≡ true)
          → (of_number home number o || list_any (λ y. of_number home number (made_told n home y)) es) ≡ true
          → (holds_by under careof o || list_any (λ y. holds_by under careof (made_told n home y)) es) ≡ true
      by None rest e = rest e
      by (Some made) rest e = one made (made.number == number) refl rest e

pub holds_told : (n home careof now start : ℕ) (past : List Entry)
    → list_any (λ e. holds_by (λ number. held_under (accepted_by start past n) home number now) careof (made_told n home e)) past
    ≡ holds (accepted_by start past n) home now careof
unfolding accepted_by
holds_told n home careof now start past =
    both_ways (list_any (λ e. holds_by under careof (made_told n home e)) past) (holds xs home now careof) to from
  where
    xs : List Acceptance
    xs = (fold (lived n) (record { at = start; accepted = [] }) past).accepted

    under : ℕ → Option ℕ
    under number = held_under xs home number now

    to : list_any (λ e. holds_by under careof (made_told n home e)) past ≡ true → holds xs home now careof ≡ true
    to any = let f = found n home careof under past any in under_is_one xs home f.0 now careof f.1

    from : holds xs home now careof ≡ true → list_any (λ e. holds_by under careof (made_told n home e)) past ≡ true
    from any =
        let f = holds_some xs home now careof any in
        finds n home careof under f.0 f.1 past (was_told home f.0 n past (record { at = start; accepted = [] }) (accepted_here home f.0 xs now careof f.1) refl)
