-- Packets that are numbered as they come.
use Rattle.std.proofs.Common.{◌≡◌, ℕ, suc, ◌+◌, ◌<◌, ◌≤◌, List, [], ◌∷◌, ◌++◌, length, Bool, true, false, refl, ap, ◌∙◌, subst, arith}
use Rattle.std.specs.Prelude.{fold, Option, Some, None, ◌||◌, ◌&&◌, ◌==◌, nat_lt, if◌then◌else◌}
use Rattle.std.specs.List.{list_any, cons_option}
use Rattle.std.specs.Option.{option_or, option_and_then, option_map_or}
use Rattle.std.proofs.lemmas.List.Elements.{filter_map-append}
use Rattle.std.proofs.lemmas.List.Sums.{fold-append}
use Rattle.std.proofs.lemmas.Bool.{eq-eqb, eqb-true, or_left, or_right}
use Rattle.mip_packets.specs.Says.{Carried, UpdateIdentity}
use Rattle.mip_provenance.specs.declared.maker.Maker.{Maker}
use Rattle.mip_provenance.specs.declared.maker.Maker.TheVariants.{Node, Outsider}
use Rattle.mip_provenance.specs.Lists.{lesser}
use Rattle.mip_provenance.specs.Sights.{Sight}
use Rattle.mip_provenance.specs.Sights.Sight.{Sent, Injected}
use Rattle.mip_provenance.specs.Firsts.{Post, post_with, post_at, number_of, key_in, key_at, same_key, carries_key, first_update}
use Rattle.mip_provenance_index.specs.Stands.{numbers, IsNumber, after_number, AreNumberedFrom}
use Rattle.mip_provenance_index.proofs.Steps.{first_one}

abbrev posted_by : Maker → Carried → Post
posted_by maker c = record { maker = maker; carried = c }

-- a sight posts packet k only where it has the number
post_number : (k : ℕ) (s : Sight) → (number_of s ≡ Some k → ⊥) → post_with k s ≡ None
post_number k (Sent number node c) other = by (number == k) refl
  where
    by : (b : Bool) → (number == k) ≡ b → (if b then Some (posted_by (Node (record { 0 = node })) c) else None) ≡ None
    by true e = absurd (other (ap Some (eqb-true number k e)))
    by false e = refl
post_number k (Injected number outsider c) other = by (number == k) refl
  where
    by : (b : Bool) → (number == k) ≡ b → (if b then Some (posted_by (Outsider outsider) c) else None) ≡ None
    by true e = absurd (other (ap Some (eqb-true number k e)))
    by false e = refl
post_number k _ other = refl

-- numbers below and above those that are taken
pub unposted_at : (next : ℕ) (seen : List Sight) (k : ℕ) → AreNumberedFrom next seen → next + length (numbers seen) ≤ k → post_at seen k ≡ None
unposted_at next [] k numbered above = refl
unposted_at next (s ∷ seen) k numbered above = by (number_of s) refl numbered above (unposted_at next seen k) (unposted_at (suc next) seen k)
  where
    by : (o : Option ℕ) → number_of s ≡ o → IsNumber o next × AreNumberedFrom (after_number o next) seen → next + length (cons_option o (numbers seen)) ≤ k
        → (AreNumberedFrom next seen → next + length (numbers seen) ≤ k → post_at seen k ≡ None)
        → (AreNumberedFrom (suc next) seen → suc next + length (numbers seen) ≤ k → post_at seen k ≡ None)
        → option_or (post_with k s) (post_at seen k) ≡ None
    by None is numbered above same more =
        ap (λ (o : Option Post). option_or o (post_at seen k)) (post_number k s (λ e. absurd cc)) ∙ same numbered.1 above
    by (Some m) is numbered above same more =
        ap (λ (o : Option Post). option_or o (post_at seen k)) (post_number k s (λ e. let same : m ≡ k = cc in omega (arith, same, numbered.0, above)))
        ∙ more numbered.1 (omega (arith, above))

-- a packet whose number is taken was posted
pub posted_at : (seen : List Sight) (k : ℕ) → list_any (λ x. x == k) (numbers seen) ≡ true → post_at seen k ≡ None → ⊥
posted_at [] k member none = absurd cc
posted_at (Sent number node c ∷ seen) k member none = by (number == k) (posted_at seen k) member none
  where
    by : (b : Bool) → (list_any (λ x. x == k) (numbers seen) ≡ true → post_at seen k ≡ None → ⊥) → (b || list_any (λ x. x == k) (numbers seen)) ≡ true
        → option_or (if b then Some (posted_by (Node (record { 0 = node })) c) else None) (post_at seen k) ≡ None → ⊥
    by true later member none = cc
    by false later member none = later member none
posted_at (Injected number outsider c ∷ seen) k member none = by (number == k) (posted_at seen k) member none
  where
    by : (b : Bool) → (list_any (λ x. x == k) (numbers seen) ≡ true → post_at seen k ≡ None → ⊥) → (b || list_any (λ x. x == k) (numbers seen)) ≡ true
        → option_or (if b then Some (posted_by (Outsider outsider) c) else None) (post_at seen k) ≡ None → ⊥
    by true later member none = cc
    by false later member none = later member none
posted_at (_ ∷ seen) k member none = posted_at seen k member none

-- the numbers are below the next
pub number_below : (next : ℕ) (seen : List Sight) (k : ℕ) → AreNumberedFrom next seen → list_any (λ x. x == k) (numbers seen) ≡ true → k < next + length (numbers seen)
number_below next [] k numbered member = absurd cc
number_below next (s ∷ seen) k numbered member = by (number_of s) numbered member (number_below next seen k) (number_below (suc next) seen k)
  where
    by : (o : Option ℕ) → IsNumber o next × AreNumberedFrom (after_number o next) seen → list_any (λ x. x == k) (cons_option o (numbers seen)) ≡ true
        → (AreNumberedFrom next seen → list_any (λ x. x == k) (numbers seen) ≡ true → k < next + length (numbers seen))
        → (AreNumberedFrom (suc next) seen → list_any (λ x. x == k) (numbers seen) ≡ true → k < suc next + length (numbers seen))
        → k < next + length (cons_option o (numbers seen))
    by None numbered member same more = same numbered.1 member
    by (Some m) numbered member same more = two (m == k) refl member
      where
        two : (b : Bool) → (m == k) ≡ b → (b || list_any (λ x. x == k) (numbers seen)) ≡ true → k < next + suc (length (numbers seen))
        two true e member = omega (arith, eqb-true m k e, numbered.0)
        two false e member = omega (arith, more numbered.1 member)

pub numbered_more : (next : ℕ) (seen : List Sight) (s : Sight) → AreNumberedFrom next seen → IsNumber (number_of s) (next + length (numbers seen)) → AreNumberedFrom next (seen ++ s ∷ [])
numbered_more next [] s numbered is = (subst (IsNumber (number_of s)) (omega arith) is, tt)
numbered_more next (x ∷ seen) s numbered is = by (number_of x) numbered is (numbered_more next seen s) (numbered_more (suc next) seen s)
  where
    by : (o : Option ℕ) → IsNumber o next × AreNumberedFrom (after_number o next) seen → IsNumber (number_of s) (next + length (cons_option o (numbers seen)))
        → (AreNumberedFrom next seen → IsNumber (number_of s) (next + length (numbers seen)) → AreNumberedFrom next (seen ++ s ∷ []))
        → (AreNumberedFrom (suc next) seen → IsNumber (number_of s) (suc next + length (numbers seen)) → AreNumberedFrom (suc next) (seen ++ s ∷ []))
        → IsNumber o next × AreNumberedFrom (after_number o next) (seen ++ s ∷ [])
    by None numbered is same more = (tt, same numbered.1 is)
    by (Some m) numbered is same more = (numbered.0, more numbered.1 (subst (IsNumber (number_of s)) (omega arith) is))

numbers_one : (seen : List Sight) (s : Sight) → numbers (seen ++ s ∷ []) ≡ numbers seen ++ cons_option (number_of s) []
numbers_one seen s = filter_map-append number_of seen (s ∷ [])

-- a packet that was posted stays the one with its number
pub post_stays : (seen : List Sight) (s : Sight) (k : ℕ) (post : Post) → post_at seen k ≡ Some post → post_at (seen ++ s ∷ []) k ≡ Some post
post_stays seen s k post is = first_one (post_with k) seen s ∙ ap (λ (o : Option Post). option_or o (post_with k s)) is

pub key_stays : (seen : List Sight) (s : Sight) (k : ℕ) → (post_at seen k ≡ None → ⊥) → key_at (seen ++ s ∷ []) k ≡ key_at seen k
key_stays seen s k there = ap (λ (o : Option Post). option_and_then (λ p. key_in p.carried) o) (first_one (post_with k) seen s ∙ by (post_at seen k) there)
  where
    by : (o : Option Post) → (o ≡ None → ⊥) → option_or o (post_with k s) ≡ o
    by None there = absurd (there refl)
    by (Some p) there = refl

pub key_new : (seen : List Sight) (s : Sight) (k : ℕ) → post_at seen k ≡ None → key_at (seen ++ s ∷ []) k ≡ option_and_then (λ p. key_in p.carried) (post_with k s)
key_new seen s k none = ap (λ (o : Option Post). option_and_then (λ p. key_in p.carried) o) (first_one (post_with k) seen s ∙ ap (λ (o : Option Post). option_or o (post_with k s)) none)

-- a test that agrees on the numbers finds the same least one
lesser_agree : (p q : ℕ → Bool) (ks : List ℕ) (best : Option ℕ) → ((k : ℕ) → list_any (λ x. x == k) ks ≡ true → p k ≡ q k) → fold (lesser p) best ks ≡ fold (lesser q) best ks
lesser_agree p q [] best agree = refl
lesser_agree p q (k ∷ ks) best agree =
    ap (λ (o : Option ℕ). fold (lesser p) o ks) (by best) ∙ lesser_agree p q ks (lesser q best k) (λ l member. agree l (or_right (k == l) (list_any (λ x. x == l) ks) member))
  where
    here : p k ≡ q k
    here = agree k (or_left (k == k) (list_any (λ x. x == k) ks) (eq-eqb k k refl))

    by : (o : Option ℕ) → lesser p o k ≡ lesser q o k
    by None = ap (λ (b : Bool). if b then Some k else None) here
    by (Some c) = ap (λ (b : Bool). if b && nat_lt k c then Some k else Some c) here

-- the first packet of an update after one more sight
pub first_step : (seen : List Sight) (s : Sight) (key : UpdateIdentity) → first_update (seen ++ s ∷ []) key
    ≡ fold (lesser (carries_key (seen ++ s ∷ []) key)) (first_update seen key) (cons_option (number_of s) [])
unfolding first_update
first_step seen s key =
    ap (fold (lesser (carries_key (seen ++ s ∷ []) key)) None) (numbers_one seen s)
    ∙ fold-append (lesser (carries_key (seen ++ s ∷ []) key)) None (numbers seen) (cons_option (number_of s) [])
    ∙ ap (λ (o : Option ℕ). fold (lesser (carries_key (seen ++ s ∷ []) key)) o (cons_option (number_of s) []))
    (lesser_agree (carries_key (seen ++ s ∷ []) key) (carries_key seen key) (numbers seen) None
    (λ k member. ap (λ (o : Option UpdateIdentity). option_map_or (same_key key) o false) (key_stays seen s k (posted_at seen k member))))
