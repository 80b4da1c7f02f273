-- What a claim, a flag and a posted packet change, and what they leave.
use Rattle.std.proofs.Common.{◌≡◌, ℕ, zero, suc, ◌+◌, ◌<◌, List, [], ◌∷◌, Bool, true, false, length, inl, inr, arith}
use Rattle.std.proofs.lemmas.Bool.{cases_eq}
use Rattle.std.proofs.lemmas.List.{get_or-set_same, get_or-set_other}
use Rattle.std.specs.Prelude.{Option, Some, None, is_some, unwrap_or, nat_eq, nat_lt, ◌==◌, ◌&&◌, if◌then◌else◌, slice_index_or, slice_set}
use Rattle.std.specs.Map.{lookup}
use Rattle.std.proofs.lemmas.Bool.Decides.{nat_tests}
use Rattle.mip_words.specs.declared.address.Address.{Address}
use Rattle.mip_links.specs.Nets.{IsLow, holder_of, put, declared_of, with_first, hears_of, spot, first_from}

-- the holder of an address after one was put
pub lookup-put : (rows : List (ℕ × Option ℕ)) (a : ℕ) (v : Option ℕ) (b : ℕ) → lookup (nat_eq b) (put rows a v) ≡ (if b == a then Some v else lookup (nat_eq b) rows)
lookup-put [] a v b = grind arith
lookup-put (r ∷ rows) a v b = grind (arith, nat_tests, lookup-put rows a v b)

pub holder-put : (rows : List (ℕ × Option ℕ)) (a : ℕ) (v : Option ℕ) (b : ℕ) → holder_of (put rows a v) b ≡ (if b == a then v else holder_of rows b)
holder-put rows a v b = grind (arith, nat_tests, lookup-put rows a v b)

-- the same under a name that an attribute can cite
pub holder_after : (rows : List (ℕ × Option ℕ)) (a : ℕ) (v : Option ℕ) (b : ℕ) → holder_of (put rows a v) b ≡ (if b == a then v else holder_of rows b)
holder_after rows a v b = holder-put rows a v b

-- an address that was put has room
pub has_room_after : (rows : List (ℕ × Option ℕ)) (a : ℕ) (v : Option ℕ) → is_some (lookup (nat_eq a) (put rows a v)) ≡ true
has_room_after rows a v = let e = lookup-put rows a v a in grind (arith, nat_tests, e)

-- an address that is put with the holder that it has
pub holder_same : (rows : List (ℕ × Option ℕ)) (a b : ℕ) → holder_of (put rows a (holder_of rows a)) b ≡ holder_of rows b
holder_same rows a b =
    elim (cases_eq b a) as (λ _. holder_of (put rows a (holder_of rows a)) b ≡ holder_of rows b) [
      | inl same ↦ rw (same) (let e = holder-put rows a (holder_of rows a) a in grind (arith, nat_tests, e))
      | inr other ↦ let e = holder-put rows a (holder_of rows a) b in grind (arith, nat_tests, other, e)
    ]

-- the lowest flag that stands, where the first one is known
pub first_from-clear : (flags : List Bool) (n first : ℕ) → IsLow flags first → first_from n flags ≡ (if nat_lt first (length flags) then Some (n + first) else None)
first_from-clear [] n first low = grind (arith, nat_tests, low.within)
first_from-clear (f ∷ fs) n zero low = let here = low.at (omega arith) in grind (arith, nat_tests, here)
first_from-clear (f ∷ fs) n (suc first) low =
    let here = low.clear 0 (omega arith) in
    let rest : IsLow fs first = record { clear = λ i less. low.clear (suc i) (omega arith); at = λ less. low.at (omega arith); within = omega (arith, low.within) } in
    let more = first_from-clear fs (suc n) first rest in
    grind (arith, nat_tests, here, more)

-- whether an outsider listens on a link, after a flag was set
pub hears-set : (hearing : List Bool) (o l p m : ℕ) (v : Bool) → length hearing ≡ 256 → o < 8 → l < 32
    → hears_of (slice_set hearing (spot o l) v) p m ≡ (if p == o && m == l then v else hears_of hearing p m)
hears-set hearing o l p m v long small few =
    elim (cases_eq (spot p m) (spot o l)) as (λ _. hears_of (slice_set hearing (spot o l) v) p m ≡ (if p == o && m == l then v else hears_of hearing p m)) [
      | inl same ↦ let e : slice_index_or (slice_set hearing (spot o l) v) (spot p m) false ≡ v = rw (same) (get_or-set_same hearing (spot o l) v false (omega arith)) in grind (arith, nat_tests, same, e)
      | inr other ↦ let e = get_or-set_other hearing (spot o l) (spot p m) v false other in grind (arith, nat_tests, other, e)
    ]

-- the first address of a holder, after a claim
pub first-set : (firsts : List (Option Address)) (by who : ℕ) (a : Address) → by < length firsts
    → declared_of (with_first firsts by a) who ≡ (if who == by then Some (unwrap_or (declared_of firsts by) a) else declared_of firsts who)
first-set firsts by who a inside =
    let here = get_or-set_same firsts by (Some a) None inside in
    elim (cases_eq who by) as (λ _. declared_of (with_first firsts by a) who ≡ (if who == by then Some (unwrap_or (declared_of firsts by) a) else declared_of firsts who)) [
      | inl same ↦ grind (arith, nat_tests, same, here)
      | inr other ↦ let there = get_or-set_other firsts by who (Some a) None other in grind (arith, nat_tests, other, there)
    ]
