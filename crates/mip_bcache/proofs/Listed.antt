-- The rows of all homes, home by home.
use Rattle.std.proofs.Common.{◌≡◌, ℕ, zero, suc, ◌+◌, ◌≤◌, ◌<◌, drop, get_or, drop_of_length-le, List, [], ◌∷◌, ◌++◌, Bool, true, false, length, map, refl, sym, ap, ◌∙◌, arith}
use Rattle.std.specs.Prelude.{Option, Some, None, slice_get, nat_lt, if◌then◌else◌}
use Rattle.std.specs.List.{flat_map}
use Rattle.mip_binding.specs.Rows.{kept_by, add_found}
use Rattle.mip_chain.specs.Chain.{Item, find}
use Rattle.mip_chain.specs.declared.slot.Slot.{Slot}
use Rattle.mip_bcache.specs.declared.row.Row.{Row}
use Rattle.mip_bcache.specs.declared.home.Home.{Home}
use Rattle.mip_bcache.specs.Seen.{rows_of_home}
use Rattle.mip_bcache.specs.Table.{due_of, rows_seen, add_home, homes_of, kept_in}
use Rattle.mip_bcache.proofs.Homes.{drop_at}
use Rattle.mip_bcache.proofs.Slots.{Items}

-- the rows of these homes whose sequence is kept
abbrev pub listed : ℕ → List Home → List Row
listed now hs = flat_map rows_of_home (map rows_seen (kept_by due_of now hs))

kept_add : (now : ℕ) (o : Option (Item Home)) (hs : List Home) → kept_by due_of now (add_home o hs) ≡ add_found (kept_in now o) (kept_by due_of now hs)
kept_add now None hs = refl
kept_add now (Some x) hs = by (nat_lt now (due_of x.value))
  where
    by : (b : Bool) → (if b then x.value ∷ kept_by due_of now hs else kept_by due_of now hs) ≡ add_found (if b then Some x.value else None) (kept_by due_of now hs)
    by true = refl
    by false = refl

abbrev pub rows_found : Option Home → List Row
rows_found None = []
rows_found (Some h) = rows_of_home (rows_seen h)

pub listed_next : (now : ℕ) (items : Items) (s : Slot) (ss : List Slot) → listed now (homes_of items (s ∷ ss)) ≡ rows_found (kept_in now (find s.0 items)) ++ listed now (homes_of items ss)
listed_next now items s ss =
    ap (λ (hs : List Home). flat_map rows_of_home (map rows_seen hs)) (kept_add now (find s.0 items) (homes_of items ss)) ∙ by (kept_in now (find s.0 items))
  where
    by : (o : Option Home) → flat_map rows_of_home (map rows_seen (add_found o (kept_by due_of now (homes_of items ss)))) ≡ rows_found o ++ listed now (homes_of items ss)
    by None = refl
    by (Some h) = refl

-- a place among these and those behind them
pub inside_first : (rs qs : List Row) (place : ℕ) (r : Row) → Some r ≡ slice_get rs place → Some r ≡ slice_get (rs ++ qs) place
inside_first [] qs place r e = absurd cc
inside_first (q ∷ rs) qs zero r e = e
inside_first (q ∷ rs) qs (suc place) r e = inside_first rs qs place r e

pub behind_first : (rs qs : List Row) (place left : ℕ) → left + length rs ≡ place → slice_get qs left ≡ slice_get (rs ++ qs) place
behind_first [] qs place left e = ap (slice_get qs) (let same : left ≡ place = omega arith in same)
behind_first (r ∷ rs) qs zero left e = absurd (omega arith)
behind_first (r ∷ rs) qs (suc place) left e = behind_first rs qs place left (omega arith)

abbrev pub no_slot : Slot
no_slot = record { 0 = 0 }

-- the rows from a slot on
module _ (now : ℕ) (items : Items) (ss : List Slot) (i : ℕ) where
  abbrev pub from_slot : List Row
  from_slot = listed now (homes_of items (drop i ss))

  one_slot : (o : Option Home) → i < length ss → kept_in now (find (get_or ss i no_slot).0 items) ≡ o → from_slot ≡ rows_found o ++ listed now (homes_of items (drop (i + 1) ss))
  one_slot o inside is =
      ap (λ (ts : List Slot). listed now (homes_of items ts)) (drop_at ss i no_slot inside)
      ∙ listed_next now items (get_or ss i no_slot) (drop (i + 1) ss)
      ∙ ap (λ (q : Option Home). rows_found q ++ listed now (homes_of items (drop (i + 1) ss))) is

  pub found_here : (left : ℕ) (h : Home) (r : Row) → i < length ss → kept_in now (find (get_or ss i no_slot).0 items) ≡ Some h → Some r ≡ slice_get (rows_of_home (rows_seen h)) left → Some r ≡ slice_get from_slot left
  found_here left h r inside is found =
      inside_first (rows_of_home (rows_seen h)) (listed now (homes_of items (drop (i + 1) ss))) left r found
      ∙ ap (λ (rs : List Row). slice_get rs left) (sym (one_slot (Some h) inside is))

  pub passed_some : (left new : ℕ) (h : Home) → i < length ss → kept_in now (find (get_or ss i no_slot).0 items) ≡ Some h → new + length (rows_of_home (rows_seen h)) ≡ left
      → slice_get (listed now (homes_of items (drop (i + 1) ss))) new ≡ slice_get from_slot left
  passed_some left new h inside is passed =
      behind_first (rows_of_home (rows_seen h)) (listed now (homes_of items (drop (i + 1) ss))) left new passed
      ∙ ap (λ (rs : List Row). slice_get rs left) (sym (one_slot (Some h) inside is))

  pub passed_none : (left : ℕ) → i < length ss → kept_in now (find (get_or ss i no_slot).0 items) ≡ None → slice_get (listed now (homes_of items (drop (i + 1) ss))) left ≡ slice_get from_slot left
  passed_none left inside is = ap (λ (rs : List Row). slice_get rs left) (sym (one_slot None inside is))

  pub at_end : (left : ℕ) → length ss ≤ i → ◌≡◌ {A = Option Row} None (slice_get from_slot left)
  at_end left past = ap (λ (ts : List Slot). slice_get (listed now (homes_of items ts)) left) (sym (drop_of_length-le ss past))
