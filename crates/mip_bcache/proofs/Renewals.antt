-- What an acceptance makes of a home.
use Rattle.std.proofs.Common.{◌≡◌, ◌≢◌, ℕ, ◌+◌, ◌<◌, ◌≤◌, List, [], ◌∷◌, ◌++◌, Bool, true, false, length, length-append, map, refl, sym, ap, subst, ◌∙◌, arith, vec_capacity}
use Rattle.std.specs.Prelude.{Option, Some, option_map, ◌==◌, if◌then◌else◌}
use Rattle.std.specs.List.{AllByRecursion}
use Rattle.mip_words.specs.declared.address.Address.{Address}
use Rattle.mip_binding.specs.Rows.{ApartBy, find_by, put_by, others_by}
use Rattle.mip_binding.proofs.RowLaws.{all-push, all-filtered, apart-push, apart-others, others-other, map-put, map-find}
use Rattle.mip_bcache.specs.declared.row.Row.{Row}
use Rattle.mip_bcache.specs.declared.home.Home.{Home}
use Rattle.mip_bcache.specs.declared.accepted.Accepted.{Accepted}
use Rattle.mip_bcache.specs.Seen.{HomeRows, home_of, number_of, until_set, until_with, row_for, rows_made, rows_left}
use Rattle.mip_bcache.specs.Table.{live_in, key_of, due_of, rows_seen, TableSeen, homes_in, IsHome}
use Rattle.mip_bcache.proofs.Homes.{as_many_numbers}

-- rows that are kept to another moment have their numbers
all_set_until : (P : ℕ → Type 0) (until : ℕ) (rs : List Row) → AllByRecursion (λ r. P r.number) rs → AllByRecursion (λ r. P r.number) (map (until_set until) rs)
all_set_until P until [] all = tt
all_set_until P until (r ∷ rs) all = (all.0, all_set_until P until rs all.1)

apart_set_until : (until : ℕ) (rs : List Row) → ApartBy number_of rs → ApartBy number_of (map (until_set until) rs)
apart_set_until until [] apart = tt
apart_set_until until (r ∷ rs) apart = (all_set_until (λ (n : ℕ). n ≢ r.number) until rs apart.0, apart_set_until until rs apart.1)

untils_set : (until : ℕ) (rs : List Row) → AllByRecursion (λ r. r.kept_until.0 ≡ until) (map (until_set until) rs)
untils_set until [] = tt
untils_set until (r ∷ rs) = (refl, untils_set until rs)

-- the rows that are left are of other numbers that there are, and none comes twice
pub record AreLeft (numbers number : ℕ) (left : List Row) : Type 0 where
  pub apart : ApartBy number_of left
  pub others : AllByRecursion (λ r. r.number ≢ number) left
  pub below : AllByRecursion (λ r. r.number < numbers) left

pub none_left : (numbers number : ℕ) → AreLeft numbers number []
none_left numbers number = record { apart = tt; others = tt; below = tt }

pub others_left : (numbers number : ℕ) (h : Home) → IsHome numbers h → AreLeft numbers number (others_by number_of number (live_in h))
others_left numbers number h well = record {
  apart = apart-others number_of number (live_in h) well.apart;
  others = others-other number_of number (live_in h);
  below = all-filtered (λ (r : Row). r.number < numbers) _ (live_in h) well.below;
}

pub are_left : (numbers number : ℕ) (home : Address) (a : Accepted) (h : Home) → IsHome numbers h → AreLeft numbers number (rows_left home number a (Some (rows_seen h)))
are_left numbers number home a h well = by (a.careof.0 == home.0)
  where
    by : (b : Bool) → AreLeft numbers number (if b then [] else others_by number_of number (live_in h))
    by true = none_left numbers number
    by false = others_left numbers number h well

-- with the row of the acceptance they are no more than there are numbers
pub left_fit : (numbers number : ℕ) (left : List Row) (r : Row) → r.number ≡ number → number < numbers → AreLeft numbers number left → length left < numbers
left_fit numbers number left r same below rows =
    let others = subst (λ (n : ℕ). AllByRecursion (λ (q : Row). q.number ≢ n) left) (sym same) rows.others in
    let many = as_many_numbers numbers (left ++ r ∷ []) (apart-push number_of left r rows.apart others) (all-push (λ (q : Row). q.number < numbers) left r rows.below (subst (λ (n : ℕ). n < numbers) (sym same) below)) in
    let long = length-append left (r ∷ []) in
    omega arith

pub made_well : (numbers now : ℕ) (home : Address) (number : ℕ) (a : Accepted) (left : List Row) (h : Home) → rows_seen h ≡ rows_made now home number a left → number < numbers → AreLeft numbers number left
    → numbers ≤ vec_capacity h.others + 1 → IsHome numbers h
made_well numbers now home number a left h seen below rows room =
    let until = until_with now a left in
    let r = row_for until home number a in
    let live : live_in h ≡ map (until_set until) left ++ r ∷ [] = ap (λ (k : HomeRows). k.live) seen in
    let due : due_of h ≡ until = ap (λ (k : HomeRows). k.until) seen in
    record {
      apart =
          subst (ApartBy number_of) (sym live)
          (apart-push number_of (map (until_set until) left) r (apart_set_until until left rows.apart) (all_set_until (λ (n : ℕ). n ≢ number) until left rows.others));
      below =
          subst (AllByRecursion (λ (q : Row). q.number < numbers)) (sym live)
          (all-push (λ (q : Row). q.number < numbers) (map (until_set until) left) r (all_set_until (λ (n : ℕ). n < numbers) until left rows.below) below);
      untils =
          subst (λ (u : ℕ). AllByRecursion (λ (q : Row). q.kept_until.0 ≡ u) (live_in h)) (sym due)
          (subst (AllByRecursion (λ (q : Row). q.kept_until.0 ≡ until)) (sym live) (all-push (λ (q : Row). q.kept_until.0 ≡ until) (map (until_set until) left) r (untils_set until left) refl));
      room = room;
    }

-- the homes with another one, as a contract sees them
pub put_seen : (t : TableSeen) (hs : List Home) (h : Home) (now : ℕ) (home : Address) (number : ℕ) (a : Accepted) (left : List Row) (o : Option Home) → hs ≡ put_by key_of h (homes_in t)
    → rows_seen h ≡ rows_made now home number a left → left ≡ rows_left home number a (option_map rows_seen o) → find_by key_of home.0 (homes_in t) ≡ o
    → map rows_seen hs ≡ put_by home_of (rows_made now home number a (rows_left home number a (find_by home_of home.0 (map rows_seen (homes_in t))))) (map rows_seen (homes_in t))
put_seen t hs h now home number a left o is seen rows found =
    let at : left ≡ rows_left home number a (find_by home_of home.0 (map rows_seen (homes_in t))) =
    rows ∙ ap (λ (q : Option Home). rows_left home number a (option_map rows_seen q)) (sym found) ∙ ap (rows_left home number a) (map-find rows_seen home_of home.0 (homes_in t)) in
    ap (map rows_seen) is
    ∙ map-put rows_seen home_of h (homes_in t)
    ∙ ap (λ (k : HomeRows). put_by home_of k (map rows_seen (homes_in t))) (seen ∙ ap (rows_made now home number a) at)

-- the front of a list and its last item
pub all_front : {X : Type 0} (P : X → Type 0) (xs : List X) (x : X) → AllByRecursion P (xs ++ x ∷ []) → AllByRecursion P xs × P x
all_front P [] x all = (tt, all.0)
all_front P (y ∷ ys) x all = let more = all_front P ys x all.1 in ((all.0, more.0), more.1)
