-- What a cache answers is what the acceptances say for which it stands.
use Rattle.std.proofs.Common.{◌≡◌, ℕ, ◌+◌, ◌<◌, ◌≤◌, max, List, [], ◌∷◌, ◌++◌, Bool, true, false, length, refl, sym, ap, subst, ◌∙◌, arith}
use Rattle.std.specs.Prelude.{Option, Some, None, option_map, is_some, map, not, nat_lt, ◌&&◌, ◌==◌, slice_get, if◌then◌else◌}
use Rattle.std.specs.List.{AllByRecursion, flat_map}
use Rattle.std.proofs.lemmas.Option.{slice_get-map}
use Rattle.std.proofs.lemmas.List.{length-map}
use Rattle.std.proofs.lemmas.Bool.Decides.{nat_tests}
use Rattle.mip_words.specs.Constants.{max_nonce_lifetime}
use Rattle.mip_words.specs.Last.{last_where}
use Rattle.mip_binding.specs.Acceptance.{Acceptance, Binding, binding_of}
use Rattle.mip_binding.specs.Rows.{BindingRow, find_by, put_by, kept_by, others_by, found_by, add_found, all_numbers}
use Rattle.mip_binding.specs.Homes.{HomeKept, home_key, until_key, number_key, latest as latest_of, kept_of, kept_with, homes, kept_homes, shown_in, shown_home, shown_rows}
use Rattle.mip_binding.specs.Held.{is_standing, stands_under as standing_number, stands_at as standing_careof, careof_where, any_lives, held, held_under, holds, floor, is_full, homes_with_floor}
use Rattle.mip_binding.proofs.RowLaws.{kept-kept, map-kept, map-put, map-find, kept-put, rises-kept, all-kept, all-put, all-find, last-map, any-map, others-map}
use Rattle.mip_binding.proofs.HomeLaws.{left_by, kept_with-left, kept_with-kept, kept_with-until, homes-none, homes-push, rises-homes}
use Rattle.mip_binding.proofs.HeldLaws.{held-homes, under-homes, holds-homes, floor-homes}
use Rattle.mip_words.specs.declared.address.Address.{Address}
use Rattle.mip_bcache.specs.declared.row.Row.{Row}
use Rattle.mip_bcache.specs.declared.accepted.Accepted.{Accepted}
use Rattle.mip_bcache.specs.Seen.{HomeRows, CacheSeen, StandsFor, empty_cache, home_of, until_of, number_of, seen_binding, seen_row, seen_home, kept_at, home_at, last_row, any_row, standing_at, standing_under, holds_at, floor_at, has_no_room, acceptance, row_for, latest, until_set, until_with, rows_made, rows_left, expired, with_acceptance, rows_of_home, rows_at}

pub empty_stands : (limit numbers : ℕ) → StandsFor (empty_cache limit numbers) []
empty_stands limit numbers = record { same = sym (ap (kept_homes 0) homes-none) }

-- a row stands as its binding does
careof_seen : (p : Binding → Bool) (o : Option HomeRows) → option_map (λ r. r.careof.0) (last_row (λ r. p (seen_binding r)) o) ≡ careof_where p (option_map seen_home o)
careof_seen p None = refl
careof_seen p (Some h) = by (last_where (λ (r : Row). p (seen_binding r)) h.live) ∙ sym (ap (option_map (λ (b : Binding). b.careof)) (last-map seen_binding p h.live))
  where
    by : (o : Option Row) → option_map (λ (r : Row). r.careof.0) o ≡ option_map (λ (b : Binding). b.careof) (option_map seen_binding o)
    by None = refl
    by (Some r) = refl

any_seen : (p : Binding → Bool) (o : Option HomeRows) → any_row (λ r. p (seen_binding r)) o ≡ any_lives p (option_map seen_home o)
any_seen p None = refl
any_seen p (Some h) = sym (any-map seen_binding p h.live)

-- the rows that are left are the bindings that are
left_seen : (now : ℕ) (home : Address) (number : ℕ) (a : Accepted) (o : Option HomeRows) → ((h : HomeRows) → o ≡ Some h → now < h.until)
    → left_by (option_map seen_home o) (acceptance now home number a) ≡ map seen_binding (rows_left home number a o)
left_seen now home number a None kept = refl
left_seen now home number a (Some h) kept = by (a.careof.0 == home.0) (nat_lt now h.until) (let less = kept h refl in grind (arith, nat_tests))
  where
    by : (deletes lasts : Bool) → lasts ≡ true → (if not deletes && lasts then others_by number_key number (map seen_binding h.live) else []) ≡ map seen_binding (if deletes then [] else others_by number_of number h.live)
    by true lasts e = refl
    by false true e = others-map seen_binding number_key number h.live
    by false false e = absurd cc

live_seen : (until : ℕ) (left : List Row) (r : Row) → map seen_binding (map (until_set until) left ++ r ∷ []) ≡ map seen_binding left ++ seen_binding r ∷ []
live_seen until [] r = refl
live_seen until (q ∷ left) r = ap (λ (bs : List Binding). seen_binding q ∷ bs) (live_seen until left r)

latest_seen : (moment : ℕ) (left : List Row) (b : Binding) → latest_of moment (map seen_binding left ++ b ∷ []) ≡ max b.end (latest moment left)
latest_seen moment [] b = refl
latest_seen moment (q ∷ left) b = let more = latest_seen moment left b in omega arith

with_seen : (now : ℕ) (home : Address) (number : ℕ) (a : Accepted) (o : Option HomeRows) → ((h : HomeRows) → o ≡ Some h → now < h.until)
    → seen_home (rows_made now home number a (rows_left home number a o)) ≡ kept_with (option_map seen_home o) (acceptance now home number a)
with_seen now home number a o kept =
    let x = acceptance now home number a in
    let left = rows_left home number a o in
    let until = until_with now a left in
    let r = row_for until home number a in
    ap (λ (bs : List Binding). record { home = home.0; sequence = a.sequence; until = until; live = bs }) (live_seen until left r)
    ∙ ap (λ (n : ℕ). record { home = home.0; sequence = a.sequence; until = n; live = map seen_binding left ++ binding_of x ∷ [] }) (sym (latest_seen (now + max_nonce_lifetime) left (binding_of x)))
    ∙ ap (λ (bs : List Binding). kept_of x (bs ++ binding_of x ∷ [])) (sym (left_seen now home number a o kept))
    ∙ sym (kept_with-left (option_map seen_home o) x)

-- a home that is found among those that are kept is kept
found_lasts : (now home : ℕ) (hs : List HomeRows) (h : HomeRows) → find_by home_of home (kept_by until_of now hs) ≡ Some h → now < h.until
found_lasts now home [] h is = absurd cc
found_lasts now home (k ∷ hs) h is = by (nat_lt now k.until) refl is (found_lasts now home hs h)
  where
    by : (b : Bool) → nat_lt now k.until ≡ b → find_by home_of home (if b then k ∷ kept_by until_of now hs else kept_by until_of now hs) ≡ Some h → (find_by home_of home (kept_by until_of now hs) ≡ Some h → now < h.until) → now < h.until
    by true e f more = first (k.home == home) f
      where
        first : (same : Bool) → (if same then Some k else find_by home_of home (kept_by until_of now hs)) ≡ Some h → now < h.until
        first true g = let same : k ≡ h = cc in subst (λ (j : HomeRows). now < j.until) same (grind (arith, nat_tests))
        first false g = more g
    by false e f more = more f

-- the rows of a home as they are shown, where each is kept as long as the home's sequence
abbrev pub HasUntils : HomeRows → Type 0
HasUntils h = AllByRecursion (λ r. r.kept_until.0 ≡ h.until) h.live

found_shown : (h : HomeRows) → HasUntils h → (ns : List ℕ) → map seen_row (found_by number_of h.live ns) ≡ map (shown_in (seen_home h)) (found_by number_key (map seen_binding h.live) ns)
found_shown h untils [] = refl
found_shown h untils (n ∷ ns) =
    by (find_by number_of n h.live) (λ r. all-find (λ (q : Row). q.kept_until.0 ≡ h.until) number_of n h.live r untils) (found_shown h untils ns)
    ∙ ap (λ (o : Option Binding). map (shown_in (seen_home h)) (add_found o (found_by number_key (map seen_binding h.live) ns))) (map-find seen_binding number_key n h.live)
  where
    by : (o : Option Row) → ((r : Row) → o ≡ Some r → r.kept_until.0 ≡ h.until) → map seen_row (found_by number_of h.live ns) ≡ map (shown_in (seen_home h)) (found_by number_key (map seen_binding h.live) ns)
        → map seen_row (add_found o (found_by number_of h.live ns)) ≡ map (shown_in (seen_home h)) (add_found (option_map seen_binding o) (found_by number_key (map seen_binding h.live) ns))
    by None until more = more
    by (Some r) until more =
        ap (λ (rs : List BindingRow). seen_row r ∷ rs) more
        ∙ ap (λ (n : ℕ). record { home = r.home.0; number = r.number; careof = r.careof.0; sequence = r.sequence; end = r.end.0; kept_until = n } ∷ map (shown_in (seen_home h)) (found_by number_key (map seen_binding h.live) ns)) (until r refl)

home_shown : (h : HomeRows) → HasUntils h → map seen_row (rows_of_home h) ≡ shown_home (seen_home h)
unfolding rows_of_home shown_home
home_shown h untils = found_shown h untils all_numbers

map_append : {X Y : Type 0} (f : X → Y) (xs ys : List X) → map f (xs ++ ys) ≡ map f xs ++ map f ys
map_append f [] ys = refl
map_append f (x ∷ xs) ys = ap (λ l. f x ∷ l) (map_append f xs ys)

all_shown : (hs : List HomeRows) → AllByRecursion HasUntils hs → map seen_row (flat_map rows_of_home hs) ≡ flat_map shown_home (map seen_home hs)
all_shown [] untils = refl
all_shown (h ∷ hs) untils =
    map_append seen_row (rows_of_home h) (flat_map rows_of_home hs)
    ∙ ap (λ (rs : List BindingRow). rs ++ map seen_row (flat_map rows_of_home hs)) (home_shown h untils.0)
    ∙ ap (λ (rs : List BindingRow). shown_home (seen_home h) ++ rs) (all_shown hs untils.1)

module _ (cache : CacheSeen) (past : List Acceptance) (stood : StandsFor cache past) (now : ℕ) (later : cache.last ≤ now) where
  -- the homes that are kept are those of the acceptances
  pub kept_same : map seen_home (kept_at cache now) ≡ kept_homes now (homes past)
  kept_same =
      ap (map seen_home) (sym (kept-kept until_of now cache.last cache.homes later))
      ∙ map-kept seen_home until_key now (kept_by until_of cache.last cache.homes)
      ∙ ap (kept_homes now) stood.same
      ∙ kept-kept until_key now cache.last (homes past) later

  home_same : (home : ℕ) → option_map seen_home (home_at cache home now) ≡ find_by home_key home (kept_homes now (homes past))
  home_same home = map-find seen_home home_key home (kept_at cache now) ∙ ap (find_by home_key home) kept_same

  pub look_answers : (home : ℕ) → option_map (λ r. r.careof.0) (standing_at cache home now) ≡ held past home now
  look_answers home =
      careof_seen (is_standing home now) (home_at cache home now)
      ∙ ap (careof_where (is_standing home now)) (home_same home)
      ∙ sym (held-homes past home now)

  pub look_at_answers : (home number : ℕ) → option_map (λ r. r.careof.0) (standing_under cache home number now) ≡ held_under past home number now
  look_at_answers home number =
      careof_seen (standing_number home number now) (home_at cache home now)
      ∙ ap (careof_where (standing_number home number now)) (home_same home)
      ∙ sym (under-homes past home number now)

  pub holds_answers : (home careof : ℕ) → holds_at cache home now careof ≡ holds past home now careof
  holds_answers home careof =
      any_seen (standing_careof home now careof) (home_at cache home now)
      ∙ ap (any_lives (standing_careof home now careof)) (home_same home)
      ∙ sym (holds-homes past home now careof)

  pub floor_answers : (home : ℕ) → floor_at cache home now ≡ floor past home now
  floor_answers home =
      by (home_at cache home now)
      ∙ ap (option_map (λ (k : HomeKept). k.sequence)) (home_same home)
      ∙ sym (floor-homes past home now)
    where
      by : (o : Option HomeRows) → option_map (λ (h : HomeRows). h.sequence) o ≡ option_map (λ (k : HomeKept). k.sequence) (option_map seen_home o)
      by None = refl
      by (Some h) = refl

  pub room_answers : (home : ℕ) → has_no_room cache home now ≡ is_full cache.limit past home now
  room_answers home =
      let some : is_some (home_at cache home now) ≡ is_some (floor past home now) =
      by (home_at cache home now) ∙ ap (λ (o : Option ℕ). is_some o) (floor_answers home) in
      let many : length (kept_at cache now) ≡ length (homes_with_floor past now) =
      sym (length-map (kept_at cache now) seen_home) ∙ ap (λ (ks : List HomeKept). length ks) kept_same ∙ sym (length-map (kept_homes now (homes past)) home_key) in
      ap (λ (b : Bool). not b && (length (kept_at cache now) == cache.limit)) some
      ∙ ap (λ (n : ℕ). not (is_some (floor past home now)) && (n == cache.limit)) many
    where
      by : (o : Option HomeRows) → is_some o ≡ is_some (option_map (λ (h : HomeRows). h.sequence) o)
      by None = refl
      by (Some h) = refl

  -- and so are the rows that are listed
  pub rows_same : AllByRecursion HasUntils (kept_at cache now) → map seen_row (rows_at cache now) ≡ shown_rows past now
  rows_same untils = all_shown (kept_at cache now) untils ∙ ap (flat_map shown_home) kept_same

  pub row_answers : AllByRecursion HasUntils (kept_at cache now) → (place : ℕ) → option_map seen_row (slice_get (rows_at cache now) place) ≡ slice_get (shown_rows past now) place
  row_answers untils place =
      sym (slice_get-map seen_row (rows_at cache now) place)
      ∙ ap (λ (rs : List BindingRow). slice_get rs place) (rows_same untils)

  pub expire_stands : StandsFor (expired now cache) past
  expire_stands = record { same = ap (map seen_home) (kept-kept until_of now now cache.homes (omega arith)) ∙ kept_same }

  pub accept_stands : (home : Address) (number : ℕ) (a : Accepted) → StandsFor (with_acceptance now home number a cache) (past ++ acceptance now home number a ∷ [])
  accept_stands home number a =
      let x = acceptance now home number a in
      let old = kept_homes now (homes past) in
      let made = rows_made now home number a (rows_left home number a (home_at cache home.0 now)) in
      let k = kept_with (find_by home_key home.0 (homes past)) x in
      let is : seen_home made ≡ k =
      with_seen now home number a (home_at cache home.0 now) (λ h. found_lasts now home.0 cache.homes h)
      ∙ ap (λ (o : Option HomeKept). kept_with o x) (home_same home.0)
      ∙ kept_with-kept (homes past) x (rises-homes past) in
      let lasts : now < k.until = kept_with-until (find_by home_key home.0 (homes past)) x in
      record {
        same =
            map-kept seen_home until_key now (put_by home_of made (kept_at cache now))
            ∙ ap (kept_homes now) (map-put seen_home home_key made (kept_at cache now) ∙ ap (put_by home_key (seen_home made)) kept_same)
            ∙ ap (λ (j : HomeKept). kept_homes now (put_by home_key j old)) is
            ∙ kept-put home_key until_key now k old (rises-kept home_key until_key now (homes past) (rises-homes past)) lasts
            ∙ ap (put_by home_key k) (kept-kept until_key now now (homes past) (omega arith))
            ∙ sym (kept-put home_key until_key now k (homes past) (rises-homes past) lasts)
            ∙ ap (kept_homes now) (sym (homes-push past x));
      }

-- each row of a cache is kept as long as its home's sequence, and stays so
abbrev pub HaveUntils : CacheSeen → Type 0
HaveUntils cache = AllByRecursion HasUntils cache.homes

untils_set : (until : ℕ) (rs : List Row) (r : Row) → r.kept_until.0 ≡ until → AllByRecursion (λ q. q.kept_until.0 ≡ until) (map (until_set until) rs ++ r ∷ [])
untils_set until [] r is = (is, tt)
untils_set until (q ∷ rs) r is = (refl, untils_set until rs r is)

pub kept_untils : (cache : CacheSeen) (now : ℕ) → HaveUntils cache → AllByRecursion HasUntils (kept_at cache now)
kept_untils cache now untils = all-kept HasUntils until_of now cache.homes untils

pub accept_untils : (cache : CacheSeen) (now : ℕ) (home : Address) (number : ℕ) (a : Accepted) → HaveUntils cache → HaveUntils (with_acceptance now home number a cache)
accept_untils cache now home number a untils =
    let left = rows_left home number a (home_at cache home.0 now) in
    let until = until_with now a left in
    all-put HasUntils home_of (rows_made now home number a left) (kept_at cache now) (untils_set until left (row_for until home number a) refl) (kept_untils cache now untils)
