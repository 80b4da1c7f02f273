-- Each row that is shown is that of an acceptance that lives.
use Rattle.std.proofs.Common.{◌≡◌, ℕ, ◌<◌, List, [], ◌∷◌, ◌++◌, Bool, true, false, ltb, refl, sym, ap, ◌∙◌, subst, arith}
use Rattle.std.specs.Prelude.{◌≢◌, is_some, map, nat_lt, ◌==◌, Option, Some, None, if◌then◌else◌}
use Rattle.std.specs.List.{flat_map, AllByRecursion}
use Rattle.std.proofs.lemmas.Bool.{cond_both, cond-true, cond-false, eq-eqb, ne_eqb, ltb-true}
use Rattle.std.proofs.lemmas.Bool.Decides.{nat_tests}
use Rattle.mip_words.specs.declared.address.Address.{Address}
use Rattle.mip_words.specs.declared.ids.NodeId.{NodeId}
use Rattle.mip_words.specs.declared.moment.Moment.{Moment}
use Rattle.mip_words.specs.EachAfter.{EachAfter}
use Rattle.mip_words.proofs.EachLaws.{each_at}
use Rattle.mip_binding.specs.Acceptance.{Acceptance, Binding}
use Rattle.mip_binding.specs.Rows.{BindingRow, RisesBy, find_by, kept_by, add_found, found_by, all_numbers}
use Rattle.mip_binding.specs.Homes.{HomeKept, home_key, until_key, number_key, home_after, homes, kept_homes, shown_in, shown_home, shown_rows as rows_of}
use Rattle.mip_binding.specs.Held.{floor, sequence_in}
use Rattle.mip_binding.specs.HeldLaws.{LivesIn}
use Rattle.mip_binding.proofs.RowLaws.{all-kept, all-find}
use Rattle.mip_binding.proofs.HomeLaws.{rises-homes, home_after-homes}
use Rattle.mip_binding.proofs.LifeLaws.{AllLive, all-live}
use Rattle.mip_bcache.specs.declared.row.Row.{Row}
use Rattle.mip_bcache.specs.Seen.{seen_row, rows_at}
use Rattle.mip_bcache.proofs.Pasts.{rows_same, kept_untils}
use Rattle.mip_entries.specs.declared.entry.Entry.{Entry}
use Rattle.mip_entries.specs.declared.entry.Entry.TheVariants as entries
use Rattle.mip_entries.specs.Completed.{node_id}
use Rattle.mip_entries.specs.Stamped.{Stamped}
use Rattle.mip_rules_correspondent.specs.Steps.{Step}
use Rattle.mip_rules_correspondent.specs.Pasts.{accepted_in}
use Rattle.mip_rules_correspondent.specs.Questions.{known}
use Rattle.mip_rules_correspondent.proofs.Acceptances.{cache-stands, cache-untils, early}
use Rattle.mip_history.specs.Setup.{Setup}
use Rattle.mip_history.specs.Questions.{moment_in}
use Rattle.mip_history.specs.Nodes.{row_entry}
use Rattle.mip_history.specs.Bound.{accepted_by, accepted_entry, HasAccepted, Outlives}
use Rattle.mip_history.specs.Shown.{until_of, kept_to, IsLastAcceptance}
use Rattle.mip_history.proofs.Runs.{Meets, IsPast}
use Rattle.mip_history.proofs.Places.{IsPlaced, placed}

all_two : {X : Type 0} (P Q R : X → Type 0) (xs : List X) → ((x : X) → P x → Q x → R x) → AllByRecursion P xs → AllByRecursion Q xs → AllByRecursion R xs
all_two P Q R [] go ps qs = tt
all_two P Q R (x ∷ xs) go ps qs = (go x ps.0 qs.0, all_two P Q R xs go ps.1 qs.1)

all_unmap : {X Y : Type 0} (f : X → Y) (P : Y → Type 0) (xs : List X) → AllByRecursion P (map f xs) → AllByRecursion (λ x. P (f x)) xs
all_unmap f P [] all = tt
all_unmap f P (x ∷ xs) all = (all.0, all_unmap f P xs all.1)

all_map : {X Y : Type 0} (f : X → Y) (P : Y → Type 0) (xs : List X) → AllByRecursion (λ x. P (f x)) xs → AllByRecursion P (map f xs)
all_map f P [] all = tt
all_map f P (x ∷ xs) all = (all.0, all_map f P xs all.1)

-- where keys rise, each item is the one of its key
each_found : {X : Type 0} (key : X → ℕ) (xs : List X) → RisesBy key xs → AllByRecursion (λ x. find_by key (key x) xs ≡ Some x) xs
each_found key [] rises = tt
each_found {X = X} key (x ∷ xs) rises = (
  cond-true (key x == key x) _ _ (eq-eqb (key x) (key x) refl),
  all_two (λ (y : X). key x < key y) (λ (y : X). find_by key (key y) xs ≡ Some y) (λ (y : X). find_by key (key y) (x ∷ xs) ≡ Some y) xs
      (λ y above found. cond-false (key x == key y) _ _ (ne_eqb (key x) (key y) (apart y above)) ∙ found) rises.0 (each_found key xs rises.1),
)
  where
    apart : (y : X) → key x < key y → key x ≢ key y
    apart y above same = omega arith

-- what is kept lasts
kept_lasts : {X : Type 0} (until : X → ℕ) (now : ℕ) (xs : List X) → AllByRecursion (λ x. now < until x) (kept_by until now xs)
kept_lasts until now [] = tt
kept_lasts {X = X} until now (x ∷ xs) =
    cond_both (ltb now (until x)) (x ∷ kept_by until now xs) (kept_by until now xs) (AllByRecursion (λ (y : X). now < until y)) (λ lasts. (ltb-true now (until x) lasts, kept_lasts until now xs)) (λ over. kept_lasts until now xs)

-- a row is that of a binding that lives, of a home whose sequence is kept
record IsOfLive (xs : List Acceptance) (now : ℕ) (r : BindingRow) : Type 0 where
  home : ℕ
  kept : HomeKept
  found : home_after home xs ≡ Some kept
  lasts : now < kept.until
  binding : Binding
  lives : LivesIn xs home binding
  row : r ≡ shown_in kept binding

all_append : {X : Type 0} (P : X → Type 0) (xs ys : List X) → AllByRecursion P xs → AllByRecursion P ys → AllByRecursion P (xs ++ ys)
all_append P [] ys first second = second
all_append P (x ∷ xs) ys first second = (first.0, all_append P xs ys first.1 second)

-- what holds of all items holds of those that are found
all_found : {X : Type 0} (P : X → Type 0) (key : X → ℕ) (xs : List X) (keys : List ℕ) → AllByRecursion P xs → AllByRecursion P (found_by key xs keys)
all_found P key xs [] all = tt
all_found {X = X} P key xs (k ∷ keys) all = by (find_by key k xs) (λ x is. all-find P key k xs x all is) (all_found P key xs keys all)
  where
    by : (o : Option X) → ((x : X) → o ≡ Some x → P x) → AllByRecursion P (found_by key xs keys) → AllByRecursion P (add_found o (found_by key xs keys))
    by None one more = more
    by (Some x) one more = (one x refl, more)

module _ (xs : List Acceptance) (now : ℕ) where
  -- a home whose sequence is kept, and what is remembered of it
  record IsRemembered (k : HomeKept) : Type 0 where
    found : home_after k.home xs ≡ Some k
    lasts : now < k.until

  home_live : (k : HomeKept) → IsRemembered k → AllByRecursion (IsOfLive xs now) (shown_home k)
  unfolding shown_home
  home_live k is = all_map (shown_in k) (IsOfLive xs now) (found_by number_key k.live all_numbers) (all_of (found_by number_key k.live all_numbers) (all_found (LivesIn xs k.home) number_key k.live all_numbers lives))
    where
      lives : AllByRecursion (LivesIn xs k.home) k.live
      lives = subst (AllLive xs k.home) is.found (all-live xs k.home)

      all_of : (bs : List Binding) → AllByRecursion (LivesIn xs k.home) bs → AllByRecursion (λ (b : Binding). IsOfLive xs now (shown_in k b)) bs
      all_of [] all = tt
      all_of (b ∷ bs) all = (record { home = k.home; kept = k; found = is.found; lasts = is.lasts; binding = b; lives = all.0; row = refl }, all_of bs all.1)

  homes_live : (ks : List HomeKept) → AllByRecursion IsRemembered ks → AllByRecursion (IsOfLive xs now) (flat_map shown_home ks)
  homes_live [] all = tt
  homes_live (k ∷ ks) all = all_append (IsOfLive xs now) (shown_home k) (flat_map shown_home ks) (home_live k all.0) (homes_live ks all.1)

  remembered : AllByRecursion IsRemembered (kept_homes now (homes xs))
  remembered =
      all_two (λ (k : HomeKept). find_by home_key k.home (homes xs) ≡ Some k) (λ (k : HomeKept). now < k.until) IsRemembered (kept_homes now (homes xs))
      (λ k found lasts. record { found = home_after-homes xs k.home ∙ found; lasts = lasts })
      (all-kept (λ (k : HomeKept). find_by home_key k.home (homes xs) ≡ Some k) until_key now (homes xs) (each_found home_key (homes xs) (rises-homes xs)))
      (kept_lasts until_key now (homes xs))

  rows_live : AllByRecursion (IsOfLive xs now) (rows_of xs now)
  rows_live = homes_live (kept_homes now (homes xs)) remembered

kept_to-is : (s : Setup) (past : List Entry) (n home : ℕ) → kept_to s past n home ≡ until_of (home_after home (accepted_by s.start past n))
unfolding kept_to
kept_to-is s past n home = refl

address_is : (a b : Address) → a.0 ≡ b.0 → a ≡ b
address_is a b e = ap (λ (n : ℕ). let x : Address = record { 0 = n } in x) e

moment_is : (a b : Moment) → a.0 ≡ b.0 → a ≡ b
moment_is a b e = ap (λ (n : ℕ). let x : Moment = record { 0 = n } in x) e

module _ (s : Setup) (past : List Entry) (each : EachAfter (Meets s) [] past) (n : ℕ) where
  -- the entry of the acceptance
  shown_at : (row : Row) (f : IsOfLive (accepted_by s.start past n) (moment_in s.start past) (seen_row row)) → IsPlaced s n f.home f.lives.acceptance [] past → IsLastAcceptance s past n (row_entry n row)
  shown_at row f p =
      record {
        before = p.before;
        number = m.number;
        home = m.home;
        binding = m.binding;
        accepted = m.accepted;
        after = p.after;
        whole = p.whole ∙ ap (λ (e : Entry). p.before ++ e ∷ p.after) entry_is;
        shows =
            ap (λ (h : Address). entries.Row (node_id n) h row.number row.careof row.sequence row.end row.kept_until) home_same
            ∙ ap (λ (b : ℕ). entries.Row (node_id n) m.home b row.careof row.sequence row.end row.kept_until) number_same
            ∙ ap (λ (h : Address). entries.Row (node_id n) m.home m.binding h row.sequence row.end row.kept_until) careof_same
            ∙ ap (λ (q : ℕ). entries.Row (node_id n) m.home m.binding m.accepted.careof q row.end row.kept_until) sequence_same
            ∙ ap (λ (t : Moment). entries.Row (node_id n) m.home m.binding m.accepted.careof m.accepted.sequence t row.kept_until) end_same
            ∙ ap (λ (t : Moment). entries.Row (node_id n) m.home m.binding m.accepted.careof m.accepted.sequence m.accepted.end t) kept_same;
        kept = subst (λ (t : ℕ). moment_in s.start past < t) until_is f.lasts;
        this_life = p.this_life;
        lives = outlived;
      }
    where
      entry : Entry
      entry = entries.Accepted p.node p.k p.of p.binding p.careof p.sequence p.end p.i p.j

      split : EachAfter (Meets s) [] (p.before ++ entries.Accepted p.node p.k p.of p.binding p.careof p.sequence p.end p.i p.j ∷ p.after)
      split = subst (λ (l : List Entry). EachAfter (Meets s) [] l) p.whole each

      m : HasAccepted s p.before (entries.Accepted p.node p.k p.of p.binding p.careof p.sequence p.end p.i p.j)
      m = each_at (Meets s) [] p.before (entries.Accepted p.node p.k p.of p.binding p.careof p.sequence p.end p.i p.j) p.after split

      home_is : p.of ≡ m.home
      home_is = let e = m.is in cc

      careof_is : p.careof ≡ m.accepted.careof
      careof_is = let e = m.is in cc

      sequence_is : p.sequence ≡ m.accepted.sequence
      sequence_is = let e = m.is in cc

      end_is : p.end ≡ m.accepted.end
      end_is = let e = m.is in cc

      binding_is : p.binding ≡ m.binding
      binding_is = let e = m.is in cc

      node_is : m.node ≡ n
      node_is = let e = m.is in let same : p.node ≡ node_id m.node = cc in sym (p.of_node ∙ ap (λ (x : NodeId). x.0) same)

      entry_is : entries.Accepted p.node p.k p.of p.binding p.careof p.sequence p.end p.i p.j ≡ accepted_entry n m.number m.home m.binding m.accepted
      entry_is = m.is ∙ ap (λ (k : ℕ). accepted_entry k m.number m.home m.binding m.accepted) node_is

      -- the home is one
      home_one : f.home ≡ m.home.0
      home_one = sym (ap (λ (a : Acceptance). a.home) p.is ∙ f.lives.of_home) ∙ ap (λ (h : Address). h.0) home_is

      -- the row has what the acceptance has
      home_same : row.home ≡ m.home
      home_same = address_is row.home p.of (ap (λ (r : BindingRow). r.home) f.row ∙ sym (ap (λ (a : Acceptance). a.home) p.is ∙ ap (λ (b : Binding). b.home) f.lives.is)) ∙ home_is

      number_same : row.number ≡ m.binding
      number_same = ap (λ (r : BindingRow). r.number) f.row ∙ sym (ap (λ (a : Acceptance). a.number) p.is ∙ ap (λ (b : Binding). b.number) f.lives.is) ∙ binding_is

      careof_same : row.careof ≡ m.accepted.careof
      careof_same = address_is row.careof p.careof (ap (λ (r : BindingRow). r.careof) f.row ∙ sym (ap (λ (a : Acceptance). a.careof) p.is ∙ ap (λ (b : Binding). b.careof) f.lives.is)) ∙ careof_is

      sequence_same : row.sequence ≡ m.accepted.sequence
      sequence_same = ap (λ (r : BindingRow). r.sequence) f.row ∙ sym (ap (λ (a : Acceptance). a.sequence) p.is ∙ ap (λ (b : Binding). b.sequence) f.lives.is) ∙ sequence_is

      end_same : row.end ≡ m.accepted.end
      end_same = moment_is row.end p.end (ap (λ (r : BindingRow). r.end) f.row ∙ sym (ap (λ (a : Acceptance). a.end) p.is ∙ ap (λ (b : Binding). b.end) f.lives.is)) ∙ end_is

      -- the sequence is kept to the moment of the row
      until_is : f.kept.until ≡ kept_to s past n m.home.0
      until_is =
          sym (ap until_of f.found) ∙ ap (λ (h : ℕ). until_of (home_after h (accepted_by s.start past n))) home_one
          ∙ sym (kept_to-is s past n m.home.0)

      kept_same : row.kept_until ≡ record { 0 = kept_to s past n m.home.0 }
      kept_same = moment_is row.kept_until (record { 0 = kept_to s past n m.home.0 }) (ap (λ (r : BindingRow). r.kept_until) f.row ∙ until_is)

      outlived : EachAfter (Outlives s n m.home.0 m.binding) (p.before ++ accepted_entry n m.number m.home m.binding m.accepted ∷ []) p.after
      outlived =
          subst (λ (e : Entry). EachAfter (Outlives s n m.home.0 m.binding) (p.before ++ e ∷ []) p.after) entry_is
          (subst (λ (h : ℕ). EachAfter (Outlives s n h m.binding) (p.before ++ entry ∷ []) p.after) home_one
          (subst (λ (number : ℕ). EachAfter (Outlives s n f.home number) (p.before ++ entry ∷ []) p.after) (sym (ap (λ (a : Acceptance). a.number) p.is) ∙ binding_is) p.outlives))

  shown_row : (row : Row) → IsOfLive (accepted_by s.start past n) (moment_in s.start past) (seen_row row) → IsLastAcceptance s past n (row_entry n row)
  shown_row row f = shown_at row f (placed s n f.home f.lives.acceptance past f.lives.before f.lives.after f.lives.whole f.lives.lives)

  -- rows that are those of the acceptances
  pub shown_rows : (rows : List Row) → map seen_row rows ≡ rows_of (accepted_by s.start past n) (moment_in s.start past) → AllByRecursion (IsLastAcceptance s past n) (map (row_entry n) rows)
  shown_rows rows are =
      let xs : List Acceptance = accepted_by s.start past n in
      let now : ℕ = moment_in s.start past in
      all_map (row_entry n) (IsLastAcceptance s past n) rows
      (all_one rows (all_unmap seen_row (IsOfLive xs now) rows (subst (AllByRecursion (IsOfLive xs now)) (sym are) (rows_live xs now))))
    where
      all_one : (rows : List Row) → AllByRecursion (λ (r : Row). IsOfLive (accepted_by s.start past n) (moment_in s.start past) (seen_row r)) rows → AllByRecursion (λ (r : Row). IsLastAcceptance s past n (row_entry n r)) rows
      all_one [] all = tt
      all_one (r ∷ rows) all = (shown_row r all.0, all_one rows all.1)

-- what a past of a correspondent keeps
pub past_rows : (s : Setup) (past : List Entry) (steps : List (Stamped Step)) (n room : ℕ) → IsPast s past steps n
    → map seen_row (rows_at (known room s.numbers steps).cache (moment_in s.start past)) ≡ rows_of (accepted_by s.start past n) (moment_in s.start past)
past_rows s past steps n room is =
    rows_same (known room s.numbers steps).cache (accepted_in steps) (cache-stands room s.numbers steps is.rises) (moment_in s.start past) (early room s.numbers steps is.rises (moment_in s.start past) (record { 0 = 0 }) is.early)
    (kept_untils (known room s.numbers steps).cache (moment_in s.start past) (cache-untils room s.numbers steps is.rises))
    ∙ ap (λ (l : List Acceptance). rows_of l (moment_in s.start past)) is.accepted

-- the sequence of a home is kept to this moment, and no longer
pub kept_to-floor : (s : Setup) (past : List Entry) (n home now : ℕ) → is_some (floor (accepted_by s.start past n) home now) ≡ nat_lt now (kept_to s past n home)
unfolding floor kept_to
kept_to-floor s past n home now = by (home_after home (accepted_by s.start past n))
  where
    some : (k : HomeKept) (b : Bool) → is_some (if b then Some k.sequence else None) ≡ b
    some k true = refl
    some k false = refl

    by : (o : Option HomeKept) → is_some (sequence_in now o) ≡ nat_lt now (until_of o)
    by None = grind (arith, nat_tests)
    by (Some k) = some k (nat_lt now k.until)
