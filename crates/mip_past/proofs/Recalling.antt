-- What is recalled of a home is what the acceptances of a node leave of it.
use Rattle.std.proofs.Common.{◌≡◌, ℕ, List, [], ◌∷◌, ◌++◌, Bool, true, false, max, refl, sym, ap, subst, ◌∙◌, arith}
use Rattle.std.specs.Prelude.{Option, Some, None, option_map, is_some, not, ◌&&◌, ◌||◌, ◌==◌, nat_lt, if◌then◌else◌}
use Rattle.std.proofs.lemmas.Bool.{eqb-true}
use Rattle.std.proofs.lemmas.Bool.Decides.{nat_tests}
use Rattle.std.proofs.lemmas.List.Sums.{fold-append}
use Rattle.mip_words.specs.declared.address.Address.{Address}
use Rattle.mip_words.specs.Last.{or_else, last_where}
use Rattle.mip_words.proofs.LastLaws.{last_where-push}
use Rattle.mip_binding.specs.Acceptance.{Acceptance, Binding}
use Rattle.mip_binding.specs.Rows.{others_by}
use Rattle.mip_binding.specs.Homes.{HomeKept, number_key, latest, kept_of, joins, kept_with, home_after}
use Rattle.mip_binding.specs.Held.{is_standing, stands_under, careof_where, held, held_under, sequence_in, floor}
use Rattle.mip_binding.proofs.HomeLaws.{home_after-push}
use Rattle.mip_entries.specs.declared.entry.Entry.{Entry}
use Rattle.mip_entries.specs.declared.entry.Entry.TheVariants as entries
use Rattle.mip_history.specs.Bound.{Lived, lived, accepted_by}
use Rattle.mip_past.specs.declared.made.Made.{Made}
use Rattle.mip_past.specs.declared.kept.Kept.{Kept}
use Rattle.mip_past.specs.declared.recall.Recall.{Recall}
use Rattle.mip_past.specs.Recalling.{is_behind, lasts, unless_renewed, alone, joined, with_made, recall_with, next_recall, lived_by, binding_made, where_so, IsOnly, IsKept, AreKept, Recalls, floor_kept, under_standing, under_kept}

-- the last item that passes a test, by a test that answers alike
last_alike : (p q : Binding → Bool) (bs : List Binding) → ((b : Binding) → p b ≡ q b) → last_where p bs ≡ last_where q bs
last_alike p q [] same = refl
last_alike p q (b ∷ bs) same =
    ap (λ (o : Option Binding). or_else o (if p b then Some b else None)) (last_alike p q bs same)
    ∙ ap (λ (t : Bool). or_else (last_where q bs) (if t then Some b else None)) (same b)

-- and none passes one that never does
last_never : (p : Binding → Bool) (bs : List Binding) → ((b : Binding) → p b ≡ false) → last_where p bs ≡ None
last_never p [] never = refl
last_never p (b ∷ bs) never =
    ap (λ (o : Option Binding). or_else o (if p b then Some b else None)) (last_never p bs never)
    ∙ ap (λ (t : Bool). or_else None (if t then Some b else None)) (never b)

-- among the bindings of other numbers
last_other : (p : Binding → Bool) (m : ℕ) (bs : List Binding) → last_where p (others_by number_key m bs) ≡ last_where (λ b. not (b.number == m) && p b) bs
last_other p m [] = refl
last_other p m (b ∷ bs) = by (not (b.number == m)) (last_other p m bs)
  where
    same : (o : Option Binding) → o ≡ or_else o None
    same None = refl
    same (Some c) = refl

    by : (t : Bool) → last_where p (others_by number_key m bs) ≡ last_where (λ c. not (c.number == m) && p c) bs
        → last_where p (if t then b ∷ others_by number_key m bs else others_by number_key m bs)
        ≡ or_else (last_where (λ c. not (c.number == m) && p c) bs) (if t && p b then Some b else None)
    by true rest = ap (λ (o : Option Binding). or_else o (if p b then Some b else None)) rest
    by false rest = rest ∙ same (last_where (λ c. not (c.number == m) && p c) bs)

-- a binding of another number than m
abbrev unless_number : ℕ → Option Binding → Option Binding
unless_number m None = None
unless_number m (Some b) = if not (b.number == m) then Some b else None

and_true : (b : Bool) → (b && true) ≡ b
and_true true = refl
and_true false = refl

and_false : (b : Bool) → (b && false) ≡ false
and_false true = refl
and_false false = refl

-- what is the only one that passes a test, with one binding more
module _ (test : Binding → Bool) where
  only_one : (b : Binding) → IsOnly test (b ∷ []) (if test b then Some b else None)
  only_one b p = by (test b)
    where
      by : (t : Bool) → or_else None (if p b && t then Some b else None) ≡ where_so p (if t then Some b else None)
      by true = ap (λ (q : Bool). if q then Some b else None) (and_true (p b))
      by false = ap (λ (q : Bool). if q then Some b else None) (and_false (p b))

  only_others : (bs : List Binding) (one : Option Binding) (b : Binding) → test b ≡ false → IsOnly test bs one → IsOnly test (others_by number_key b.number bs ++ b ∷ []) (unless_number b.number one)
  only_others bs one b apart only p =
      last_where-push (λ (c : Binding). p c && test c) (others_by number_key b.number bs) b
      ∙ ap (λ (t : Bool). if p b && t then Some b else last_where (λ (c : Binding). p c && test c) (others_by number_key b.number bs)) apart
      ∙ ap (λ (t : Bool). if t then Some b else last_where (λ (c : Binding). p c && test c) (others_by number_key b.number bs)) (and_false (p b))
      ∙ last_other (λ (c : Binding). p c && test c) b.number bs
      ∙ last_alike (λ (c : Binding). not (c.number == b.number) && (p c && test c)) (λ (c : Binding). (not (c.number == b.number) && p c) && test c) bs (λ c. assoc (not (c.number == b.number)) (p c) (test c))
      ∙ only (λ (c : Binding). not (c.number == b.number) && p c)
      ∙ left one
    where
      assoc : (x y z : Bool) → (x && (y && z)) ≡ ((x && y) && z)
      assoc true y z = refl
      assoc false y z = refl

      left : (o : Option Binding) → where_so (λ c. not (c.number == b.number) && p c) o ≡ where_so p (unless_number b.number o)
      left None = refl
      left (Some c) = by (not (c.number == b.number))
        where
          by : (t : Bool) → (if t && p c then Some c else None) ≡ where_so p (if t then Some c else None)
          by true = refl
          by false = refl

-- the one of a number
module _ (number : ℕ) where
  only_under : (bs : List Binding) (one : Option Binding) (b : Binding) → IsOnly (λ c. c.number == number) bs one
      → IsOnly (λ c. c.number == number) (others_by number_key b.number bs ++ b ∷ []) (if b.number == number then Some b else one)
  only_under bs one b only p =
      last_where-push (λ (c : Binding). p c && (c.number == number)) (others_by number_key b.number bs) b
      ∙ ap (λ (o : Option Binding). if p b && (b.number == number) then Some b else o) (last_other (λ (c : Binding). p c && (c.number == number)) b.number bs)
      ∙ by (b.number == number) refl
    where
      by : (t : Bool) → (b.number == number) ≡ t
          → (if p b && t then Some b else last_where (λ c. not (c.number == b.number) && (p c && (c.number == number))) bs) ≡ where_so p (if t then Some b else one)
      by true is = ap (λ (o : Option Binding). if p b && true then Some b else o) (last_never (λ (c : Binding). not (c.number == b.number) && (p c && (c.number == number))) bs never) ∙ first (p b)
        where
          never : (c : Binding) → (not (c.number == b.number) && (p c && (c.number == number))) ≡ false
          never c = each (p c) (c.number == b.number) refl (c.number == number) refl
            where
              each : (q s : Bool) → (c.number == b.number) ≡ s → (t : Bool) → (c.number == number) ≡ t → (not s && (q && t)) ≡ false
              each q true same t one = refl
              each true false same true one = absurd (let no : ⊥ = grind (arith, nat_tests) in no)
              each true false same false one = refl
              each false false same t one = refl

          first : (q : Bool) → (if q && true then Some b else None) ≡ (if q then Some b else None)
          first true = refl
          first false = refl
      by false is =
          ap (λ (t : Bool). if t then Some b else last_where (λ (c : Binding). not (c.number == b.number) && (p c && (c.number == number))) bs) (and_false (p b))
          ∙ last_alike (λ (c : Binding). not (c.number == b.number) && (p c && (c.number == number))) (λ (c : Binding). p c && (c.number == number)) bs alike
          ∙ only p
        where
          alike : (c : Binding) → (not (c.number == b.number) && (p c && (c.number == number))) ≡ (p c && (c.number == number))
          alike c = each (p c) (c.number == b.number) refl (c.number == number) refl
            where
              each : (q s : Bool) → (c.number == b.number) ≡ s → (t : Bool) → (c.number == number) ≡ t → (not s && (q && t)) ≡ (q && t)
              each q false same t one = refl
              each q true same true one = absurd (let no : ⊥ = grind (arith, nat_tests) in no)
              each true true same false one = refl
              each false true same false one = refl

-- until when a sequence is kept
or_same : (b : Bool) → (b || false) ≡ b
or_same true = refl
or_same false = refl

or_yes : (b : Bool) → (b || true) ≡ true
or_yes true = refl
or_yes false = refl

some_else : (o : Option Binding) (t : Bool) (b : Binding) → is_some (or_else o (if t then Some b else None)) ≡ (is_some o || t)
some_else None true b = refl
some_else None false b = refl
some_else (Some c) t b = refl

module _ (home now : ℕ) where
  abbrev ends_home : Binding → Bool
  ends_home b = nat_lt now b.end && (b.careof == home)

  latest_tests : (m : ℕ) (bs : List Binding) → nat_lt now (latest m bs) ≡ (nat_lt now m || (is_some (last_where ends_home bs) || is_some (last_where (is_standing home now) bs)))
  latest_tests m [] = sym (or_same (nat_lt now m))
  latest_tests m (b ∷ bs) =
      later b.end (latest m bs)
      ∙ ap (λ (t : Bool). nat_lt now b.end || t) (latest_tests m bs)
      ∙ parts (nat_lt now b.end) (b.careof == home) (nat_lt now m) (is_some (last_where ends_home bs)) (is_some (last_where (is_standing home now) bs))
      ∙ ap (λ (t : Bool). nat_lt now m || (t || (is_some (last_where (is_standing home now) bs) || is_standing home now b))) (sym (some_else (last_where ends_home bs) (ends_home b) b))
      ∙ ap (λ (t : Bool). nat_lt now m || (is_some (last_where ends_home (b ∷ bs)) || t)) (sym (some_else (last_where (is_standing home now) bs) (is_standing home now b) b))
    where
      later : (x y : ℕ) → nat_lt now (max x y) ≡ (nat_lt now x || nat_lt now y)
      later x y = by (nat_lt now x) refl (nat_lt now y) refl
        where
          by : (a : Bool) → nat_lt now x ≡ a → (c : Bool) → nat_lt now y ≡ c → nat_lt now (max x y) ≡ (a || c)
          by true one c two = grind (arith, nat_tests)
          by false one true two = grind (arith, nat_tests)
          by false one false two = grind (arith, nat_tests)

      parts : (e h l a c : Bool) → (e || (l || (a || c))) ≡ (l || ((a || (e && h)) || (c || (not h && e))))
      parts false true l a c = ap (λ (x : Bool). l || (x || c)) (sym (or_same a)) ∙ ap (λ (x : Bool). l || ((a || false) || x)) (sym (or_same c))
      parts false false l a c = ap (λ (x : Bool). l || (x || c)) (sym (or_same a)) ∙ ap (λ (x : Bool). l || ((a || false) || x)) (sym (or_same c))
      parts true true l a c = sym (ap (λ (x : Bool). l || (x || (c || false))) (or_yes a) ∙ or_yes l)
      parts true false l a c = sym (ap (λ (x : Bool). l || ((a || false) || x)) (or_yes c) ∙ ap (λ (x : Bool). l || x) (or_yes (a || false)) ∙ or_yes l)

-- what is kept of a home is what its acceptances leave
abbrev acceptance_made : (at home : ℕ) → Made → Acceptance
acceptance_made at home made = record { at = at; home = home; number = made.number; careof = made.careof.0; sequence = made.sequence; end = made.end.0 }

map_if : (home : ℕ) (t : Bool) (made : Made) (o : Option Made)
    → (if t then Some (binding_made home made) else option_map (binding_made home) o) ≡ option_map (binding_made home) (if t then Some made else o)
map_if home true made o = refl
map_if home false made o = refl

map_unless : (home m : ℕ) (o : Option Made) → unless_number m (option_map (binding_made home) o) ≡ option_map (binding_made home) (unless_renewed m o)
map_unless home m None = refl
map_unless home m (Some made) = map_if home (not (made.number == m)) made None

module _ (home number : ℕ) where
  lasts_is : (k : HomeKept) (kept : Kept) → IsKept home number k kept → (now : ℕ) → lasts now (careof_where (is_standing home now) (Some k)) kept ≡ nat_lt now k.until
  lasts_is k kept is now =
      ap (λ (t : Bool). nat_lt now kept.least || (is_behind now kept.deletion || t)) (some_map (last_where (is_standing home now) k.live))
      ∙ ap (λ (t : Bool). nat_lt now kept.least || (t || is_some (last_where (is_standing home now) k.live))) (sym (ap is_some (is.deletion (λ (b : Binding). nat_lt now b.end)) ∙ behind kept.deletion))
      ∙ sym (latest_tests home now kept.least k.live)
      ∙ sym (ap (nat_lt now) is.until)
    where
      some_map : (o : Option Binding) → is_some (option_map (λ b. b.careof) o) ≡ is_some o
      some_map None = refl
      some_map (Some b) = refl

      behind : (o : Option Made) → is_some (where_so (λ b. nat_lt now b.end) (option_map (binding_made home) o)) ≡ is_behind now o
      behind None = refl
      behind (Some made) = by (nat_lt now made.end.0)
        where
          by : (t : Bool) → is_some (if t then Some (binding_made home made) else None) ≡ t
          by true = refl
          by false = refl

  alone_kept : (at : ℕ) (made : Made) → IsKept home number (kept_of (acceptance_made at home made) (binding_made home made ∷ [])) (alone home number at made)
  alone_kept at made = record {
    sequence = refl;
    until = refl;
    deletion = subst (IsOnly (λ b. b.careof == home) (binding_made home made ∷ [])) (map_if home (made.careof.0 == home) made None) (only_one (λ b. b.careof == home) (binding_made home made));
    under = subst (IsOnly (λ b. b.number == number) (binding_made home made ∷ [])) (map_if home (made.number == number) made None) (only_one (λ b. b.number == number) (binding_made home made));
  }

  joined_kept : (at : ℕ) (k : HomeKept) (kept : Kept) (made : Made) → (made.careof.0 == home) ≡ false → IsKept home number k kept
      → IsKept home number (kept_of (acceptance_made at home made) (others_by number_key made.number k.live ++ binding_made home made ∷ [])) (joined number at kept made)
  joined_kept at k kept made away is = record {
    sequence = refl;
    until = refl;
    deletion =
        subst (IsOnly (λ b. b.careof == home) (others_by number_key made.number k.live ++ binding_made home made ∷ [])) (map_unless home made.number kept.deletion)
        (only_others (λ b. b.careof == home) k.live (option_map (binding_made home) kept.deletion) (binding_made home made) away is.deletion);
    under =
        subst (IsOnly (λ b. b.number == number) (others_by number_key made.number k.live ++ binding_made home made ∷ [])) (map_if home (made.number == number) made kept.under)
        (only_under number k.live (option_map (binding_made home) kept.under) (binding_made home made) is.under);
  }

  kept_next : (at : ℕ) (o : Option HomeKept) (kept : Option Kept) (made : Made) → AreKept home number o kept
      → IsKept home number (kept_with o (acceptance_made at home made)) (with_made home number at (careof_where (is_standing home at) o) kept made)
  kept_next at None None made are = alone_kept at made
  kept_next at None (Some kept) made are = absurd are
  kept_next at (Some k) None made are = absurd are
  kept_next at (Some k) (Some kept) made is =
      subst (λ (t : Bool). IsKept home number (if joins k x then more else only) (if not (made.careof.0 == home) && t then joined number at kept made else alone home number at made))
      (sym (lasts_is k kept is at)) (by (joins k x) refl)
    where
      x : Acceptance
      x = acceptance_made at home made

      more : HomeKept
      more = kept_of x (others_by number_key made.number k.live ++ binding_made home made ∷ [])

      only : HomeKept
      only = kept_of x (binding_made home made ∷ [])

      by : (j : Bool) → joins k x ≡ j → IsKept home number (if j then more else only) (if j then joined number at kept made else alone home number at made)
      by true is_joined = joined_kept at k kept made (away (made.careof.0 == home) is_joined) is
        where
          away : (d : Bool) → (not d && nat_lt at k.until) ≡ true → d ≡ false
          away true e = absurd cc
          away false e = refl
      by false is_joined = alone_kept at made

module _ (n home number : ℕ) where
  accepted_step : (mine same : Bool) (l : Lived) (r : Recall) (h : Address) (made : Made) → (h.0 == home) ≡ same → Recalls home number l r
      → Recalls home number (if mine then record { at = l.at; accepted = l.accepted ++ record { at = l.at; home = h.0; number = made.number; careof = made.careof.0; sequence = made.sequence; end = made.end.0 } ∷ [] } else l)
      (recall_with home number (held l.accepted home r.at.0) r (if mine && same then Some made else None))
  unfolding held
  accepted_step true true l r h made same is =
      let one : h.0 ≡ home = eqb-true h.0 home same in
      subst (λ (g : ℕ). Recalls home number (record { at = l.at; accepted = l.accepted ++ acceptance_made l.at g made ∷ [] })
      (record { at = r.at; kept = Some (with_made home number r.at.0 (careof_where (is_standing home r.at.0) (home_after home l.accepted)) r.kept made) }))
      (sym one)
      (record {
        at = is.at;
        kept = subst (λ (o : Option HomeKept). AreKept home number o (Some (with_made home number r.at.0 (careof_where (is_standing home r.at.0) (home_after home l.accepted)) r.kept made)))
            (sym after)
            (subst (λ (t : ℕ). IsKept home number (kept_with (home_after home l.accepted) (acceptance_made l.at home made)) (with_made home number t (careof_where (is_standing home t) (home_after home l.accepted)) r.kept made))
            (sym is.at) (kept_next home number l.at (home_after home l.accepted) r.kept made is.kept));
      })
    where
      after : home_after home (l.accepted ++ acceptance_made l.at home made ∷ []) ≡ Some (kept_with (home_after home l.accepted) (acceptance_made l.at home made))
      after =
          home_after-push l.accepted (acceptance_made l.at home made) home
          ∙ ap (λ (b : Bool). if b then Some (kept_with (home_after home l.accepted) (acceptance_made l.at home made)) else home_after home l.accepted) (let e : (home == home) ≡ true = grind (arith, nat_tests) in e)
  accepted_step true false l r h made same is = record {
    at = is.at;
    kept = subst (λ (o : Option HomeKept). AreKept home number o r.kept) (sym after) is.kept;
  }
    where
      after : home_after home (l.accepted ++ acceptance_made l.at h.0 made ∷ []) ≡ home_after home l.accepted
      after =
          home_after-push l.accepted (acceptance_made l.at h.0 made) home
          ∙ ap (λ (b : Bool). if b then Some (kept_with (home_after home l.accepted) (acceptance_made l.at h.0 made)) else home_after home l.accepted) same
  accepted_step false same l r h made is_same is = is

  restarted_step : (mine : Bool) (l : Lived) (r : Recall) → Recalls home number l r
      → Recalls home number (record { at = l.at; accepted = if mine then [] else l.accepted }) (if mine then record { at = r.at; kept = None } else r)
  restarted_step true l r is = record { at = is.at; kept = tt }
  restarted_step false l r is = record { at = is.at; kept = is.kept }

  recalls_step : (l : Lived) (e : Entry) (r : Recall) → Recalls home number l r → Recalls home number (lived n l e) (next_recall n home number (held l.accepted home r.at.0) e r)
  recalls_step l (entries.At moment) r is = record { at = refl; kept = is.kept }
  recalls_step l (entries.Restarted node) r is = restarted_step (n == node.0) l r is
  recalls_step l (entries.Accepted node k h binding careof sequence end i j) r is =
      accepted_step (n == node.0) (h.0 == home) l r h (record { number = binding; careof = careof; sequence = sequence; end = end }) refl is
  recalls_step l e r is = is

  -- with one entry more
  pub recalls_next : (start : ℕ) (front : List Entry) (e : Entry) (r : Recall) → Recalls home number (lived_by start n front) r
      → Recalls home number (lived_by start n (front ++ e ∷ [])) (next_recall n home number (held (accepted_by start front n) home r.at.0) e r)
  unfolding accepted_by
  recalls_next start front e r is =
      subst (λ (l : Lived). Recalls home number l (next_recall n home number (held (lived_by start n front).accepted home r.at.0) e r))
      (sym (fold-append (lived n) (record { at = start; accepted = [] }) front (e ∷ []))) (recalls_step (lived_by start n front) e r is)

  -- and what is asked of what is recalled
  pub recalled_floor : (start : ℕ) (past : List Entry) (r : Recall) → Recalls home number (lived_by start n past) r → (now : ℕ)
      → floor_kept now (held (accepted_by start past n) home now) r.kept ≡ floor (accepted_by start past n) home now
  unfolding accepted_by held floor
  recalled_floor start past r is now = by (home_after home (lived_by start n past).accepted) r.kept is.kept
    where
      by : (o : Option HomeKept) (kept : Option Kept) → AreKept home number o kept → floor_kept now (careof_where (is_standing home now) o) kept ≡ sequence_in now o
      by None None are = refl
      by None (Some kept) are = absurd are
      by (Some k) None are = absurd are
      by (Some k) (Some kept) are =
          ap (λ (t : Bool). if t then Some kept.sequence else None) (lasts_is home number k kept are now)
          ∙ ap (λ (x : ℕ). if nat_lt now k.until then Some x else None) (sym are.sequence)

  pub recalled_under : (start : ℕ) (past : List Entry) (r : Recall) → Recalls home number (lived_by start n past) r → (now : ℕ)
      → option_map (λ a. a.0) (under_kept now home r.kept) ≡ held_under (accepted_by start past n) home number now
  unfolding accepted_by held_under
  recalled_under start past r is now = by (home_after home (lived_by start n past).accepted) r.kept is.kept
    where
      at_it : (o : Option Made) → option_map (λ a. a.0) (under_standing now home o) ≡ option_map (λ b. b.careof) (where_so (is_standing home now) (option_map (binding_made home) o))
      at_it None = refl
      at_it (Some made) = each (not (made.careof.0 == home) && nat_lt now made.end.0)
        where
          each : (t : Bool) → option_map (λ (a : Address). a.0) (if t then Some made.careof else None) ≡ option_map (λ (b : Binding). b.careof) (if t then Some (binding_made home made) else None)
          each true = refl
          each false = refl

      by : (o : Option HomeKept) (kept : Option Kept) → AreKept home number o kept → option_map (λ a. a.0) (under_kept now home kept) ≡ careof_where (stands_under home number now) o
      by None None are = refl
      by None (Some kept) are = absurd are
      by (Some k) None are = absurd are
      by (Some k) (Some kept) are = at_it kept.under ∙ sym (ap (option_map (λ (b : Binding). b.careof)) (are.under (is_standing home now)))
