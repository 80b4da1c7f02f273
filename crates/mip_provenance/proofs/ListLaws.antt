-- What is known of the first answer in a list, of what stands before it, and of items seen with those before them.
use Rattle.std.proofs.Common.{◌≡◌, ℕ, ◌≤◌, List, [], ◌∷◌, ◌++◌, Bool, true, false, refl, sym, ap, ◌∙◌, arith}
use Rattle.std.specs.Prelude.{fold, map, Option, Some, None, ◌||◌, ◌&&◌, ◌==◌, nat_lt, if◌then◌else◌}
use Rattle.std.specs.List.{list_any, find, cons_option}
use Rattle.std.specs.Option.{option_or}
use Rattle.std.proofs.lemmas.List.{append_assoc, append-nil}
use Rattle.std.proofs.lemmas.List.Folds.{list_any-append}
use Rattle.std.proofs.lemmas.Bool.{or_left, or_right, or_parts, and_parts, and_from, and_right, eqb-true, ltb-true, ltb-false}
use Rattle.mip_words.specs.EachAfter.{EachAfter}
use Rattle.mip_words.specs.Last.{or_else}
use Rattle.mip_provenance.specs.Lists.{first_some, until, along, lesser}

-- where the first item stands that says something
pub record SaysFirst {X Y : Type 0} (says : X → Option Y) (xs : List X) (y : Y) : Type 0 where
  pub here : X
  pub before : List X
  pub after : List X
  pub whole : xs ≡ before ++ here ∷ after
  pub says_it : says here ≡ Some y
  pub none_before : first_some says before ≡ None

pub first_some-found : {X Y : Type 0} (says : X → Option Y) (xs : List X) (y : Y) → first_some says xs ≡ Some y → SaysFirst says xs y
first_some-found says [] y e = absurd cc
first_some-found {X = X} {Y = Y} says (x ∷ xs) y e = by (says x) refl (first_some-found says xs y) e
  where
    by : (o : Option Y) → says x ≡ o → (first_some says xs ≡ Some y → SaysFirst says xs y) → option_or o (first_some says xs) ≡ Some y → SaysFirst says (x ∷ xs) y
    by (Some z) is more e = record { here = x; before = []; after = xs; whole = refl; says_it = is ∙ e; none_before = refl }
    by None is more e =
        let s = more e in
        record { here = s.here; before = x ∷ s.before; after = s.after; whole = ap (λ l. x ∷ l) s.whole; says_it = s.says_it; none_before = ap (λ (o : Option Y). option_or o (first_some says s.before)) is ∙ s.none_before }

-- where the first item stands that passes
pub record FoundFirst {X : Type 0} (p : X → Bool) (xs : List X) (x : X) : Type 0 where
  pub before : List X
  pub after : List X
  pub whole : xs ≡ before ++ x ∷ after
  pub passes : p x ≡ true
  pub none_before : list_any p before ≡ false

pub find-found : {X : Type 0} (p : X → Bool) (xs : List X) (x : X) → find p xs ≡ Some x → FoundFirst p xs x
find-found p [] x e = absurd cc
find-found {X = X} p (y ∷ ys) x e = by (p y) refl (find-found p ys x) e
  where
    by : (b : Bool) → p y ≡ b → (find p ys ≡ Some x → FoundFirst p ys x) → (if b then Some y else find p ys) ≡ Some x → FoundFirst p (y ∷ ys) x
    by true test more e =
        let same : y ≡ x = cc in
        record { before = []; after = ys; whole = ap (λ z. z ∷ ys) same; passes = ap p (sym same) ∙ test; none_before = refl }
    by false test more e =
        let s = more e in
        record { before = y ∷ s.before; after = s.after; whole = ap (λ l. y ∷ l) s.whole; passes = s.passes; none_before = ap (λ (b : Bool). b || list_any p s.before) test ∙ s.none_before }

pub record IsFound {X : Type 0} (p : X → Bool) (xs : List X) : Type 0 where
  pub item : X
  pub found : find p xs ≡ Some item

pub found_of_any : {X : Type 0} (p : X → Bool) (xs : List X) → list_any p xs ≡ true → IsFound p xs
found_of_any p [] e = absurd cc
found_of_any {X = X} p (y ∷ ys) e = by (p y) refl (found_of_any p ys) e
  where
    by : (b : Bool) → p y ≡ b → (list_any p ys ≡ true → IsFound p ys) → (b || list_any p ys) ≡ true → IsFound p (y ∷ ys)
    by true test more e = record { item = y; found = ap (λ (b : Bool). if b then Some y else find p ys) test }
    by false test more e =
        let s = more e in
        record { item = s.item; found = ap (λ (b : Bool). if b then Some y else find p ys) test ∙ s.found }

-- what stands before a place that passes, where nothing before it does
pub until_at : {X : Type 0} (p : X → Bool) (before : List X) (x : X) (after : List X) → list_any p before ≡ false → p x ≡ true → until p (before ++ x ∷ after) ≡ before
until_at p [] x after none passes = ap (λ (b : Bool). if b then [] else x ∷ until p after) passes
until_at {X = X} p (y ∷ before) x after none passes =
    let parts = or_parts (p y) (list_any p before) none in
    ap (λ (b : Bool). if b then [] else y ∷ until p (before ++ x ∷ after)) parts.0 ∙ ap (λ (l : List X). y ∷ l) (until_at p before x after parts.1 passes)

-- the law of an item at its place
pub any_at : {X : Type 0} (p : X → Bool) (before : List X) (x : X) (after : List X) → p x ≡ true → list_any p (before ++ x ∷ after) ≡ true
any_at p before x after passes =
    list_any-append p before (x ∷ after) ∙ or_right (list_any p before) (list_any p (x ∷ after)) (or_left (p x) (list_any p after) passes)

pub any_front : {X : Type 0} (p : X → Bool) (xs ys : List X) → list_any p xs ≡ true → list_any p (xs ++ ys) ≡ true
any_front p xs ys e = list_any-append p xs ys ∙ or_left (list_any p xs) (list_any p ys) e

-- a law of each item holds of the items before a place
pub each_before : {X : Type 0} (P : List X → X → Type 0) (front before after : List X) → EachAfter P front (before ++ after) → EachAfter P front before
each_before P front [] after each = tt
each_before {X = X} P front (x ∷ before) after each = (each.0, each_before P (front ++ x ∷ []) before after each.1)

-- what is said along two lists, one behind the other
pub along-append : {X Y : Type 0} (says : List X → X → Option Y) (front xs ys : List X) → along says front (xs ++ ys) ≡ along says front xs ++ along says (front ++ xs) ys
along-append {X = X} says front [] ys = ap (λ (f : List X). along says f ys) (sym (append-nil front))
along-append {X = X} {Y = Y} says front (x ∷ xs) ys =
    ap (λ (l : List Y). cons_option (says front x) l) (along-append says (front ++ x ∷ []) xs ys ∙ ap (λ (f : List X). along says (front ++ x ∷ []) xs ++ along says f ys) (append_assoc front (x ∷ []) xs))
    ∙ by (says front x)
  where
    by : (o : Option Y) → cons_option o (along says (front ++ x ∷ []) xs ++ along says (front ++ x ∷ xs) ys) ≡ cons_option o (along says (front ++ x ∷ []) xs) ++ along says (front ++ x ∷ xs) ys
    by None = refl
    by (Some y) = refl

-- an item that says something at its place
pub along_here : {X Y : Type 0} (says : List X → X → Option Y) (p : Y → Bool) (before : List X) (x : X) (after : List X) (y : Y)
    → says before x ≡ Some y → p y ≡ true → list_any p (along says [] (before ++ x ∷ after)) ≡ true
along_here {X = X} {Y = Y} says p before x after y is passes =
    ap (list_any p) (along-append says [] before (x ∷ after) ∙ ap (λ (o : Option Y). along says [] before ++ cons_option o (along says (before ++ x ∷ []) after)) is)
    ∙ any_at p (along says [] before) y (along says (before ++ x ∷ []) after) passes

-- where an item stands that says the first thing that passes
pub record SaysAlong {X Y : Type 0} (says : List X → X → Option Y) (p : Y → Bool) (front xs : List X) (y : Y) : Type 0 where
  pub here : X
  pub before : List X
  pub after : List X
  pub whole : xs ≡ before ++ here ∷ after
  pub says_it : says (front ++ before) here ≡ Some y
  pub passes : p y ≡ true
  pub none_before : list_any p (along says front before) ≡ false

pub along_found : {X Y : Type 0} (says : List X → X → Option Y) (p : Y → Bool) (front xs : List X) (y : Y) → find p (along says front xs) ≡ Some y → SaysAlong says p front xs y
along_found says p front [] y e = absurd cc
along_found {X = X} {Y = Y} says p front (x ∷ xs) y e = by (says front x) refl (along_found says p (front ++ x ∷ []) xs y) e
  where
    further : (o : Option Y) → says front x ≡ o → list_any p (cons_option o []) ≡ false → SaysAlong says p (front ++ x ∷ []) xs y → SaysAlong says p front (x ∷ xs) y
    further o is none s = record {
      here = s.here;
      before = x ∷ s.before;
      after = s.after;
      whole = ap (λ l. x ∷ l) s.whole;
      says_it = ap (λ (f : List X). says f s.here) (sym (append_assoc front (x ∷ []) s.before)) ∙ s.says_it;
      passes = s.passes;
      none_before = ap (λ (o : Option Y). list_any p (cons_option o (along says (front ++ x ∷ []) s.before))) is ∙ quiet o none s.none_before;
    }
      where
        quiet : (o : Option Y) → list_any p (cons_option o []) ≡ false → list_any p (along says (front ++ x ∷ []) s.before) ≡ false → list_any p (cons_option o (along says (front ++ x ∷ []) s.before)) ≡ false
        quiet None none rest = rest
        quiet (Some z) none rest = ap (λ (b : Bool). b || list_any p (along says (front ++ x ∷ []) s.before)) (or_parts (p z) false none).0 ∙ rest

    passed : (z : Y) → says front x ≡ Some z → (b : Bool) → p z ≡ b → (find p (along says (front ++ x ∷ []) xs) ≡ Some y → SaysAlong says p (front ++ x ∷ []) xs y)
        → (if b then Some z else find p (along says (front ++ x ∷ []) xs)) ≡ Some y → SaysAlong says p front (x ∷ xs) y
    passed z is true test more e =
        let same : z ≡ y = cc in
        record { here = x; before = []; after = xs; whole = refl; says_it = ap (λ (f : List X). says f x) (append-nil front) ∙ is ∙ ap Some same; passes = ap p (sym same) ∙ test; none_before = refl }
    passed z is false test more e = further (Some z) is (ap (λ (b : Bool). b || false) test) (more e)

    by : (o : Option Y) → says front x ≡ o → (find p (along says (front ++ x ∷ []) xs) ≡ Some y → SaysAlong says p (front ++ x ∷ []) xs y)
        → find p (cons_option o (along says (front ++ x ∷ []) xs)) ≡ Some y → SaysAlong says p front (x ∷ xs) y
    by None is more e = further None is refl (more e)
    by (Some z) is more e = passed z is (p z) refl more e

-- the least number passes
pub least_passes : (p : ℕ → Bool) (best : Option ℕ) (ks : List ℕ) (m : ℕ) → ((b : ℕ) → best ≡ Some b → p b ≡ true) → fold (lesser p) best ks ≡ Some m → p m ≡ true
least_passes p best [] m good e = good m e
least_passes p best (k ∷ ks) m good e = least_passes p (lesser p best k) ks m (λ b is. step best (p k) refl good b is) e
  where
    step : (best : Option ℕ) (t : Bool) → p k ≡ t → ((b : ℕ) → best ≡ Some b → p b ≡ true) → (b : ℕ) → lesser p best k ≡ Some b → p b ≡ true
    step None true test good b is = let same : k ≡ b = one (p k) test is in ap p (sym same) ∙ test
      where
        one : (t : Bool) → t ≡ true → (if t then Some k else None) ≡ Some b → k ≡ b
        one true t e = cc
        one false t e = absurd cc
    step None false test good b is = absurd (none (p k) test is)
      where
        none : (t : Bool) → t ≡ false → (if t then Some k else None) ≡ Some b → ⊥
        none true t e = cc
        none false t e = cc
    step (Some c) t test good b is = either (p k && nat_lt k c) refl is
      where
        either : (u : Bool) → (p k && nat_lt k c) ≡ u → (if u then Some k else Some c) ≡ Some b → p b ≡ true
        either true u e = let same : k ≡ b = cc in ap p (sym same) ∙ (and_parts (p k) (nat_lt k c) u).0
        either false u e = good b e

-- a fold keeps what is least so far, or finds less
least_falls : (p : ℕ → Bool) (b : ℕ) (ks : List ℕ) (m : ℕ) → fold (lesser p) (Some b) ks ≡ Some m → m ≤ b
least_falls p b [] m e = let same : b ≡ m = cc in omega (arith, same)
least_falls p b (k ∷ ks) m e = by (p k) (nat_lt k b) refl (least_falls p k ks m) (least_falls p b ks m) e
  where
    by : (t u : Bool) → nat_lt k b ≡ u → (fold (lesser p) (Some k) ks ≡ Some m → m ≤ k) → (fold (lesser p) (Some b) ks ≡ Some m → m ≤ b)
        → fold (lesser p) (if t && u then Some k else Some b) ks ≡ Some m → m ≤ b
    by true true less falls stays e = omega (arith, falls e, ltb-true k b less)
    by true false less falls stays e = stays e
    by false u less falls stays e = stays e

-- no number that passes is less than the least
pub least_least : (p : ℕ → Bool) (best : Option ℕ) (ks : List ℕ) (m k : ℕ) → fold (lesser p) best ks ≡ Some m → list_any (λ x. x == k) ks ≡ true → p k ≡ true → m ≤ k
least_least p best [] m k e member passes = absurd cc
least_least p best (x ∷ ks) m k e member passes = by (x == k) refl (λ member. least_least p (lesser p best x) ks m k e member passes) member
  where
    here : (best : Option ℕ) → x ≡ k → fold (lesser p) (lesser p best x) ks ≡ Some m → m ≤ k
    here None same e =
        let first : lesser p None x ≡ Some x = ap (λ (b : Bool). if b then Some x else None) (ap p same ∙ passes) in
        omega (arith, same, least_falls p x ks m (ap (λ (o : Option ℕ). fold (lesser p) o ks) (sym first) ∙ e))
    here (Some c) same e = less (nat_lt x c) refl
      where
        less : (u : Bool) → nat_lt x c ≡ u → m ≤ k
        less true u =
            let first : lesser p (Some c) x ≡ Some x = ap (λ (b : Bool). if b then Some x else Some c) (and_from (p x) (nat_lt x c) (ap p same ∙ passes) u) in
            omega (arith, same, least_falls p x ks m (ap (λ (o : Option ℕ). fold (lesser p) o ks) (sym first) ∙ e))
        less false u =
            let first : lesser p (Some c) x ≡ Some c = ap (λ (b : Bool). if b then Some x else Some c) (and_right (p x) (nat_lt x c) u) in
            omega (arith, same, ltb-false x c u, least_falls p c ks m (ap (λ (o : Option ℕ). fold (lesser p) o ks) (sym first) ∙ e))

    by : (t : Bool) → (x == k) ≡ t → (list_any (λ x. x == k) ks ≡ true → m ≤ k) → (t || list_any (λ x. x == k) ks) ≡ true → m ≤ k
    by true test later member = here best (eqb-true x k test) e
    by false test later member = later member

-- a place behind items that do not pass
pub until_past : {X : Type 0} (p : X → Bool) (before rest : List X) → list_any p before ≡ false → until p (before ++ rest) ≡ before ++ until p rest
until_past p [] rest none = refl
until_past {X = X} p (x ∷ before) rest none =
    let parts = or_parts (p x) (list_any p before) none in
    ap (λ (b : Bool). if b then [] else x ∷ until p (before ++ rest)) parts.0 ∙ ap (λ (l : List X). x ∷ l) (until_past p before rest parts.1)

-- the first answer by a fold
pub fold_first : {X Y : Type 0} (says : X → Option Y) (o : Option Y) (xs : List X) → fold (λ o x. or_else o (says x)) o xs ≡ option_or o (first_some says xs)
fold_first says None [] = refl
fold_first says (Some y) [] = refl
fold_first says None (x ∷ xs) = fold_first says (says x) xs
fold_first says (Some y) (x ∷ xs) = fold_first says (Some y) xs

-- a list that was made item by item, cut at a place
pub record MapSplit {X Y : Type 0} (f : X → Y) (xs : List X) (before : List Y) (y : Y) (after : List Y) : Type 0 where
  pub front : List X
  pub item : X
  pub rest : List X
  pub whole : xs ≡ front ++ item ∷ rest
  pub of_front : before ≡ map f front
  pub of_item : y ≡ f item
  pub of_rest : after ≡ map f rest

pub map_split : {X Y : Type 0} (f : X → Y) (xs : List X) (before : List Y) (y : Y) (after : List Y) → map f xs ≡ before ++ y ∷ after → MapSplit f xs before y after
map_split f [] [] y after e = absurd cc
map_split f [] (z ∷ before) y after e = absurd cc
map_split f (x ∷ xs) [] y after e = record { front = []; item = x; rest = xs; whole = refl; of_front = refl; of_item = cc; of_rest = cc }
map_split {X = X} {Y = Y} f (x ∷ xs) (z ∷ before) y after e =
    let tail : map f xs ≡ before ++ y ∷ after = cc in
    let head : f x ≡ z = cc in
    let s = map_split f xs before y after tail in
    record {
      front = x ∷ s.front;
      item = s.item;
      rest = s.rest;
      whole = cons xs (s.front ++ s.item ∷ s.rest) s.whole;
      of_front = two before (map f s.front) (sym head) s.of_front;
      of_item = s.of_item;
      of_rest = s.of_rest;
    }
  where
    cons : (l m : List X) → l ≡ m → x ∷ l ≡ x ∷ m
    cons l m e = cc

    two : (m n : List Y) → z ≡ f x → m ≡ n → z ∷ m ≡ f x ∷ n
    two m n e g = cc
