-- Each name that a declaration gives is found at the number of what it names.
use Rattle.std.proofs.Common.{◌≡◌, ℕ, zero, suc, ◌+◌, ◌<◌, List, [], ◌∷◌, ◌++◌, length, Bool, true, false, not, cond, eqb, nat_lt, refl, sym, ap, ◌∙◌, subst, add-zero, arith}
use Rattle.std.specs.Prelude.{Option, Some, None, slice_get, ◌&&◌}
use Rattle.std.specs.List.{filter, position, position_or_len, list_any}
use Rattle.std.proofs.lemmas.Bool.{cond_both, cond-true, cond-false, and_from, or_parts, or_from, not_from_false, ltb-true, ltb-false, lt-ltb, le-ltb, eq-eqb, ne_eqb}
use Rattle.std.proofs.lemmas.List.{append-nil}
use Rattle.std.proofs.lemmas.List.Elements.{filter-append}
use Rattle.std.proofs.lemmas.List.Folds.{position_or_len_push, list_any-append}
use Rattle.std.proofs.lemmas.Slice.Eq.{bytes_eq-Decides}
use Rattle.mip_symbols.specs.Names.{is_name, name_bytes}
use Rattle.mip_symbols.specs.Places.{members, counts, fits, is_named, is_taken, place_of, declared_name, name_text, name_at, NamesFound}
use Rattle.mip_symbols.specs.declared.declaration.Declaration.{Declaration}
use Rattle.mip_symbols.specs.declared.declaration.Declaration.TheVariants as declare
use Rattle.mip_symbols.specs.declared.places.Sort.{Sort}
use Rattle.mip_symbols.specs.declared.places.Sort.TheVariants.{Link, Outsider, Node, Agent, Mobile, Host}

-- the name that a declaration gives is one, and nothing among these has it
pub record IsFresh (ds : List Declaration) (d : Declaration) : Type 0 where
  pub free : is_taken ds (declared_name d) ≡ false
  pub named : is_name (declared_name d) ≡ true

-- a declaration that gives a name gives a fresh one
abbrev pub MayStand : List Declaration → Declaration → Type 0
MayStand ds d = (sort : Sort) → counts sort d ≡ true → IsFresh ds d

own_name : (sort : Sort) (d : Declaration) → counts sort d ≡ true → is_named (declared_name d) d ≡ true
own_name sort (declare.Link n p) c = (bytes_eq-Decides (name_bytes n) (name_bytes n)).1 refl
own_name sort (declare.Agent n l a p t r) c = (bytes_eq-Decides (name_bytes n) (name_bytes n)).1 refl
own_name sort (declare.Correspondent n l a r) c = (bytes_eq-Decides (name_bytes n) (name_bytes n)).1 refl
own_name sort (declare.Mobile n l a g) c = (bytes_eq-Decides (name_bytes n) (name_bytes n)).1 refl
own_name sort (declare.Outsider n) c = (bytes_eq-Decides (name_bytes n) (name_bytes n)).1 refl
own_name Link (declare.Serve g m) c = absurd cc
own_name Outsider (declare.Serve g m) c = absurd cc
own_name Node (declare.Serve g m) c = absurd cc
own_name Agent (declare.Serve g m) c = absurd cc
own_name Mobile (declare.Serve g m) c = absurd cc
own_name Host (declare.Serve g m) c = absurd cc

-- one declaration more, numbered with the sort or not
members_more : (sort : Sort) (ds : List Declaration) (d : Declaration) → counts sort d ≡ true → members sort (ds ++ d ∷ []) ≡ members sort ds ++ d ∷ []
unfolding members
members_more sort ds d c = filter-append (counts sort) ds (d ∷ []) ∙ ap (λ (b : Bool). filter (counts sort) ds ++ cond b (d ∷ []) []) c

members_same : (sort : Sort) (ds : List Declaration) (d : Declaration) → counts sort d ≡ false → members sort (ds ++ d ∷ []) ≡ members sort ds
unfolding members
members_same sort ds d c = filter-append (counts sort) ds (d ∷ []) ∙ ap (λ (b : Bool). filter (counts sort) ds ++ cond b (d ∷ []) []) c ∙ append-nil (filter (counts sort) ds)

get_before : {X : Type 0} (xs : List X) (x : X) (n : ℕ) → n < length xs → slice_get (xs ++ x ∷ []) n ≡ slice_get xs n
get_before [] x n inside = absurd (omega arith)
get_before (y ∷ xs) x zero inside = refl
get_before (y ∷ xs) x (suc n) inside = get_before xs x n (omega arith)

get_last : {X : Type 0} (xs : List X) (x : X) → slice_get (xs ++ x ∷ []) (length xs) ≡ Some x
get_last [] x = refl
get_last (y ∷ xs) x = get_last xs x

-- what holds at each place, and at the one behind them, holds at each place of the longer list
each_more : {X : Type 0} (Q : ℕ → Option X → Type 0) (xs : List X) (x : X)
    → ((n : ℕ) → n < length xs → Q n (slice_get xs n)) → Q (length xs) (Some x) → (n : ℕ) → n < length xs + 1 → Q n (slice_get (xs ++ x ∷ []) n)
each_more Q xs x old new n inside = by (nat_lt n (length xs)) refl
  where
    by : (b : Bool) → nat_lt n (length xs) ≡ b → Q n (slice_get (xs ++ x ∷ []) n)
    by true e = let low = ltb-true n (length xs) e in subst (Q n) (sym (get_before xs x n low)) (old n low)
    by false e =
        let high = ltb-false n (length xs) e in
        let last : length xs ≡ n = omega arith in
        subst (λ (k : ℕ). Q k (slice_get (xs ++ x ∷ []) k)) last (subst (Q (length xs)) (sym (get_last xs x)) new)

place_is : {X : Type 0} (p : X → Bool) (xs : List X) (n : ℕ) → position p xs ≡ Some n → (n < length xs) × (position_or_len p xs ≡ n)
place_is p xs n =
    cond_both (nat_lt (position_or_len p xs) (length xs)) _ _ (λ (o : Option ℕ). o ≡ Some n → (n < length xs) × (position_or_len p xs ≡ n))
    (λ near e.
    let same : position_or_len p xs ≡ n = cc in
    (subst (λ (k : ℕ). k < length xs) same (ltb-true (position_or_len p xs) (length xs) near), same))
    (λ _ e. absurd cc)

place_from : {X : Type 0} (p : X → Bool) (xs : List X) (n : ℕ) → n < length xs → position_or_len p xs ≡ n → position p xs ≡ Some n
place_from p xs n inside e =
    subst (λ (k : ℕ). cond (nat_lt k (length xs)) (Some k) None ≡ Some n) (sym e) (cond-true (nat_lt n (length xs)) (Some n) None (lt-ltb n (length xs) inside))

length_more : {X : Type 0} (xs : List X) (x : X) → length (xs ++ x ∷ []) ≡ length xs + 1
length_more [] x = refl
length_more (y ∷ xs) x = let e = length_more xs x in omega arith

-- a place that was found stays
place_stays : {X : Type 0} (p : X → Bool) (xs : List X) (x : X) (n : ℕ) → position p xs ≡ Some n → position p (xs ++ x ∷ []) ≡ Some n
place_stays p xs x n e =
    let at = place_is p xs n e in
    place_from p (xs ++ x ∷ []) n (omega (arith, length_more xs x, at.0))
    (position_or_len_push p xs x ∙ cond-false (eqb (position_or_len p xs) (length xs)) _ _ (ne_eqb (position_or_len p xs) (length xs) (λ far. omega (arith, at.0, at.1))) ∙ at.1)

-- nothing passes, so nothing is found
none_passes : {X : Type 0} (p q : X → Bool) (xs : List X) → list_any q xs ≡ false → position_or_len (λ x. p x && q x) xs ≡ length xs
none_passes p q [] none = refl
none_passes p q (x ∷ xs) none =
    let parts = or_parts (q x) (list_any q xs) none in
    let fails : (p x && q x) ≡ false = ap (λ (b : Bool). p x && b) parts.0 ∙ and_no (p x) in
    let e : position_or_len (λ y. p y && q y) (x ∷ xs) ≡ 1 + position_or_len (λ y. p y && q y) xs = cond-true (not (p x && q x)) _ _ (not_from_false (p x && q x) fails) in
    let more = none_passes p q xs parts.1 in
    omega arith
  where
    and_no : (b : Bool) → (b && false) ≡ false
    and_no true = refl
    and_no false = refl

none_found : {X : Type 0} (p q : X → Bool) (xs : List X) → list_any q xs ≡ false → position (λ x. p x && q x) xs ≡ None
none_found p q xs none =
    let e = none_passes p q xs none in
    cond-false (nat_lt (position_or_len (λ x. p x && q x) xs) (length xs)) _ _ (le-ltb (position_or_len (λ x. p x && q x) xs) (length xs) (omega arith))

-- what alone passes is found last
last_found : {X : Type 0} (p q : X → Bool) (xs : List X) (x : X) → list_any q xs ≡ false → p x ≡ true → q x ≡ true → position (λ y. p y && q y) (xs ++ x ∷ []) ≡ Some (length xs)
last_found p q xs x none px qx =
    let e = none_passes p q xs none in
    let zero_more : cond {A = ℕ} (p x && q x) 0 1 ≡ 0 = ap (λ (b : Bool). cond {A = ℕ} b 0 1) (and_from (p x) (q x) px qx) in
    place_from (λ y. p y && q y) (xs ++ x ∷ []) (length xs) (omega (arith, length_more xs x))
    (position_or_len_push (λ y. p y && q y) xs x ∙ cond-true (eqb (position_or_len (λ y. p y && q y) xs) (length xs)) _ _ (eq-eqb (position_or_len (λ y. p y && q y) xs) (length xs) e) ∙ ap (λ (k : ℕ). length xs + k) zero_more ∙ add-zero (length xs))

free_members : (q : Declaration → Bool) (sort : Sort) (ds : List Declaration) → list_any q ds ≡ false → list_any q (members sort ds) ≡ false
unfolding members
free_members q sort [] none = refl
free_members q sort (d ∷ ds) none =
    let parts = or_parts (q d) (list_any q ds) none in
    let more = free_members q sort ds parts.1 in
    cond_both (counts sort d) (d ∷ filter (counts sort) ds) (filter (counts sort) ds) (λ (xs : List Declaration). list_any q xs ≡ false) (λ _. or_from _ _ parts.0 more) (λ _. more)

-- the name at each place is found there
abbrev Found : Sort → List Declaration → Type 0
Found sort xs = (n : ℕ) → n < length xs → position (λ d. fits sort d && is_named (name_text (slice_get xs n)) d) xs ≡ Some n

found_more : (sort : Sort) (xs : List Declaration) (d : Declaration) → fits sort d ≡ true → is_named (declared_name d) d ≡ true → list_any (is_named (declared_name d)) xs ≡ false
    → Found sort xs → Found sort (xs ++ d ∷ [])
found_more sort xs d fit own free found n inside =
    each_more (λ (k : ℕ) (o : Option Declaration). position (λ x. fits sort x && is_named (name_text o) x) (xs ++ d ∷ []) ≡ Some k) xs d
    (λ k low. place_stays (λ x. fits sort x && is_named (name_text (slice_get xs k)) x) xs d k (found k low))
    (last_found (fits sort) (is_named (declared_name d)) xs d free fit own)
    n (omega (arith, length_more xs d, inside))

found_step : (sort : Sort) → ((d : Declaration) → counts sort d ≡ true → fits sort d ≡ true) → (ds : List Declaration) (d : Declaration) → MayStand ds d
    → Found sort (members sort ds) → Found sort (members sort (ds ++ d ∷ []))
found_step sort fit ds d may found = by (counts sort d) refl
  where
    by : (b : Bool) → counts sort d ≡ b → Found sort (members sort (ds ++ d ∷ []))
    by true c =
        subst (Found sort) (sym (members_more sort ds d c))
        (found_more sort (members sort ds) d (fit d c) (own_name sort d c) (free_members (is_named (declared_name d)) sort ds (may sort c).free) found)
    by false c = subst (Found sort) (sym (members_same sort ds d c)) found

-- each place has a name
abbrev Named : List Declaration → Type 0
Named xs = (n : ℕ) → n < length xs → is_name (name_text (slice_get xs n)) ≡ true

named_step : (sort : Sort) (ds : List Declaration) (d : Declaration) → MayStand ds d → Named (members sort ds) → Named (members sort (ds ++ d ∷ []))
named_step sort ds d may named = by (counts sort d) refl
  where
    by : (b : Bool) → counts sort d ≡ b → Named (members sort (ds ++ d ∷ []))
    by true c =
        subst Named (sym (members_more sort ds d c))
        (λ n inside. each_more (λ (k : ℕ) (o : Option Declaration). is_name (name_text o) ≡ true) (members sort ds) d named (may sort c).named n (omega (arith, length_more (members sort ds) d, inside)))
    by false c = subst Named (sym (members_same sort ds d c)) named

-- no name of the first list is one of the second
abbrev Apart : List Declaration → List Declaration → Type 0
Apart os ns = (n : ℕ) → n < length os → list_any (is_named (name_text (slice_get os n))) ns ≡ false

same_name : (f : List ℕ) (sort : Sort) (d : Declaration) → counts sort d ≡ true → is_named f d ≡ true → f ≡ declared_name d
same_name f sort (declare.Link n p) c test = sym ((bytes_eq-Decides (name_bytes n) f).0 test)
same_name f sort (declare.Agent n l a p t r) c test = sym ((bytes_eq-Decides (name_bytes n) f).0 test)
same_name f sort (declare.Correspondent n l a r) c test = sym ((bytes_eq-Decides (name_bytes n) f).0 test)
same_name f sort (declare.Mobile n l a g) c test = sym ((bytes_eq-Decides (name_bytes n) f).0 test)
same_name f sort (declare.Outsider n) c test = sym ((bytes_eq-Decides (name_bytes n) f).0 test)
same_name f sort (declare.Serve g m) c test = absurd cc

-- a fresh name is at no place
not_here : (sort : Sort) (os : List Declaration) (d : Declaration) (n : ℕ) → Found sort os → n < length os → list_any (is_named (declared_name d)) os ≡ false
    → (k : Sort) → counts k d ≡ true → is_named (name_text (slice_get os n)) d ≡ false
not_here sort os d n found inside free k c = by (is_named (name_text (slice_get os n)) d) refl
  where
    by : (b : Bool) → is_named (name_text (slice_get os n)) d ≡ b → b ≡ false
    by false e = refl
    by true e =
        let f : List ℕ = name_text (slice_get os n) in
        let none : list_any (is_named f) os ≡ false = subst (λ (g : List ℕ). list_any (is_named g) os ≡ false) (sym (same_name f k d c e)) free in
        let at = place_is (λ x. fits sort x && is_named f x) os n (found n inside) in
        let past = none_passes (fits sort) (is_named f) os none in
        absurd (omega (arith, at.0, at.1, past))

apart_step : (ds : List Declaration) (d : Declaration) → MayStand ds d → Found Outsider (members Outsider ds) → Apart (members Outsider ds) (members Node ds)
    → Apart (members Outsider (ds ++ d ∷ [])) (members Node (ds ++ d ∷ []))
apart_step ds d may found apart = by (counts Outsider d) refl (counts Node d) refl
  where
    os : List Declaration
    os = members Outsider ds

    ns : List Declaration
    ns = members Node ds

    both : (d : Declaration) → counts Outsider d ≡ true → counts Node d ≡ true → ⊥
    both (declare.Link n p) a b = absurd cc
    both (declare.Agent n l x p t r) a b = absurd cc
    both (declare.Correspondent n l x r) a b = absurd cc
    both (declare.Mobile n l x g) a b = absurd cc
    both (declare.Serve g m) a b = absurd cc
    both (declare.Outsider n) a b = absurd cc

    more_outsiders : IsFresh ds d → Apart (os ++ d ∷ []) ns
    more_outsiders fresh n inside =
        each_more (λ (k : ℕ) (o : Option Declaration). list_any (is_named (name_text o)) ns ≡ false) os d apart (free_members (is_named (declared_name d)) Node ds fresh.free) n (omega (arith, length_more os d, inside))

    more_nodes : counts Node d ≡ true → IsFresh ds d → Apart os (ns ++ d ∷ [])
    more_nodes c fresh n inside =
        list_any-append (is_named (name_text (slice_get os n))) ns (d ∷ [])
        ∙ or_from _ _ (apart n inside) (or_from _ _ (not_here Outsider os d n found inside (free_members (is_named (declared_name d)) Outsider ds fresh.free) Node c) refl)

    by : (o : Bool) → counts Outsider d ≡ o → (b : Bool) → counts Node d ≡ b → Apart (members Outsider (ds ++ d ∷ [])) (members Node (ds ++ d ∷ []))
    by true co true cn = absurd (both d co cn)
    by true co false cn =
        subst (Apart (members Outsider (ds ++ d ∷ []))) (sym (members_same Node ds d cn))
        (subst (λ (xs : List Declaration). Apart xs ns) (sym (members_more Outsider ds d co)) (more_outsiders (may Outsider co)))
    by false co true cn =
        subst (Apart (members Outsider (ds ++ d ∷ []))) (sym (members_more Node ds d cn))
        (subst (λ (xs : List Declaration). Apart xs (ns ++ d ∷ [])) (sym (members_same Outsider ds d co)) (more_nodes cn (may Node cn)))
    by false co false cn =
        subst (Apart (members Outsider (ds ++ d ∷ []))) (sym (members_same Node ds d cn))
        (subst (λ (xs : List Declaration). Apart xs ns) (sym (members_same Outsider ds d co)) apart)

-- what is kept from declaration to declaration
pub record AreNamed (ds : List Declaration) : Type 0 where
  links : Found Link (members Link ds)
  nodes : Found Node (members Node ds)
  outsiders : Found Outsider (members Outsider ds)
  apart : Apart (members Outsider ds) (members Node ds)
  names : (sort : Sort) → Named (members sort ds)

pub named_more : (ds : List Declaration) (d : Declaration) → MayStand ds d → AreNamed ds → AreNamed (ds ++ d ∷ [])
named_more ds d may are = record {
  links = found_step Link (λ x c. c) ds d may are.links;
  nodes = found_step Node (λ x c. c) ds d may are.nodes;
  outsiders = found_step Outsider (λ x c. c) ds d may are.outsiders;
  apart = apart_step ds d may are.outsiders are.apart;
  names = λ sort. named_step sort ds d may (are.names sort);
}

pub none_named : AreNamed []
unfolding members
none_named = record {
  links = λ n inside. absurd (omega arith);
  nodes = λ n inside. absurd (omega arith);
  outsiders = λ n inside. absurd (omega arith);
  apart = λ n inside. absurd (omega arith);
  names = λ sort n inside. absurd (omega arith);
}

pub names_are_found : (ds : List Declaration) → AreNamed ds → NamesFound ds
unfolding place_of name_at
names_are_found ds are = record {
  links = are.links;
  nodes = are.nodes;
  outsiders = are.outsiders;
  apart = λ n inside. none_found (fits Node) (is_named (name_text (slice_get (members Outsider ds) n))) (members Node ds) (are.apart n inside);
  names = are.names;
}
