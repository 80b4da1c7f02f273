-- What is kept of tokens says who named them.
use Rattle.std.proofs.Common.{◌≡◌, ℕ, List, [], ◌∷◌, ◌++◌, Bool, true, false, refl, sym, ap, ◌∙◌, subst}
use Rattle.std.specs.Prelude.{Option, Some, None, ◌||◌, ◌&&◌, ◌==◌, if◌then◌else◌, option_map, not, unwrap_or}
use Rattle.std.specs.List.{list_any, find, cons_option}
use Rattle.std.specs.Option.{option_or}
use Rattle.std.specs.Str.{bytes_eq}
use Rattle.std.proofs.lemmas.List.{append-nil}
use Rattle.std.proofs.lemmas.List.Folds.{find-append}
use Rattle.std.proofs.lemmas.Bool.{and_parts, and_from, and_right, or_parts, eq-eqb, eqb-true, not_from_true, not_from_false, false_from_ne_true, false≢true}
use Rattle.mip_words.specs.declared.address.Address.{Address}
use Rattle.mip_provenance.specs.Names.{Name, Naming, number_of_naming, same_name, is_own, is_other}
use Rattle.mip_provenance.proofs.ListLaws.{find-found, any_at}
use Rattle.mip_provenance_index.specs.Names.{Kept, renamed, kept_step, is_otherwise, number_kept}
use Rattle.mip_provenance_index.specs.Stands.{has_token, IsKeptSo, IsKept}
use Rattle.mip_provenance_index.proofs.Steps.{any_more}

same_name_self : (a : Name) → same_name a a ≡ true
same_name_self a =
    and_from (a.node == a.node && a.life == a.life && a.kind == a.kind && a.address.0 == a.address.0) (a.index == a.index)
    (and_from (a.node == a.node && a.life == a.life && a.kind == a.kind) (a.address.0 == a.address.0)
    (and_from (a.node == a.node && a.life == a.life) (a.kind == a.kind)
    (and_from (a.node == a.node) (a.life == a.life) (eq-eqb a.node a.node refl) (eq-eqb a.life a.life refl))
    (eq-eqb a.kind a.kind refl))
    (eq-eqb a.address.0 a.address.0 refl))
    (eq-eqb a.index a.index refl)

name_same : (a b : Name) → same_name a b ≡ true → a ≡ b
name_same a b e =
    let four = and_parts (a.node == b.node && a.life == b.life && a.kind == b.kind && a.address.0 == b.address.0) (a.index == b.index) e in
    let three = and_parts (a.node == b.node && a.life == b.life && a.kind == b.kind) (a.address.0 == b.address.0) four.0 in
    let two = and_parts (a.node == b.node && a.life == b.life) (a.kind == b.kind) three.0 in
    let one = and_parts (a.node == b.node) (a.life == b.life) two.0 in
    joined a.node b.node a.life b.life a.kind b.kind a.index b.index a.address b.address
    (eqb-true a.node b.node one.0) (eqb-true a.life b.life one.1) (eqb-true a.kind b.kind two.1)
    (ap (λ (n : ℕ). (let h : Address = record { 0 = n } in h)) (eqb-true a.address.0 b.address.0 three.1)) (eqb-true a.index b.index four.1)
  where
    joined : (n m l k i j u v : ℕ) (x y : Address) → n ≡ m → l ≡ k → i ≡ j → x ≡ y → u ≡ v
        → ◌≡◌ {A = Name} (record { node = n; life = l; kind = i; address = x; index = u }) (record { node = m; life = k; kind = j; address = y; index = v })
    joined n m l k i j u v x y e f g h d = cc

-- none with the token, and so none found and none under another name
none_found : (t : List ℕ) (ms : List Naming) → list_any (has_token t) ms ≡ false → find (has_token t) ms ≡ None
none_found t [] e = refl
none_found t (m ∷ ms) e =
    let parts = or_parts (has_token t m) (list_any (has_token t) ms) e in
    ap (λ (b : Bool). if b then Some m else find (has_token t) ms) parts.0 ∙ none_found t ms parts.1

none_other : (t : List ℕ) (name : Name) (ms : List Naming) → list_any (has_token t) ms ≡ false → list_any (is_other t name) ms ≡ false
none_other t name [] e = refl
none_other t name (m ∷ ms) e =
    let parts = or_parts (has_token t m) (list_any (has_token t) ms) e in
    two (ap (λ (b : Bool). b && not (same_name m.name name)) parts.0) (none_other t name ms parts.1)
  where
    two : {a b : Bool} → a ≡ false → b ≡ false → (a || b) ≡ false
    two {a} {b} e f = cc

none_own : (t : List ℕ) (name : Name) (ms : List Naming) → list_any (has_token t) ms ≡ false → find (is_own t name) ms ≡ None
none_own t name [] e = refl
none_own t name (m ∷ ms) e =
    let parts = or_parts (has_token t m) (list_any (has_token t) ms) e in
    ap (λ (b : Bool). if b && same_name m.name name then Some m else find (is_own t name) ms) parts.0 ∙ none_own t name ms parts.1

either_false : {a b : Bool} → a ≡ false → b ≡ false → (a || b) ≡ false
either_false {a} {b} e f = cc

kept_none : (ns : List Naming) (t : List ℕ) (n : Naming) → IsKept ns t None → (b : Bool) → bytes_eq n.token t ≡ b → IsKept (ns ++ n ∷ []) t (if b then Some (renamed n None) else None)
kept_none ns t n none true test = record {
  naming = n;
  first = find-append (has_token t) ns (n ∷ [])
      ∙ ap (λ (o : Option Naming). option_or o (find (has_token t) (n ∷ []))) (none_found t ns none)
      ∙ ap (λ (b : Bool). if b then Some n else None) test;
  number = refl;
  name = refl;
  otherwise = sym (any_more (is_other t n.name) ns n)
      ∙ either_false (none_other t n.name ns none) (and_right (bytes_eq n.token t) (not (same_name n.name n.name)) (not_from_true (same_name n.name n.name) (same_name_self n.name)));
}
kept_none ns t n none false test = sym (any_more (has_token t) ns n) ∙ either_false none test

kept_some : (ns : List Naming) (t : List ℕ) (n : Naming) (k : Kept) → IsKeptSo ns t k → (b : Bool) → bytes_eq n.token t ≡ b → IsKept (ns ++ n ∷ []) t (if b then Some (renamed n (Some k)) else Some k)
kept_some ns t n k so true test = record {
  naming = so.naming;
  first = find-append (has_token t) ns (n ∷ []) ∙ ap (λ (o : Option Naming). option_or o (find (has_token t) (n ∷ []))) so.first;
  number = so.number;
  name = so.name;
  otherwise = sym (any_more (is_other t k.name) ns n) ∙ two (not (same_name n.name k.name)) so.otherwise test;
}
  where
    two : {a b c : Bool} (d : Bool) → a ≡ b → c ≡ true → (a || (c && d)) ≡ (b || d)
    two {a} {b} {c} d e f = cc
kept_some ns t n k so false test = record {
  naming = so.naming;
  first = find-append (has_token t) ns (n ∷ []) ∙ ap (λ (o : Option Naming). option_or o (find (has_token t) (n ∷ []))) so.first;
  number = so.number;
  name = so.name;
  otherwise = sym (any_more (is_other t k.name) ns n) ∙ two (not (same_name n.name k.name)) so.otherwise test;
}
  where
    last : (b : Bool) → (b || false) ≡ b
    last true = refl
    last false = refl

    two : {a b c : Bool} (d : Bool) → a ≡ b → c ≡ false → (a || (c && d)) ≡ b
    two {a} {b} {c} d e f = ap (λ (x : Bool). a || (x && d)) f ∙ last a ∙ e

-- after one more packet
pub names_more : (ns : List Naming) (t : List ℕ) (m : Option Naming) (o : Option Kept) → IsKept ns t o → IsKept (ns ++ cons_option m []) t (kept_step t m o)
names_more ns t None o is = subst (λ (l : List Naming). IsKept l t o) (sym (append-nil ns)) is
names_more ns t (Some n) None is = kept_none ns t n is (bytes_eq n.token t) refl
names_more ns t (Some n) (Some k) is = kept_some ns t n k is (bytes_eq n.token t) refl

-- what is kept tells of other names
pub kept_otherwise : (ns : List Naming) (t : List ℕ) (name : Name) (o : Option Kept) → IsKept ns t o → is_otherwise name o ≡ list_any (is_other t name) ns
kept_otherwise ns t name None is = sym (none_other t name ns is)
kept_otherwise ns t name (Some k) is = by (same_name k.name name) refl
  where
    by : (b : Bool) → same_name k.name name ≡ b → (if b then k.otherwise else true) ≡ list_any (is_other t name) ns
    by true same = sym is.otherwise ∙ ap (λ (x : Name). list_any (is_other t x) ns) (name_same k.name name same)
    by false same =
        let f = find-found (has_token t) ns is.naming is.first in
        let other : is_other t name is.naming ≡ true =
        and_from (bytes_eq is.naming.token t) (not (same_name is.naming.name name)) f.passes
        (not_from_false (same_name is.naming.name name) (ap (λ (x : Name). same_name x name) is.name ∙ same)) in
        sym (ap (list_any (is_other t name)) f.whole ∙ any_at (is_other t name) f.before is.naming f.after other)

-- and who named it first
pub kept_number : (ns : List Naming) (t : List ℕ) (name : Name) (o : Option Kept) → IsKept ns t o → list_any (is_other t name) ns ≡ false
    → number_kept o ≡ unwrap_or (option_map number_of_naming (find (is_own t name) ns)) 0
kept_number ns t name None is well = sym (ap (λ (o : Option Naming). unwrap_or (option_map number_of_naming o) 0) (none_own t name ns is))
kept_number ns t name (Some k) is well = sym (ap (λ (o : Option Naming). unwrap_or (option_map number_of_naming o) 0) found ∙ is.number)
  where
    no_own : (ms : List Naming) → list_any (has_token t) ms ≡ false → (rest : List Naming) → find (is_own t name) (ms ++ rest) ≡ find (is_own t name) rest
    no_own ms none rest =
        find-append (is_own t name) ms rest ∙ ap (λ (o : Option Naming). option_or o (find (is_own t name) rest)) (none_own t name ms none)

    at : (before after : List Naming) (m : Naming) → ns ≡ before ++ m ∷ after → has_token t m ≡ true → list_any (has_token t) before ≡ false → find (is_own t name) ns ≡ Some m
    at before after m whole token none =
        let other : is_other t name m ≡ false = false_from_ne_true (is_other t name m) (λ e. false≢true (sym well ∙ ap (list_any (is_other t name)) whole ∙ any_at (is_other t name) before m after e)) in
        let named : same_name m.name name ≡ true = same (bytes_eq m.token t) (same_name m.name name) token other in
        ap (find (is_own t name)) whole ∙ no_own before none (m ∷ after)
        ∙ ap (λ (b : Bool). if b then Some m else find (is_own t name) after) (and_from (bytes_eq m.token t) (same_name m.name name) token named)
      where
        same : (a b : Bool) → a ≡ true → (a && not b) ≡ false → b ≡ true
        same a true e f = refl
        same a false e f = absurd (false≢true (sym f ∙ ap (λ (x : Bool). x && true) e))

    found : find (is_own t name) ns ≡ Some is.naming
    found =
        let f = find-found (has_token t) ns is.naming is.first in
        at f.before f.after is.naming f.whole f.passes f.none_before
