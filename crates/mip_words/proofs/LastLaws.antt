-- What is known of the last item of a kind, and of what came since.
use Rattle.std.proofs.Common.{◌≡◌, List, [], ◌∷◌, ◌++◌, Bool, true, false, refl, sym, ap, ◌∙◌, subst}
use Rattle.std.specs.Prelude.{Option, Some, None, if◌then◌else◌, ◌||◌}
use Rattle.std.specs.List.{list_any, AllByRecursion}
use Rattle.std.proofs.lemmas.List.{append_assoc, append-nil}
use Rattle.std.proofs.lemmas.List.Folds.{list_any-append}
use Rattle.std.proofs.lemmas.Bool.{or_parts}
use Rattle.mip_words.specs.Last.{or_else, last_where}
use Rattle.mip_words.specs.LastLaws.{since, StandsLast, StandsFirst}

-- one more item
pub last_where-push : {X : Type 0} (p : X → Bool) (xs : List X) (x : X) → last_where p (xs ++ x ∷ []) ≡ (if p x then Some x else last_where p xs)
last_where-push {X = X} p [] x = refl
last_where-push {X = X} p (y ∷ ys) x =
    ap (λ o. or_else o (if p y then Some y else None)) (last_where-push p ys x) ∙ by (p x)
  where
    by : (b : Bool) → or_else (if b then Some x else last_where p ys) (if p y then Some y else None) ≡ (if b then Some x else or_else (last_where p ys) (if p y then Some y else None))
    by true = refl
    by false = refl

-- no item of the kind
pub none-last_where : {X : Type 0} (p : X → Bool) (xs : List X) → last_where p xs ≡ None → list_any p xs ≡ false
none-last_where {X = X} p [] e = refl
none-last_where {X = X} p (x ∷ xs) e = by (last_where p xs) (p x) (none-last_where p xs) e
  where
    by : (o : Option X) (b : Bool) → (o ≡ None → list_any p xs ≡ false) → or_else o (if b then Some x else None) ≡ None → (b || list_any p xs) ≡ false
    by (Some y) b rest e = absurd cc
    by None true rest e = absurd cc
    by None false rest e = rest refl

-- where the last item of the kind stands
pub last_where-found : {X : Type 0} (p : X → Bool) (xs : List X) (x : X) → last_where p xs ≡ Some x → StandsLast p xs x
last_where-found {X = X} p [] x e = absurd cc
last_where-found {X = X} p (y ∷ ys) x e = by (last_where p ys) refl (p y) refl (last_where-found p ys x) e
  where
    by : (o : Option X) → last_where p ys ≡ o → (b : Bool) → p y ≡ b → (last_where p ys ≡ Some x → StandsLast p ys x) → or_else o (if b then Some y else None) ≡ Some x → StandsLast p (y ∷ ys) x
    by (Some z) is b test more e =
        let s = more (is ∙ e) in
        record { before = y ∷ s.before; after = s.after; whole = ap (λ l. y ∷ l) s.whole; passes = s.passes; none_after = s.none_after }
    by None is true test more e =
        let same : y ≡ x = cc in
        record { before = []; after = ys; whole = ap (λ z. z ∷ ys) same; passes = ap p (sym same) ∙ test; none_after = none-last_where p ys is }
    by None is false test more e = absurd cc

-- none of the kind, and so no last one
pub last_where-none : {X : Type 0} (p : X → Bool) (xs : List X) → list_any p xs ≡ false → last_where p xs ≡ None
last_where-none p [] quiet = refl
last_where-none {X = X} p (x ∷ xs) quiet =
    let parts = or_parts (p x) (list_any p xs) quiet in
    ap (λ o. or_else o (if p x then Some x else None)) (last_where-none p xs parts.1) ∙ ap (λ (b : Bool). or_else None (if b then Some x else None)) parts.0

-- items that are none of the kind change nothing
pub last_where-quiet : {X : Type 0} (p : X → Bool) (xs ys : List X) → list_any p ys ≡ false → last_where p (xs ++ ys) ≡ last_where p xs
last_where-quiet p [] ys quiet = last_where-none p ys quiet
last_where-quiet p (x ∷ xs) ys quiet = ap (λ o. or_else o (if p x then Some x else None)) (last_where-quiet p xs ys quiet)

-- one more item
pub since-push : {X : Type 0} (p : X → Bool) (xs : List X) (x : X) → since p (xs ++ x ∷ []) ≡ (if p x then [] else since p xs ++ x ∷ [])
since-push {X = X} p [] x = refl
since-push {X = X} p (y ∷ ys) x = by (p x) (since-push p ys x) (list_any p ys) (p y) (list_any-append p ys (x ∷ []))
  where
    by : (b : Bool) → since p (ys ++ x ∷ []) ≡ (if b then [] else since p ys ++ x ∷ []) → (any : Bool) (first : Bool) → list_any p (ys ++ x ∷ []) ≡ (any || (b || false))
        → (if list_any p (ys ++ x ∷ []) then since p (ys ++ x ∷ []) else (if first then ys ++ x ∷ [] else y ∷ (ys ++ x ∷ []))) ≡ (if b then [] else (if any then since p ys else (if first then ys else y ∷ ys)) ++ x ∷ [])
    by true rest true first any = ap (λ (t : Bool). if t then since p (ys ++ x ∷ []) else (if first then ys ++ x ∷ [] else y ∷ (ys ++ x ∷ []))) any ∙ rest
    by true rest false first any = ap (λ (t : Bool). if t then since p (ys ++ x ∷ []) else (if first then ys ++ x ∷ [] else y ∷ (ys ++ x ∷ []))) any ∙ rest
    by false rest true first any = ap (λ (t : Bool). if t then since p (ys ++ x ∷ []) else (if first then ys ++ x ∷ [] else y ∷ (ys ++ x ∷ []))) any ∙ rest
    by false rest false true any = ap (λ (t : Bool). if t then since p (ys ++ x ∷ []) else ys ++ x ∷ []) any
    by false rest false false any = ap (λ (t : Bool). if t then since p (ys ++ x ∷ []) else y ∷ (ys ++ x ∷ [])) any

-- items that are none of the kind only come behind
pub since-quiet : {X : Type 0} (p : X → Bool) (xs ys : List X) → list_any p ys ≡ false → since p (xs ++ ys) ≡ since p xs ++ ys
since-quiet p xs [] quiet = ap (since p) (append-nil xs) ∙ sym (append-nil (since p xs))
since-quiet {X = X} p xs (y ∷ ys) quiet =
    let parts = or_parts (p y) (list_any p ys) quiet in
    ap (since p) (sym (append_assoc xs (y ∷ []) ys))
    ∙ since-quiet p (xs ++ y ∷ []) ys parts.1
    ∙ ap (λ (l : List X). l ++ ys) (since-push p xs y ∙ ap (λ (b : Bool). if b then [] else since p xs ++ y ∷ []) parts.0)
    ∙ append_assoc (since p xs) (y ∷ []) ys

-- what holds of each item holds of the last one of a kind
pub all-last : {X : Type 0} (p : X → Bool) (P : X → Type 0) (xs : List X) (x : X) → AllByRecursion P xs → last_where p xs ≡ Some x → P x
all-last p P [] x all e = absurd cc
all-last {X = X} p P (y ∷ ys) x all e = by (last_where p ys) refl (p y) (all-last p P ys x all.1) e
  where
    by : (o : Option X) → last_where p ys ≡ o → (b : Bool) → (last_where p ys ≡ Some x → P x) → or_else o (if b then Some y else None) ≡ Some x → P x
    by (Some z) is b more e = more (is ∙ e)
    by None is true more e = let same : y ≡ x = cc in subst P same all.0
    by None is false more e = absurd cc

-- where the first item of a kind stands
pub first_of_any : {X : Type 0} (p : X → Bool) (xs : List X) → list_any p xs ≡ true → StandsFirst p xs
first_of_any p [] e = absurd cc
first_of_any {X = X} p (y ∷ ys) e = by (p y) refl (first_of_any p ys) e
  where
    by : (b : Bool) → p y ≡ b → (list_any p ys ≡ true → StandsFirst p ys) → (b || list_any p ys) ≡ true → StandsFirst p (y ∷ ys)
    by true test more e = record { here = y; before = []; after = ys; whole = refl; passes = test; none_before = refl }
    by false test more e =
        let s = more e in
        record { here = s.here; before = y ∷ s.before; after = s.after; whole = ap (λ l. y ∷ l) s.whole; passes = s.passes; none_before = ap (λ (b : Bool). b || list_any p s.before) test ∙ s.none_before }
