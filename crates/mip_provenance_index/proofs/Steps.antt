-- The simple indexes after one more sight.
use Rattle.std.proofs.Common.{◌≡◌, ℕ, List, [], ◌∷◌, ◌++◌, Bool, true, false, refl, sym, ap, ◌∙◌, subst}
use Rattle.std.specs.Prelude.{Option, Some, None, ◌||◌, ◌&&◌, ◌==◌, if◌then◌else◌}
use Rattle.std.specs.List.{list_any, cons_option}
use Rattle.std.specs.Option.{option_or, option_map_or}
use Rattle.std.specs.Str.{bytes_eq}
use Rattle.std.proofs.lemmas.List.{append-nil}
use Rattle.std.proofs.lemmas.List.Folds.{list_any-append}
use Rattle.std.proofs.lemmas.List.Elements.{filter_map-append}
use Rattle.std.proofs.lemmas.List.Sums.{fold-append}
use Rattle.std.proofs.lemmas.Slice.Eq.{bytes_eq-Decides}
use Rattle.std.proofs.lemmas.Bool.{eqb-true}
use Rattle.mip_words.specs.declared.token.Token.{Token}
use Rattle.mip_packets.specs.Says.Carried.{Test}
use Rattle.mip_provenance.specs.Lists.{first_some, along}
use Rattle.mip_provenance.specs.Sights.{Sight, token_in}
use Rattle.mip_provenance.specs.Sights.Sight.{Sent, Injected, Heard}
use Rattle.mip_provenance.specs.Reached.{is_heard, value_heard, values}
use Rattle.mip_provenance.specs.Names.{Naming, is_agent, lives, naming}
use Rattle.mip_provenance.specs.Pairs.{Pair, made_with}
use Rattle.mip_provenance.specs.Causes.{new_to, early, is_early}
use Rattle.mip_provenance.proofs.ListLaws.{along-append}
use Rattle.mip_provenance_index.specs.declared.arrival.Arrival.{Arrival}
use Rattle.mip_provenance.specs.declared.known.Known.{Known}
use Rattle.mip_provenance_index.specs.declared.sight.Sight.{Sight as Seen}
use Rattle.mip_provenance_index.specs.declared.sight.Sight.TheVariants as seen
use Rattle.mip_provenance_index.specs.Sights.{sight_of}
use Rattle.mip_provenance_index.specs.Nodes.{known_step}
use Rattle.mip_provenance_index.specs.Names.{naming_known}
use Rattle.mip_provenance_index.specs.Heard.{arrival_from, heard_by, arrivals_new}
use Rattle.mip_provenance_index.specs.Early.{new_known, early_known}
use Rattle.mip_provenance_index.specs.Stands.{known_of, AreAlike}

pub any_more : {X : Type 0} (p : X → Bool) (xs : List X) (x : X) → (list_any p xs || p x) ≡ list_any p (xs ++ x ∷ [])
any_more p xs x = sym (list_any-append p xs (x ∷ []) ∙ ap (λ (b : Bool). list_any p xs || b) (last (p x)))
  where
    last : (b : Bool) → (b || false) ≡ b
    last true = refl
    last false = refl

pub first_more : {X Y : Type 0} (says : X → Option Y) (xs ys : List X) → first_some says (xs ++ ys) ≡ option_or (first_some says xs) (first_some says ys)
first_more says [] ys = refl
first_more {X = X} {Y = Y} says (x ∷ xs) ys = ap (option_or (says x)) (first_more says xs ys) ∙ by (says x)
  where
    by : (o : Option Y) → option_or o (option_or (first_some says xs) (first_some says ys)) ≡ option_or (option_or o (first_some says xs)) (first_some says ys)
    by None = refl
    by (Some y) = refl

pub first_one : {X Y : Type 0} (says : X → Option Y) (xs : List X) (x : X) → first_some says (xs ++ x ∷ []) ≡ option_or (first_some says xs) (says x)
first_one {Y = Y} says xs x = first_more says xs (x ∷ []) ∙ ap (option_or (first_some says xs)) (by (says x))
  where
    by : (o : Option Y) → option_or o None ≡ o
    by None = refl
    by (Some y) = refl

pub along_one : {X Y : Type 0} (says : List X → X → Option Y) (xs : List X) (x : X) → along says [] (xs ++ x ∷ []) ≡ along says [] xs ++ cons_option (says xs x) []
along_one says xs x = along-append says [] xs (x ∷ [])

pub known_more : (n : ℕ) (ss : List Sight) (s : Sight) → known_step n s (known_of n ss) ≡ known_of n (ss ++ s ∷ [])
known_more n ss s = two (any_more (is_agent n) ss s) (sym (fold-append (lives n) 0 ss (s ∷ [])))
  where
    two : {a b : Bool} {l m : ℕ} → a ≡ b → l ≡ m → ◌≡◌ {A = Known} (record { is_agent = a; life = l }) (record { is_agent = b; life = m })
    two {a} {b} {l} {m} e f = cc

-- how a sight names a token, by what is known
pub naming_same : (known : ℕ → Known) (ss : List Sight) (s : Sight) → ((n : ℕ) → known n ≡ known_of n ss) → naming_known known s ≡ naming ss s
naming_same known ss (Sent number node (Test kind index token destination)) is =
    ap (λ (k : Known). if k.is_agent then None else Some (named k.life)) (is node)
  where
    named : ℕ → Naming
    named life = record { number = number; token = token; name = record { node = node; life = life; kind = kind; address = destination; index = index } }
naming_same known ss _ is = refl

-- what a sight adds to what came to outsiders
pub values_more : (o : ℕ) (ss : List Sight) (s : Sight) → values o (ss ++ s ∷ []) ≡ values o ss ++ cons_option (value_heard o s) []
values_more o ss s = filter_map-append (value_heard o) ss (s ∷ [])

alike_more : (vs ws more : List (List ℕ)) → AreAlike vs ws → AreAlike (vs ++ more) (ws ++ more)
alike_more vs ws more alike says =
    first_more says vs more ∙ ap (λ (o : Option Pair). option_or o (first_some says more)) (alike says) ∙ sym (first_more says ws more)

-- a token that is there already changes no search
again_alike : (vs ws : List (List ℕ)) (t : List ℕ) → AreAlike vs ws → list_any (λ v. bytes_eq v t) ws ≡ true → AreAlike vs (ws ++ t ∷ [])
again_alike vs ws t alike there says = alike says ∙ sym (first_one says ws t ∙ by (first_some says ws) refl)
  where
    none_of : (ws : List (List ℕ)) → list_any (λ v. bytes_eq v t) ws ≡ true → first_some says ws ≡ None → says t ≡ None
    none_of [] there none = absurd cc
    none_of (w ∷ ws) there none = at (says w) refl (bytes_eq w t) refl (none_of ws) there none
      where
        at : (o : Option Pair) → says w ≡ o → (b : Bool) → bytes_eq w t ≡ b → (list_any (λ v. bytes_eq v t) ws ≡ true → first_some says ws ≡ None → says t ≡ None)
            → (b || list_any (λ v. bytes_eq v t) ws) ≡ true → option_or o (first_some says ws) ≡ None → says t ≡ None
        at (Some x) is b test later there none = absurd cc
        at None is true test later there none = sym (ap says ((bytes_eq-Decides w t).0 test)) ∙ is
        at None is false test later there none = later there none

    by : (o : Option Pair) → first_some says ws ≡ o → option_or o (says t) ≡ o
    by None is = none_of ws there is
    by (Some x) is = refl

-- a token that was heard is among the values
value_there : (o : ℕ) (t : List ℕ) (ss : List Sight) → list_any (is_heard o t) ss ≡ true → list_any (λ v. bytes_eq v t) (values o ss) ≡ true
value_there o t [] e = absurd cc
value_there o t (Heard x None ∷ ss) e = by (x == o) (value_there o t ss) e
  where
    by : (b : Bool) → (list_any (is_heard o t) ss ≡ true → list_any (λ v. bytes_eq v t) (values o ss) ≡ true) → ((b && false) || list_any (is_heard o t) ss) ≡ true
        → list_any (λ v. bytes_eq v t) (cons_option (if b then None else None) (values o ss)) ≡ true
    by true later e = later e
    by false later e = later e
value_there o t (Heard x (Some u) ∷ ss) e = by (x == o) (bytes_eq u t) refl (value_there o t ss) e
  where
    by : (b c : Bool) → bytes_eq u t ≡ c → (list_any (is_heard o t) ss ≡ true → list_any (λ v. bytes_eq v t) (values o ss) ≡ true) → ((b && c) || list_any (is_heard o t) ss) ≡ true
        → list_any (λ v. bytes_eq v t) (cons_option (if b then Some u else None) (values o ss)) ≡ true
    by true true is later e = ap (λ (x : Bool). x || list_any (λ v. bytes_eq v t) (values o ss)) is
    by true false is later e = ap (λ (x : Bool). x || list_any (λ v. bytes_eq v t) (values o ss)) is ∙ later e
    by false c is later e = later e
value_there o t (_ ∷ ss) e = value_there o t ss e

quiet_alike : (arrivals : List Arrival) (ss : List Sight) (s : Sight) (o : ℕ) → AreAlike (heard_by o arrivals) (values o ss) → value_heard o s ≡ None
    → AreAlike (heard_by o (arrivals ++ [])) (values o (ss ++ s ∷ []))
quiet_alike arrivals ss s o alike none says =
    ap (λ (l : List Arrival). first_some says (heard_by o l)) (append-nil arrivals)
    ∙ alike says
    ∙ ap (first_some says) (sym (values_more o ss s ∙ ap (λ (m : Option (List ℕ)). values o ss ++ cons_option m []) none ∙ append-nil (values o ss)))

heard_one : (come : ℕ → List ℕ → Bool) (arrivals : List Arrival) (ss : List Sight) (x : ℕ) (t : Token) (o : ℕ)
    → ((o : ℕ) (t : List ℕ) → come o t ≡ list_any (is_heard o t) ss) → AreAlike (heard_by o arrivals) (values o ss) → (b : Bool) → come x t.0 ≡ b → (c : Bool) → (x == o) ≡ c
    → AreAlike (heard_by o (arrivals ++ (if b then [] else record { outsider = x; token = t } ∷ []))) (values o ss ++ cons_option (if c then Some t.0 else None) [])
heard_one come arrivals ss x t o known alike true had true same says =
    ap (λ (l : List Arrival). first_some says (heard_by o l)) (append-nil arrivals)
    ∙ again_alike (heard_by o arrivals) (values o ss) t.0 alike
    (value_there o t.0 ss (ap (λ (n : ℕ). list_any (is_heard n t.0) ss) (sym (eqb-true x o same)) ∙ sym (known x t.0) ∙ had)) says
heard_one come arrivals ss x t o known alike true had false same says =
    ap (λ (l : List Arrival). first_some says (heard_by o l)) (append-nil arrivals) ∙ alike says ∙ ap (first_some says) (sym (append-nil (values o ss)))
heard_one come arrivals ss x t o known alike false had c same says =
    ap (first_some says) (filter_map-append (arrival_from o) arrivals (record { outsider = x; token = t } ∷ [])
    ∙ ap (λ (d : Bool). heard_by o arrivals ++ cons_option (if d then Some t.0 else None) []) same)
    ∙ alike_more (heard_by o arrivals) (values o ss) (cons_option (if c then Some t.0 else None) []) alike says

pub heard_values : (come : ℕ → List ℕ → Bool) (arrivals : List Arrival) (ss : List Sight) (found : Seen) (o : ℕ)
    → ((o : ℕ) (t : List ℕ) → come o t ≡ list_any (is_heard o t) ss) → AreAlike (heard_by o arrivals) (values o ss)
    → AreAlike (heard_by o (arrivals ++ arrivals_new come found)) (values o (ss ++ sight_of found ∷ []))
heard_values come arrivals ss (seen.Heard x (Some t)) o known alike =
    let s : Sight = Heard x (Some t.0) in
    subst (λ (l : List (List ℕ)). AreAlike (heard_by o (arrivals ++ (if come x t.0 then [] else record { outsider = x; token = t } ∷ []))) l) (sym (values_more o ss s))
    (heard_one come arrivals ss x t o known alike (come x t.0) refl (x == o) refl)
heard_values come arrivals ss (seen.Heard x None) o known alike = quiet_alike arrivals ss (Heard x None) o alike (by (x == o))
  where
    by : (b : Bool) → ◌≡◌ {A = Option (List ℕ)} (if b then None else None) None
    by true = refl
    by false = refl
heard_values come arrivals ss found o known alike = quiet_alike arrivals ss (sight_of found) o alike refl

-- what is early, by what has come
pub early_same : (come : ℕ → List ℕ → Bool) (ss : List Sight) (s : Sight) → ((o : ℕ) (t : List ℕ) → come o t ≡ list_any (is_heard o t) ss) → early_known come s ≡ early ss s
early_same come ss (Injected number outsider c) known = by (token_in c)
  where
    by : (t : Option (List ℕ)) → new_known come outsider t ≡ new_to ss outsider t
    by None = refl
    by (Some t) = ap (λ (b : Bool). if b then None else Some t) (known outsider t)
early_same come ss _ known = refl

pub early_more : (ss : List Sight) (s : Sight) (t : List ℕ) → (is_early ss t || option_map_or (bytes_eq t) (early ss s) false) ≡ is_early (ss ++ s ∷ []) t
early_more ss s t =
    by (early ss s) ∙ sym (list_any-append (bytes_eq t) (along early [] ss) (cons_option (early ss s) [])) ∙ ap (list_any (bytes_eq t)) (sym (along_one early ss s))
  where
    by : (o : Option (List ℕ)) → (is_early ss t || option_map_or (bytes_eq t) o false) ≡ (is_early ss t || list_any (bytes_eq t) (cons_option o []))
    by None = refl
    by (Some u) = ap (λ (b : Bool). is_early ss t || b) (last (bytes_eq t u))
      where
        last : (b : Bool) → b ≡ (b || false)
        last true = refl
        last false = refl

pub made_more : (ss : List Sight) (s : Sight) (n k : ℕ) → option_or (first_some (made_with n k) ss) (made_with n k s) ≡ first_some (made_with n k) (ss ++ s ∷ [])
made_more ss s n k = sym (first_one (made_with n k) ss s)
