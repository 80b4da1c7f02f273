-- What is known of a fact of each item about the items before it.
use Rattle.std.proofs.Common.{List, [], ◌∷◌, ◌++◌, sym, subst}
use Rattle.std.specs.Prelude.{fold}
use Rattle.std.proofs.lemmas.List.{append_assoc, append-nil}
use Rattle.mip_words.specs.EachAfter.{EachAfter}

-- two lists, one behind the other
pub each-append : {X : Type 0} (P : List X → X → Type 0) (front xs ys : List X) → EachAfter P front xs → EachAfter P (front ++ xs) ys → EachAfter P front (xs ++ ys)
each-append {X = X} P front [] ys a b = subst (λ (f : List X). EachAfter P f ys) (append-nil front) b
each-append {X = X} P front (x ∷ xs) ys a b =
    (a.0, each-append P (front ++ x ∷ []) xs ys a.1 (subst (λ (f : List X). EachAfter P f ys) (sym (append_assoc front (x ∷ []) xs)) b))

-- the fact at one item
pub each_at : {X : Type 0} (P : List X → X → Type 0) (front before : List X) (x : X) (after : List X) → EachAfter P front (before ++ x ∷ after) → P (front ++ before) x
each_at {X = X} P front [] x after each = subst (λ (f : List X). P f x) (sym (append-nil front)) each.0
each_at {X = X} P front (y ∷ before) x after each =
    subst (λ (f : List X). P f x) (append_assoc front (y ∷ []) before) (each_at P (front ++ y ∷ []) before x after each.1)

-- a fact that each step of a run keeps holds of the run
pub each-fold : {X E : Type 0} (P : List X → X → Type 0) (step : List X → E → List X) → ((h : List X) (e : E) → EachAfter P [] h → EachAfter P [] (step h e))
    → (h : List X) (events : List E) → EachAfter P [] h → EachAfter P [] (fold step h events)
each-fold P step keeps h [] each = each
each-fold P step keeps h (e ∷ events) each = each-fold P step keeps (step h e) events (keeps h e each)
