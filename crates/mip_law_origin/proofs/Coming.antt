-- A test that was handed to a node stays so, and those that the trials of a mobile were given were handed to it.
use Rattle.std.proofs.Common.{◌≡◌, ℕ, zero, suc, List, [], ◌∷◌, ◌++◌, sym, ap, ◌∙◌, subst}
use Rattle.std.specs.Prelude.{Option, Some, None, IfSome, slice_get, slice_set, slice_index_or}
use Rattle.std.specs.List.{AllByRecursion}
use Rattle.std.proofs.lemmas.List.{append_assoc}
use Rattle.std.proofs.lemmas.List.Elements.{filter_map-append}
use Rattle.mip_bulist.specs.declared.made.Made.{Made}
use Rattle.mip_words.specs.declared.token.Token.{Token}
use Rattle.mip_entries.specs.declared.entry.Entry.{Entry}
use Rattle.mip_entries.specs.declared.entry.Entry.TheVariants as entries
use Rattle.mip_entries.specs.Completed.{node_id}
use Rattle.mip_entries.specs.Stamped.{Stamped, stamped}
use Rattle.mip_provenance.specs.Sights.{token_in}
use Rattle.mip_bulist.specs.declared.tested.Test.{Test}
use Rattle.mip_rules_mobile.specs.Calls as calls
use Rattle.mip_rules_mobile.specs.Calls.{Call}
use Rattle.mip_rules_mobile.specs.Trials.{HomeTest, CareofTest}
use Rattle.mip_rules_mobile.specs.Steps.{Step, Tries}
use Rattle.mip_rules_mobile.specs.Known.{Known}
use Rattle.mip_rules_mobile.specs.Questions.{after}
use Rattle.mip_rules_mobile.specs.Fitting.{Fits, EachFits}
use Rattle.mip_rules_mobile.specs.Kept.{WasGiven, GivesHome, GivesCareof, HomeGiven, CareofGiven, CareofFrom, IsMadeFrom}
use Rattle.mip_packets.specs.Says.{carried}
use Rattle.mip_history.specs.BoundLaws.{packet_posted, packets_of}
use Rattle.mip_law_origin.specs.OwnHistoriesLaws.{HasCome}

get_front : {X : Type 0} (xs ys : List X) (k : ℕ) (x : X) → slice_get xs k ≡ Some x → slice_get (xs ++ ys) k ≡ Some x
get_front [] ys k x e = absurd cc
get_front (y ∷ xs) ys zero x e = e
get_front (y ∷ xs) ys (suc k) x e = get_front xs ys k x e

pub come_more : (front es : List Entry) (n : ℕ) (t : List ℕ) → HasCome front n t → HasCome (front ++ es) n t
come_more front es n t c = record {
  number = c.number;
  bytes = c.bytes;
  before = c.before;
  after = c.after ++ es;
  whole = ap (λ (l : List Entry). l ++ es) c.whole ∙ append_assoc c.before (entries.Handed c.number (node_id n) ∷ c.after) es;
  posted =
      ap (λ (l : List (List ℕ)). slice_get l c.number) (filter_map-append packet_posted front es)
      ∙ get_front (packets_of front) (packets_of es) c.number c.bytes c.posted;
  says = c.says;
}

pub if_come_more : (front es : List Entry) (n : ℕ) (o : Option (List ℕ)) → IfSome o (HasCome front n) → IfSome o (HasCome (front ++ es) n)
if_come_more front es n None come = tt
if_come_more front es n (Some t) come = come_more front es n t come

pub token_come_more : (front es : List Entry) (n : ℕ) (o : Option Token) → IfSome o (λ t. HasCome front n t.0) → IfSome o (λ t. HasCome (front ++ es) n t.0)
token_come_more front es n None come = tt
token_come_more front es n (Some t) come = come_more front es n t.0 come

-- a test that a trial is given was handed over
abbrev pub IsGiven : List Entry → ℕ → Step → Type 0
IsGiven front n (Tries row (HomeTest peer cookie test)) = HasCome front n test.token.0
IsGiven front n (Tries row (CareofTest peer cookie test)) = HasCome front n test.token.0
IsGiven front n _ = Unit {0}

abbrev pub AreGiven : List Entry → ℕ → List (Stamped Step) → Type 0
AreGiven front n past = AllByRecursion (λ (s : Stamped Step). IsGiven front n s.step) past

given_more : (front es : List Entry) (n : ℕ) (step : Step) → IsGiven front n step → IsGiven (front ++ es) n step
given_more front es n (Tries row (HomeTest peer cookie test)) given = come_more front es n test.token.0 given
given_more front es n (Tries row (CareofTest peer cookie test)) given = come_more front es n test.token.0 given
given_more front es n _ given = tt

pub all_given_more : (front es : List Entry) (n : ℕ) (past : List (Stamped Step)) → AreGiven front n past → AreGiven (front ++ es) n past
all_given_more front es n [] given = tt
all_given_more front es n (s ∷ past) given = (given_more front es n s.step given.0, all_given_more front es n past given.1)

pub all_both : {X : Type 0} (P : X → Type 0) (xs ys : List X) → AllByRecursion P xs → AllByRecursion P ys → AllByRecursion P (xs ++ ys)
all_both P [] ys a b = b
all_both P (x ∷ xs) ys a b = (a.0, all_both P xs ys a.1 b)

all_at : {X : Type 0} (P : X → Type 0) (before : List X) (x : X) (after : List X) → AllByRecursion P (before ++ x ∷ after) → P x
all_at P [] x after all = all.0
all_at P (y ∷ before) x after all = all_at P before x after all.1

module _ (front : List Entry) (n : ℕ) where
  given_at : (gives : Step → Type 0) (row : ℕ) (past : List (Stamped Step)) → AreGiven front n past → (w : WasGiven gives row past) → IsGiven front n w.given.step
  given_at gives row past given w =
      all_at (λ (s : Stamped Step). IsGiven front n s.step) w.before w.given w.later (subst (AreGiven front n) w.whole given)

  home_came : (row : ℕ) (past : List (Stamped Step)) (test : Test) → AreGiven front n past → HomeGiven past row test → HasCome front n test.token.0
  home_came row past test given w = subst (IsGiven front n) w.is.2 (given_at (GivesHome row test) row past given w)

  careof_came : (row : ℕ) (past : List (Stamped Step)) (test : Test) → AreGiven front n past → CareofGiven past row test → HasCome front n test.token.0
  careof_came row past test given w = subst (IsGiven front n) w.is.2 (given_at (GivesCareof row test) row past given w)

  -- the tokens of an update were handed over
  pub made_home : (row : ℕ) (past : List (Stamped Step)) (made : Made) → AreGiven front n past → IsMadeFrom past row made → HasCome front n made.home.0
  made_home row past made given from = subst (λ (t : Token). HasCome front n t.0) (sym from.home_token) (home_came row past from.home given from.home_given)

  pub made_careof : (row : ℕ) (past : List (Stamped Step)) (made : Made) (o : Option Token) → AreGiven front n past → CareofFrom past row made o → IfSome o (λ t. HasCome front n t.0)
  made_careof row past made None given from = tt
  made_careof row past made (Some t) given from = subst (λ (u : Token). HasCome front n u.0) (sym from.2) (careof_came row past from.0 given from.1)

  -- the tests in a packet that is handed over have come
  abbrev pub HasTaken : Call → Type 0
  HasTaken (calls.Take number shield packet) = (t : List ℕ) → token_in (carried packet) ≡ Some t → HasCome front n t
  HasTaken _ = Unit {0}

  pub fit_given : (c : Call) (now : ℕ) (k : Known) (step : Step) → HasTaken c → Fits c now k step → IsGiven front n step
  fit_given c now k (Tries row (HomeTest peer cookie test)) came fits = subst HasTaken fits.call came test.token.0 (ap token_in fits.says)
  fit_given c now k (Tries row (CareofTest peer cookie test)) came fits = subst HasTaken fits.call came test.token.0 (ap token_in fits.says)
  fit_given c now k _ came fits = tt

  pub fits_given : (c : Call) (now at : ℕ) (k : Known) (steps : List Step) → HasTaken c → EachFits c now k steps → AreGiven front n (stamped at steps)
  fits_given c now at k [] came fits = tt
  fits_given c now at k (step ∷ steps) came fits =
      (fit_given c now k step came fits.0, fits_given c now at (after k (record { at = now; step = step })) steps came fits.1)

-- what is so of each item stays so where one is set to such a one
pub set_keeps : {X : Type 0} (P : ℕ → X → Type 0) (l : List X) (m : ℕ) (x y : X) → ((n : ℕ) → P n (slice_index_or l n y)) → P m x → (n : ℕ) → P n (slice_index_or (slice_set l m x) n y)
set_keeps P [] m x y all here n = all n
set_keeps P (z ∷ l) zero x y all here zero = here
set_keeps P (z ∷ l) zero x y all here (suc n) = all (suc n)
set_keeps P (z ∷ l) (suc m) x y all here zero = all zero
set_keeps {X = X} P (z ∷ l) (suc m) x y all here (suc n) = set_keeps (λ (k : ℕ) (v : X). P (suc k) v) l m x y (λ k. all (suc k)) here n
