-- The pair behind an update: it gives the authenticator, and both tokens had reached the maker before.
use Rattle.std.proofs.Common.{◌≡◌, ℕ, List, [], ◌∷◌, ◌++◌, Bool, true, false, refl, sym, ap, ◌∙◌, subst}
use Rattle.std.specs.Prelude.{Option, Some, None, ◌&&◌, ◌||◌, ◌==◌, if◌then◌else◌, option_map, IfSome, ⊤}
use Rattle.std.specs.List.{list_any, cons_option}
use Rattle.std.specs.Option.{option_and_then}
use Rattle.std.specs.Str.{bytes_eq}
use Rattle.std.proofs.lemmas.Bool.{and_parts, and_from, eqb-true, or_left, or_right}
use Rattle.mip_words.specs.declared.ids.NodeId.{NodeId}
use Rattle.mip_provenance.specs.declared.maker.Maker.{Maker}
use Rattle.mip_provenance.specs.declared.maker.Maker.TheVariants.{Node, Outsider}
use Rattle.mip_provenance.specs.Lists.{first_some, until, if_passes}
use Rattle.mip_provenance.specs.Sights.{Sight}
use Rattle.mip_provenance.specs.Sights.Sight.{Heard, Made}
use Rattle.mip_provenance.specs.Reached.{is_token, is_heard, values}
use Rattle.mip_provenance.specs.ReachedLaws.{is_handed, has_reached}
use Rattle.mip_provenance.specs.Firsts.{is_post}
use Rattle.mip_provenance.specs.Pairs.{Pair, alone, both, made_with, as_asked, pair_made, first_with, first_pair, pair_by}
use Rattle.mip_provenance.specs.Laws.{IsMadeBefore, IsLawful, AreLawful}
use Rattle.mip_provenance.proofs.ListLaws.{first_some-found, until_past, any_at, any_front}
use Rattle.mip_provenance.proofs.Tokens.{bytes_same, law_at}

-- the care-of token has reached the maker, where one is asked for
abbrev pub HasCome : Maker → List Sight → Option ℕ → Option (List ℕ) → Type 0
HasCome maker front (Some j) (Some q) = has_reached maker q front ≡ true
HasCome maker front None None = ⊤
HasCome maker front _ _ = ⊥

pub record IsPaired (front : List Sight) (maker : Maker) (careof : Option ℕ) (test : Pair → Bool) (pair : Pair) : Type 0 where
  pub passes : test pair ≡ true
  pub home_came : has_reached maker pair.home front ≡ true
  pub careof_came : HasCome maker front careof pair.careof

-- what a mobile made an update from had come to it before it posted the update
pub record IsMade (front : List Sight) (node : ℕ) (made : Pair) : Type 0 where
  pub home_came : list_any (is_handed node made.home) front ≡ true
  pub careof_came : IfSome made.careof (λ q. list_any (is_handed node q) front ≡ true)

made_is : (seen : List Sight) (node k : ℕ) (made : Pair) → AreLawful seen → first_some (made_with node k) seen ≡ Some made → IsMade (until (is_post k) seen) node made
made_is seen node k made lawful e =
    let s = first_some-found (made_with node k) seen made e in
    by s.before s.here s.after s.whole (law_at seen s.before s.here s.after lawful s.whole) s.says_it
  where
    came : (before after : List Sight) (here : Sight) → seen ≡ before ++ here ∷ after → list_any (is_post k) before ≡ false → (q : List ℕ) → list_any (is_handed node q) before ≡ true
        → list_any (is_handed node q) (until (is_post k) seen) ≡ true
    came before after here whole unposted q some =
        ap (λ (l : List Sight). list_any (is_handed node q) (until (is_post k) l)) whole
        ∙ ap (list_any (is_handed node q)) (until_past (is_post k) before (here ∷ after) unposted)
        ∙ any_front (is_handed node q) before (until (is_post k) (here ∷ after)) some

    careof_came : (before after : List Sight) (here : Sight) → seen ≡ before ++ here ∷ after → list_any (is_post k) before ≡ false → (o : Option (List ℕ))
        → IfSome o (λ q. list_any (is_handed node q) before ≡ true) → IfSome o (λ q. list_any (is_handed node q) (until (is_post k) seen) ≡ true)
    careof_came before after here whole unposted None some = tt
    careof_came before after here whole unposted (Some q) some = came before after here whole unposted q some

    made_so : (before after : List Sight) (n number : ℕ) (p : List ℕ) (o : Option (List ℕ)) → seen ≡ before ++ Made n number p o ∷ after → IsMadeBefore before n number p o
        → (b : Bool) → (n == node && number == k) ≡ b → (if b then Some (record { home = p; careof = o }) else None) ≡ Some made → IsMade (until (is_post k) seen) node made
    made_so before after n number p o whole law true test is =
        let parts = and_parts (n == node) (number == k) test in
        let same_node : n ≡ node = eqb-true n node parts.0 in
        let same_number : number ≡ k = eqb-true number k parts.1 in
        let here : Sight = Made n number p o in
        let unposted : list_any (is_post k) before ≡ false = subst (λ (m : ℕ). list_any (is_post m) before ≡ false) same_number law.unposted in
        let pair : Pair = record { home = p; careof = o } in
        let same : pair ≡ made = cc in
        subst (λ (m : Pair). IsMade (until (is_post k) seen) node m) same (record {
          home_came = came before after here whole unposted p (subst (λ (m : ℕ). list_any (is_handed m p) before ≡ true) same_node law.home_came);
          careof_came = careof_came before after here whole unposted o (subst (λ (m : ℕ). IfSome o (λ q. list_any (is_handed m q) before ≡ true)) same_node law.careof_came);
        })
    made_so before after n number p o whole law false test is = absurd cc

    by : (before : List Sight) (here : Sight) (after : List Sight) → seen ≡ before ++ here ∷ after → IsLawful before here → made_with node k here ≡ Some made → IsMade (until (is_post k) seen) node made
    by before (Made n number p o) after whole law is = made_so before after n number p o whole law (n == node && number == k) refl is
    by before _ after whole law is = absurd cc

-- the test that a pair passed
if_passes-some : (test : Pair → Bool) (made pair : Pair) → if_passes test made ≡ Some pair → (made ≡ pair) × (test pair ≡ true)
if_passes-some test made pair e = by (test made) refl e
  where
    by : (b : Bool) → test made ≡ b → (if b then Some made else None) ≡ Some pair → (made ≡ pair) × (test pair ≡ true)
    by true is e = let same : made ≡ pair = cc in (same, ap test (sym same) ∙ is)
    by false is e = absurd cc

paired_made : (seen : List Sight) (careof : Option ℕ) (test : Pair → Bool) (node : NodeId) (k : ℕ) (pair : Pair) → AreLawful seen → pair_made seen careof test node k ≡ Some pair
    → IsPaired (until (is_post k) seen) (Node node) careof test pair
paired_made seen careof test node k pair lawful e = by (first_some (made_with node.0 k) seen) refl e
  where
    end : (made asked : Pair) → IsMade (until (is_post k) seen) node.0 made → as_asked careof made ≡ Some asked → if_passes test asked ≡ Some pair
        → IsPaired (until (is_post k) seen) (Node node) careof test pair
    end made asked is shape e =
        let passed = if_passes-some test asked pair e in
        subst (λ (p : Pair). IsPaired (until (is_post k) seen) (Node node) careof test p) passed.0
        (record { passes = ap test passed.0 ∙ passed.1; home_came = home careof shape; careof_came = rest careof made.careof is.careof_came shape })
      where
        home : (o : Option ℕ) → as_asked o made ≡ Some asked → list_any (is_handed node.0 asked.home) (until (is_post k) seen) ≡ true
        home None shape = let same : alone made.home ≡ asked = cc in subst (λ (p : Pair). list_any (is_handed node.0 p.home) (until (is_post k) seen) ≡ true) same is.home_came
        home (Some j) shape = with made.careof shape
          where
            with : (o : Option (List ℕ)) → option_map (both made.home) o ≡ Some asked → list_any (is_handed node.0 asked.home) (until (is_post k) seen) ≡ true
            with None shape = absurd cc
            with (Some q) shape = let same : both made.home q ≡ asked = cc in subst (λ (p : Pair). list_any (is_handed node.0 p.home) (until (is_post k) seen) ≡ true) same is.home_came

        rest : (o : Option ℕ) (q : Option (List ℕ)) → IfSome q (λ q. list_any (is_handed node.0 q) (until (is_post k) seen) ≡ true) → as_asked o (record { home = made.home; careof = q }) ≡ Some asked
            → HasCome (Node node) (until (is_post k) seen) o asked.careof
        rest None q came shape = let same : alone made.home ≡ asked = cc in subst (λ (p : Pair). HasCome (Node node) (until (is_post k) seen) None p.careof) same tt
        rest (Some j) None came shape = absurd cc
        rest (Some j) (Some q) came shape = let same : both made.home q ≡ asked = cc in subst (λ (p : Pair). HasCome (Node node) (until (is_post k) seen) (Some j) p.careof) same came

    asked_so : (made : Pair) → IsMade (until (is_post k) seen) node.0 made → (o : Option Pair) → as_asked careof made ≡ o → option_and_then (if_passes test) o ≡ Some pair
        → IsPaired (until (is_post k) seen) (Node node) careof test pair
    asked_so made is None shape e = absurd cc
    asked_so made is (Some asked) shape e = end made asked is shape e

    by : (o : Option Pair) → first_some (made_with node.0 k) seen ≡ o → option_and_then (if_passes test) (option_and_then (as_asked careof) o) ≡ Some pair
        → IsPaired (until (is_post k) seen) (Node node) careof test pair
    by None is e = absurd cc
    by (Some made) is e = asked_so made (made_is seen node.0 k made lawful is) (as_asked careof made) refl e

-- a value that was heard
heard_of_value : (outsider : ℕ) (p : List ℕ) (front : List Sight) → list_any (λ v. bytes_eq v p) (values outsider front) ≡ true → list_any (is_heard outsider p) front ≡ true
heard_of_value outsider p [] e = absurd cc
heard_of_value outsider p (Heard o x ∷ front) e = by (o == outsider) refl x (heard_of_value outsider p front) e
  where
    two : (u : Bool) (t : List ℕ) → (o == outsider) ≡ true → bytes_eq t p ≡ u → (list_any (λ v. bytes_eq v p) (values outsider front) ≡ true → list_any (is_heard outsider p) front ≡ true)
        → (u || list_any (λ v. bytes_eq v p) (values outsider front)) ≡ true → list_any (is_heard outsider p) (Heard o (Some t) ∷ front) ≡ true
    two true t test is later e = or_left (o == outsider && bytes_eq t p) (list_any (is_heard outsider p) front) (and_from (o == outsider) (bytes_eq t p) test is)
    two false t test is later e = or_right (o == outsider && bytes_eq t p) (list_any (is_heard outsider p) front) (later e)

    by : (b : Bool) → (o == outsider) ≡ b → (x : Option (List ℕ)) → (list_any (λ v. bytes_eq v p) (values outsider front) ≡ true → list_any (is_heard outsider p) front ≡ true)
        → list_any (λ v. bytes_eq v p) (cons_option (if b then x else None) (values outsider front)) ≡ true
        → list_any (is_heard outsider p) (Heard o x ∷ front) ≡ true
    by true test (Some t) later e = two (bytes_eq t p) t test refl later e
    by true test None later e = or_right (o == outsider && false) (list_any (is_heard outsider p) front) (later e)
    by false test x later e = or_right (o == outsider && is_token p x) (list_any (is_heard outsider p) front) (later e)
heard_of_value outsider p (_ ∷ front) e = heard_of_value outsider p front e

-- a value at a place among those that were heard
heard_at : (outsider : ℕ) (front : List Sight) (before after : List (List ℕ)) (p : List ℕ) → values outsider front ≡ before ++ p ∷ after → list_any (is_heard outsider p) front ≡ true
heard_at outsider front before after p whole =
    heard_of_value outsider p front (ap (list_any (λ v. bytes_eq v p)) whole ∙ any_at (λ v. bytes_eq v p) before p after (bytes_same p p refl))

paired_heard : (front : List Sight) (careof : Option ℕ) (test : Pair → Bool) (outsider : ℕ) (pair : Pair) → first_pair careof test (values outsider front) ≡ Some pair
    → IsPaired front (Outsider outsider) careof test pair
paired_heard front None test outsider pair e =
    let s = first_some-found (λ p. if_passes test (alone p)) (values outsider front) pair e in
    let passed = if_passes-some test (alone s.here) pair s.says_it in
    subst (λ (x : Pair). IsPaired front (Outsider outsider) None test x) passed.0
    (record { passes = ap test passed.0 ∙ passed.1; home_came = heard_at outsider front s.before s.after s.here s.whole; careof_came = tt })
paired_heard front (Some j) test outsider pair e =
    let s = first_some-found (first_with test (values outsider front)) (values outsider front) pair e in
    let t = first_some-found (λ q. if_passes test (both s.here q)) (values outsider front) pair s.says_it in
    let passed = if_passes-some test (both s.here t.here) pair t.says_it in
    subst (λ (x : Pair). IsPaired front (Outsider outsider) (Some j) test x) passed.0
    (record {
      passes = ap test passed.0 ∙ passed.1;
      home_came = heard_at outsider front s.before s.after s.here s.whole;
      careof_came = heard_at outsider front t.before t.after t.here t.whole;
    })

-- the pair behind a packet
pub paired : (seen : List Sight) (careof : Option ℕ) (test : Pair → Bool) (k : ℕ) (maker : Maker) (pair : Pair) → AreLawful seen → pair_by seen careof test k maker ≡ Some pair
    → IsPaired (until (is_post k) seen) maker careof test pair
paired seen careof test k (Node node) pair lawful e = paired_made seen careof test node k pair lawful e
paired seen careof test k (Outsider outsider) pair lawful e = paired_heard (until (is_post k) seen) careof test outsider pair e
