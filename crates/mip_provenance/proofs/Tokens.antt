-- Where a token comes from: whoever is the first to post it was the first to name it, where no outsider used it before it
-- had come and nobody named it otherwise.
use Rattle.std.proofs.Common.{◌≡◌, ℕ, List, [], ◌∷◌, ◌++◌, Bool, true, false, refl, sym, ap, ◌∙◌, subst}
use Rattle.std.specs.Prelude.{Option, Some, None, not, ◌==◌, if◌then◌else◌}
use Rattle.std.specs.List.{list_any}
use Rattle.std.specs.Str.{bytes_eq}
use Rattle.std.proofs.lemmas.Slice.Eq.{bytes_eq-Decides}
use Rattle.std.proofs.lemmas.Bool.{and_parts, and_from, not_from_false, false≢true}
use Rattle.mip_words.specs.declared.address.Address.{Address}
use Rattle.mip_words.specs.EachAfter.{EachAfter}
use Rattle.mip_words.proofs.EachLaws.{each_at}
use Rattle.mip_words.proofs.LastLaws.{first_of_any}
use Rattle.mip_packets.specs.Says.Carried.{Test}
use Rattle.mip_provenance.specs.declared.maker.Maker.{Maker}
use Rattle.mip_provenance.specs.declared.maker.Maker.TheVariants.{Node, Outsider}
use Rattle.mip_provenance.specs.Lists.{along}
use Rattle.mip_provenance.specs.Sights.{Sight}
use Rattle.mip_provenance.specs.Sights.Sight.{Sent, Injected, Heard, Handed}
use Rattle.mip_provenance.specs.Reached.{is_token, is_heard}
use Rattle.mip_provenance.specs.ReachedLaws.{carries, reaches, has_reached}
use Rattle.mip_provenance.specs.Names.{Name, Naming, is_agent, life_at, naming, namings, same_name, is_own, is_other, is_misnamed}
use Rattle.mip_provenance.specs.Causes.{early, is_early}
use Rattle.mip_provenance.specs.Laws.{WasPosted, IsLawful, AreLawful}
use Rattle.mip_provenance.proofs.ListLaws.{IsFound, found_of_any, any_front, each_before, along_here}

pub same_bytes : (a b : List ℕ) → bytes_eq a b ≡ true → a ≡ b
same_bytes a b e = (bytes_eq-Decides a b).0 e

pub bytes_same : (a b : List ℕ) → a ≡ b → bytes_eq a b ≡ true
bytes_same a b e = (bytes_eq-Decides a b).1 e

-- the law of a sight at its place
pub law_at : (seen before : List Sight) (here : Sight) (after : List Sight) → AreLawful seen → seen ≡ before ++ here ∷ after → IsLawful before here
law_at seen before here after lawful whole = each_at IsLawful [] before here after (subst (λ (l : List Sight). EachAfter IsLawful [] l) whole lawful)

-- a token that has reached somebody was posted before
pub reached_carried : (seen : List Sight) (maker : Maker) (token : List ℕ) → AreLawful seen → has_reached maker token seen ≡ true → list_any (carries token) seen ≡ true
reached_carried seen maker token lawful e =
    let s = first_of_any (reaches maker token) seen e in
    subst (λ (l : List Sight). list_any (carries token) l ≡ true) (sym s.whole)
    (any_front (carries token) s.before (s.here ∷ s.after) (by maker s.before s.here (law_at seen s.before s.here s.after lawful s.whole) s.passes))
  where
    of_token : (before : List Sight) (o : Option (List ℕ)) → WasPosted before o → is_token token o ≡ true → list_any (carries token) before ≡ true
    of_token before None law same = absurd (false≢true same)
    of_token before (Some t) law same = subst (λ (x : List ℕ). list_any (carries x) before ≡ true) (same_bytes t token same) law

    by : (m : Maker) (before : List Sight) (here : Sight) → IsLawful before here → reaches m token here ≡ true → list_any (carries token) before ≡ true
    by (Node n) before (Handed node t) law passes = of_token before t law (and_parts (node == n.0) (is_token token t) passes).1
    by (Node n) before _ law passes = absurd (false≢true passes)
    by (Outsider o) before (Heard outsider t) law passes = of_token before t law (and_parts (outsider == o) (is_token token t) passes).1
    by (Outsider o) before _ law passes = absurd (false≢true passes)

-- a token that was posted, that no outsider used early and nobody named otherwise, was named so
pub own_of_carried : (seen : List Sight) (token : List ℕ) (name : Name) → AreLawful seen → list_any (carries token) seen ≡ true
    → is_early seen token ≡ false → is_misnamed seen token name ≡ false → IsFound (is_own token name) (namings seen)
own_of_carried seen token name lawful e late well =
    let s = first_of_any (carries token) seen e in
    by s.before s.here s.after s.whole (law_at seen s.before s.here s.after lawful s.whole) s.passes s.none_before
  where
    -- no token stands before its first carrier
    none : (before : List Sight) (t : List ℕ) → bytes_eq t token ≡ true → list_any (carries token) before ≡ false → list_any (carries t) before ≡ true → ⊥
    none before t same none_before some =
        false≢true (sym none_before ∙ subst (λ (x : List ℕ). list_any (carries x) before ≡ true) (same_bytes t token same) some)

    named : (before : List Sight) (here : Sight) (after : List Sight) → seen ≡ before ++ here ∷ after → (n : Naming) → naming before here ≡ Some n
        → bytes_eq n.token token ≡ true → (b : Bool) → same_name n.name name ≡ b → IsFound (is_own token name) (namings seen)
    named before here after whole n is same true test =
        found_of_any (is_own token name) (namings seen)
        (subst (λ (l : List Sight). list_any (is_own token name) (along naming [] l) ≡ true) (sym whole)
        (along_here naming (is_own token name) before here after n is (and_from (bytes_eq n.token token) (same_name n.name name) same test)))
    named before here after whole n is same false test =
        absurd (false≢true (sym well ∙ subst (λ (l : List Sight). list_any (is_other token name) (along naming [] l) ≡ true) (sym whole)
        (along_here naming (is_other token name) before here after n is
        (and_from (bytes_eq n.token token) (not (same_name n.name name)) same (not_from_false (same_name n.name name) test)))))

    sent : (before after : List Sight) (number node kind index : ℕ) (t : List ℕ) (d : Address) → seen ≡ before ++ Sent number node (Test kind index t d) ∷ after
        → bytes_eq t token ≡ true → list_any (carries token) before ≡ false → (b : Bool) → list_any (is_agent node) before ≡ b
        → (list_any (is_agent node) before ≡ true → list_any (carries t) before ≡ true) → IsFound (is_own token name) (namings seen)
    sent before after number node kind index t d whole same none_before true test law = absurd (none before t same none_before (law test))
    sent before after number node kind index t d whole same none_before false test law =
        let n : Naming = record { number = number; token = t; name = record { node = node; life = life_at node before; kind = kind; address = d; index = index } } in
        named before (Sent number node (Test kind index t d)) after whole n (ap (λ (b : Bool). if b then None else Some n) test) same (same_name n.name name) refl

    injected : (before after : List Sight) (number outsider kind index : ℕ) (t : List ℕ) (d : Address) → seen ≡ before ++ Injected number outsider (Test kind index t d) ∷ after
        → bytes_eq t token ≡ true → list_any (carries token) before ≡ false → (b : Bool) → list_any (is_heard outsider t) before ≡ b → IsFound (is_own token name) (namings seen)
    injected before after number outsider kind index t d whole same none_before true test =
        let front : AreLawful before = each_before IsLawful [] before (Injected number outsider (Test kind index t d) ∷ after) (subst (λ (l : List Sight). EachAfter IsLawful [] l) whole lawful) in
        absurd (none before t same none_before (reached_carried before (Outsider outsider) t front test))
    injected before after number outsider kind index t d whole same none_before false test =
        absurd (false≢true (sym late ∙ subst (λ (l : List Sight). list_any (bytes_eq token) (along early [] l) ≡ true) (sym whole)
        (along_here early (bytes_eq token) before (Injected number outsider (Test kind index t d)) after t (ap (λ (b : Bool). if b then None else Some t) test)
        (bytes_same token t (sym (same_bytes t token same))))))

    by : (before : List Sight) (here : Sight) (after : List Sight) → seen ≡ before ++ here ∷ after → IsLawful before here → carries token here ≡ true → list_any (carries token) before ≡ false
        → IsFound (is_own token name) (namings seen)
    by before (Sent number node (Test kind index t d)) after whole law passes none_before =
        sent before after number node kind index t d whole passes none_before (list_any (is_agent node) before) refl law
    by before (Injected number outsider (Test kind index t d)) after whole law passes none_before =
        injected before after number outsider kind index t d whole passes none_before (list_any (is_heard outsider t) before) refl
    by before _ after whole law passes none_before = absurd (false≢true passes)
