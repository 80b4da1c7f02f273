-- The declarations of a schedule, one behind the other.
use Rattle.std.proofs.Common.{◌≡◌, ℕ, suc, ◌+◌, ◌<◌, List, [], ◌∷◌, ◌++◌, length, Bool, true, false, refl, sym, ap, ◌∙◌, arith}
use Rattle.std.proofs.lemmas.List.{take_more}
use Rattle.std.specs.Prelude.{Option, Some, None, take, get_or, slice_get, ◌==◌, if◌then◌else◌}
use Rattle.std.specs.Option.{option_and_then}
use Rattle.mip_words.specs.declared.address.Address.{Address}
use Rattle.mip_words.specs.declared.ids.NodeId.{NodeId}
use Rattle.mip_symbols.specs.declared.declaration.Declaration.{Declaration}
use Rattle.mip_symbols.specs.declared.declaration.Declaration.TheVariants as declare
use Rattle.mip_history.specs.Setup.{Host, links_in, addresses_in, with_any, served_by, hosts_from, outsiders_in}
use Rattle.mip_history.specs.Setup.Kind.{Correspondent as OfCorrespondent, Agent as OfAgent, Mobile as OfMobile}

pub links_in-append : (xs ys : List Declaration) → links_in (xs ++ ys) ≡ links_in xs ++ links_in ys
links_in-append [] ys = refl
links_in-append (declare.Link name prefix ∷ xs) ys = ap (λ (l : List ℕ). prefix.0 ∷ l) (links_in-append xs ys)
links_in-append (declare.Agent name link address preference life room ∷ xs) ys = links_in-append xs ys
links_in-append (declare.Correspondent name link address room ∷ xs) ys = links_in-append xs ys
links_in-append (declare.Mobile name link address agent ∷ xs) ys = links_in-append xs ys
links_in-append (declare.Serve agent mobile ∷ xs) ys = links_in-append xs ys
links_in-append (declare.Outsider name ∷ xs) ys = links_in-append xs ys

addresses_in-append : (xs ys : List Declaration) → addresses_in (xs ++ ys) ≡ addresses_in xs ++ addresses_in ys
addresses_in-append [] ys = refl
addresses_in-append (declare.Link name prefix ∷ xs) ys = addresses_in-append xs ys
addresses_in-append (declare.Agent name link address preference life room ∷ xs) ys = ap (λ (l : List Address). address ∷ l) (addresses_in-append xs ys)
addresses_in-append (declare.Correspondent name link address room ∷ xs) ys = ap (λ (l : List Address). address ∷ l) (addresses_in-append xs ys)
addresses_in-append (declare.Mobile name link address agent ∷ xs) ys = ap (λ (l : List Address). address ∷ l) (addresses_in-append xs ys)
addresses_in-append (declare.Serve agent mobile ∷ xs) ys = addresses_in-append xs ys
addresses_in-append (declare.Outsider name ∷ xs) ys = addresses_in-append xs ys

any-append : (o : Option Address) (xs ys : List Address) → with_any o (xs ++ ys) ≡ with_any o xs ++ ys
any-append None xs ys = refl
any-append (Some a) xs ys = refl

served_by-append : (addresses : List Address) (n : ℕ) (xs ys : List Declaration) → served_by addresses n (xs ++ ys) ≡ served_by addresses n xs ++ served_by addresses n ys
served_by-append addresses n [] ys = refl
served_by-append addresses n (declare.Link name prefix ∷ xs) ys = served_by-append addresses n xs ys
served_by-append addresses n (declare.Agent name link address preference life room ∷ xs) ys = served_by-append addresses n xs ys
served_by-append addresses n (declare.Correspondent name link address room ∷ xs) ys = served_by-append addresses n xs ys
served_by-append addresses n (declare.Mobile name link address agent ∷ xs) ys = served_by-append addresses n xs ys
served_by-append addresses n (declare.Outsider name ∷ xs) ys = served_by-append addresses n xs ys
served_by-append addresses n (declare.Serve agent mobile ∷ xs) ys = by (n == agent.0) (served_by-append addresses n xs ys)
  where
    by : (b : Bool) → served_by addresses n (xs ++ ys) ≡ served_by addresses n xs ++ served_by addresses n ys
        → (if b then with_any (slice_get addresses mobile.0) (served_by addresses n (xs ++ ys)) else served_by addresses n (xs ++ ys))
        ≡ (if b then with_any (slice_get addresses mobile.0) (served_by addresses n xs) else served_by addresses n xs) ++ served_by addresses n ys
    by true rest = ap (with_any (slice_get addresses mobile.0)) rest ∙ any-append (slice_get addresses mobile.0) (served_by addresses n xs) (served_by addresses n ys)
    by false rest = rest

pub hosts_from-append : (all : List Declaration) (n : ℕ) (xs ys : List Declaration)
    → hosts_from all n (xs ++ ys) ≡ hosts_from all n xs ++ hosts_from all (n + length (hosts_from all n xs)) ys
hosts_from-append all n [] ys = ap (λ (m : ℕ). hosts_from all m ys) (let same : n ≡ n + 0 = omega arith in same)
hosts_from-append all n (declare.Link name prefix ∷ xs) ys = hosts_from-append all n xs ys
hosts_from-append all n (declare.Serve agent mobile ∷ xs) ys = hosts_from-append all n xs ys
hosts_from-append all n (declare.Outsider name ∷ xs) ys = hosts_from-append all n xs ys
hosts_from-append all n (declare.Correspondent name link address room ∷ xs) ys =
    let h : Host = record { address = address; kind = OfCorrespondent room } in
    let same : suc n + length (hosts_from all (suc n) xs) ≡ n + suc (length (hosts_from all (suc n) xs)) = omega arith in
    ap (λ (l : List Host). h ∷ l) (hosts_from-append all (suc n) xs ys ∙ ap (λ (m : ℕ). hosts_from all (suc n) xs ++ hosts_from all m ys) same)
hosts_from-append all n (declare.Agent name link address preference life room ∷ xs) ys =
    let h : Host = record { address = address; kind = OfAgent preference life room (served_by (addresses_in all) n all) } in
    let same : suc n + length (hosts_from all (suc n) xs) ≡ n + suc (length (hosts_from all (suc n) xs)) = omega arith in
    ap (λ (l : List Host). h ∷ l) (hosts_from-append all (suc n) xs ys ∙ ap (λ (m : ℕ). hosts_from all (suc n) xs ++ hosts_from all m ys) same)
hosts_from-append all n (declare.Mobile name link address agent ∷ xs) ys =
    let h : Host = record { address = address; kind = OfMobile (option_and_then (λ (g : NodeId). slice_get (addresses_in all) g.0) agent) } in
    let same : suc n + length (hosts_from all (suc n) xs) ≡ n + suc (length (hosts_from all (suc n) xs)) = omega arith in
    ap (λ (l : List Host). h ∷ l) (hosts_from-append all (suc n) xs ys ∙ ap (λ (m : ℕ). hosts_from all (suc n) xs ++ hosts_from all m ys) same)

pub outsiders_in-append : (xs ys : List Declaration) → outsiders_in (xs ++ ys) ≡ outsiders_in xs + outsiders_in ys
outsiders_in-append [] ys = omega arith
outsiders_in-append (declare.Link name prefix ∷ xs) ys = outsiders_in-append xs ys
outsiders_in-append (declare.Agent name link address preference life room ∷ xs) ys = outsiders_in-append xs ys
outsiders_in-append (declare.Correspondent name link address room ∷ xs) ys = outsiders_in-append xs ys
outsiders_in-append (declare.Mobile name link address agent ∷ xs) ys = outsiders_in-append xs ys
outsiders_in-append (declare.Serve agent mobile ∷ xs) ys = outsiders_in-append xs ys
outsiders_in-append (declare.Outsider name ∷ xs) ys = let more = outsiders_in-append xs ys in omega arith

-- one declaration more
pub links_more : (ds : List Declaration) (i : ℕ) (d : Declaration) → i < length ds → links_in (take i ds) ++ links_in (get_or ds i d ∷ []) ≡ links_in (take (i + 1) ds)
links_more ds i d inside = sym (links_in-append (take i ds) (get_or ds i d ∷ [])) ∙ ap links_in (sym (take_more ds i d inside))

pub addresses_more : (ds : List Declaration) (i : ℕ) (d : Declaration) → i < length ds → addresses_in (take i ds) ++ addresses_in (get_or ds i d ∷ []) ≡ addresses_in (take (i + 1) ds)
addresses_more ds i d inside = sym (addresses_in-append (take i ds) (get_or ds i d ∷ [])) ∙ ap addresses_in (sym (take_more ds i d inside))

pub served_more : (addresses : List Address) (n : ℕ) (ds : List Declaration) (i : ℕ) (d : Declaration) → i < length ds
    → served_by addresses n (take i ds) ++ served_by addresses n (get_or ds i d ∷ []) ≡ served_by addresses n (take (i + 1) ds)
served_more addresses n ds i d inside = sym (served_by-append addresses n (take i ds) (get_or ds i d ∷ [])) ∙ ap (served_by addresses n) (sym (take_more ds i d inside))

pub hosts_more : (all ds : List Declaration) (i : ℕ) (d : Declaration) → i < length ds
    → hosts_from all 0 (take i ds) ++ hosts_from all (length (hosts_from all 0 (take i ds))) (get_or ds i d ∷ []) ≡ hosts_from all 0 (take (i + 1) ds)
hosts_more all ds i d inside =
    let same : 0 + length (hosts_from all 0 (take i ds)) ≡ length (hosts_from all 0 (take i ds)) = omega arith in
    ap (λ (n : ℕ). hosts_from all 0 (take i ds) ++ hosts_from all n (get_or ds i d ∷ [])) (sym same)
    ∙ sym (hosts_from-append all 0 (take i ds) (get_or ds i d ∷ [])) ∙ ap (hosts_from all 0) (sym (take_more ds i d inside))

pub outsiders_more : (ds : List Declaration) (i : ℕ) (d : Declaration) → i < length ds
    → outsiders_in (take i ds) + outsiders_in (get_or ds i d ∷ []) ≡ outsiders_in (take (i + 1) ds)
outsiders_more ds i d inside = sym (outsiders_in-append (take i ds) (get_or ds i d ∷ [])) ∙ ap outsiders_in (sym (take_more ds i d inside))
