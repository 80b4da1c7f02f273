-- The nodes that a schedule declares, declaration by declaration.
use Rattle.std.proofs.Common.{◌≡◌, ℕ, suc, ◌+◌, ◌<◌, List, [], ◌∷◌, ◌++◌, length, Bool, true, false, refl, sym, ap, ◌∙◌, arith}
use Rattle.std.proofs.lemmas.List.{take_more, length-map}
use Rattle.std.specs.Prelude.{map, Option, Some, None, take, get_or, slice_get, ◌==◌, if◌then◌else◌}
use Rattle.std.specs.Option.{option_and_then}
use Rattle.mip_words.specs.declared.address.Address.{Address}
use Rattle.mip_words.specs.declared.ids.NodeId.{NodeId}
use Rattle.mip_symbols.specs.declared.declaration.Declaration.{Declaration}
use Rattle.mip_symbols.specs.declared.declaration.Declaration.TheVariants as declare
use Rattle.mip_history.specs.Setup.{Host, addresses_in, with_any, served_by, hosts_from}
use Rattle.mip_history.specs.Setup.Kind.{Correspondent, Agent, Mobile}
use Rattle.mip_afresh.specs.Tellings.{host_seen}
use Rattle.mip_afresh.specs.declared.host.Host as declared_host

addresses_in-append : (xs ys : List Declaration) → addresses_in (xs ++ ys) ≡ addresses_in xs ++ addresses_in ys
addresses_in-append [] ys = refl
addresses_in-append (declare.Correspondent name link address room ∷ xs) ys = ap (λ (l : List Address). address ∷ l) (addresses_in-append xs ys)
addresses_in-append (declare.Agent name link address preference life room ∷ xs) ys = ap (λ (l : List Address). address ∷ l) (addresses_in-append xs ys)
addresses_in-append (declare.Mobile name link address agent ∷ xs) ys = ap (λ (l : List Address). address ∷ l) (addresses_in-append xs ys)
addresses_in-append (_ ∷ xs) ys = addresses_in-append xs ys

pub addresses_more : (ds : List Declaration) (i : ℕ) (d : Declaration) → i < length ds
    → addresses_in (take i ds) ++ addresses_in (get_or ds i d ∷ []) ≡ addresses_in (take (i + 1) ds)
addresses_more ds i d inside = sym (addresses_in-append (take i ds) (get_or ds i d ∷ [])) ∙ ap addresses_in (sym (take_more ds i d inside))

any-append : (o : Option Address) (xs ys : List Address) → with_any o (xs ++ ys) ≡ with_any o xs ++ ys
any-append None xs ys = refl
any-append (Some a) xs ys = refl

module _ (addresses : List Address) (n : ℕ) where
  served_by-append : (xs ys : List Declaration) → served_by addresses n (xs ++ ys) ≡ served_by addresses n xs ++ served_by addresses n ys
  served_by-append [] ys = refl
  served_by-append (declare.Serve agent mobile ∷ xs) ys = by (n == agent.0) (served_by-append xs ys)
    where
      by : (b : Bool) → served_by addresses n (xs ++ ys) ≡ served_by addresses n xs ++ served_by addresses n ys
          → (if b then with_any (slice_get addresses mobile.0) (served_by addresses n (xs ++ ys)) else served_by addresses n (xs ++ ys))
          ≡ (if b then with_any (slice_get addresses mobile.0) (served_by addresses n xs) else served_by addresses n xs) ++ served_by addresses n ys
      by true rest = ap (with_any (slice_get addresses mobile.0)) rest ∙ any-append (slice_get addresses mobile.0) (served_by addresses n xs) (served_by addresses n ys)
      by false rest = rest
  served_by-append (_ ∷ xs) ys = served_by-append xs ys

  pub served_more : (ds : List Declaration) (i : ℕ) (d : Declaration) → i < length ds
      → served_by addresses n (take i ds) ++ served_by addresses n (get_or ds i d ∷ []) ≡ served_by addresses n (take (i + 1) ds)
  served_more ds i d inside = sym (served_by-append (take i ds) (get_or ds i d ∷ [])) ∙ ap (served_by addresses n) (sym (take_more ds i d inside))

module _ (all : List Declaration) where
  -- the nodes behind a first one
  behind : (n : ℕ) (host : Host) (xs ys : List Declaration) → hosts_from all (suc n) (xs ++ ys) ≡ hosts_from all (suc n) xs ++ hosts_from all (suc n + length (hosts_from all (suc n) xs)) ys
      → host ∷ hosts_from all (suc n) (xs ++ ys) ≡ host ∷ hosts_from all (suc n) xs ++ hosts_from all (n + suc (length (hosts_from all (suc n) xs))) ys
  behind n host xs ys rest =
      let same : suc n + length (hosts_from all (suc n) xs) ≡ n + suc (length (hosts_from all (suc n) xs)) = omega arith in
      ap (λ (l : List Host). host ∷ l) (rest ∙ ap (λ (m : ℕ). hosts_from all (suc n) xs ++ hosts_from all m ys) same)

  hosts_from-append : (n : ℕ) (xs ys : List Declaration) → hosts_from all n (xs ++ ys) ≡ hosts_from all n xs ++ hosts_from all (n + length (hosts_from all n xs)) ys
  hosts_from-append n [] ys = ap (λ (m : ℕ). hosts_from all m ys) (let same : n ≡ n + 0 = omega arith in same)
  hosts_from-append n (declare.Correspondent name link address room ∷ xs) ys =
      behind n (record { address = address; kind = Correspondent room }) xs ys (hosts_from-append (suc n) xs ys)
  hosts_from-append n (declare.Agent name link address preference life room ∷ xs) ys =
      behind n (record { address = address; kind = Agent preference life room (served_by (addresses_in all) n all) }) xs ys (hosts_from-append (suc n) xs ys)
  hosts_from-append n (declare.Mobile name link address agent ∷ xs) ys =
      behind n (record { address = address; kind = Mobile (option_and_then (λ (g : NodeId). slice_get (addresses_in all) g.0) agent) }) xs ys (hosts_from-append (suc n) xs ys)
  hosts_from-append n (_ ∷ xs) ys = hosts_from-append n xs ys

  pub hosts_more : (hosts : List declared_host.Host) (ds : List Declaration) (i : ℕ) (d : Declaration) → i < length ds → map host_seen hosts ≡ hosts_from all 0 (take i ds)
      → map host_seen hosts ++ hosts_from all (length hosts) (get_or ds i d ∷ []) ≡ hosts_from all 0 (take (i + 1) ds)
  hosts_more hosts ds i d inside are =
      let before : List Host = hosts_from all 0 (take i ds) in
      let many : length hosts ≡ 0 + length before = omega (arith, length-map hosts host_seen, ap (λ (l : List Host). length l) are) in
      ap (λ (l : List Host). l ++ hosts_from all (length hosts) (get_or ds i d ∷ [])) are
      ∙ ap (λ (m : ℕ). before ++ hosts_from all m (get_or ds i d ∷ [])) many
      ∙ sym (hosts_from-append 0 (take i ds) (get_or ds i d ∷ []))
      ∙ ap (hosts_from all 0) (sym (take_more ds i d inside))
