-- What a schedule declares, declaration by declaration.
use Rattle.std.proofs.Common.{◌≡◌, ℕ, suc, ◌+◌, ◌<◌, ◌≤◌, List, [], ◌∷◌, ◌++◌, length, refl, sym, ap, ◌∙◌, arith}
use Rattle.std.proofs.lemmas.List.{take_more, length-map}
use Rattle.std.specs.Prelude.{map, take, get_or}
use Rattle.mip_words.specs.declared.prefix.Prefix.{Prefix}
use Rattle.mip_symbols.specs.Places.{members, AreFew}
use Rattle.mip_symbols.specs.declared.declaration.Declaration.{Declaration}
use Rattle.mip_symbols.specs.declared.declaration.Declaration.TheVariants as declare
use Rattle.mip_symbols.specs.declared.places.Sort.TheVariants as sorts
use Rattle.mip_schedule.specs.Contents.{Content}
use Rattle.mip_schedule.specs.Versions.{numbers_of_version}
use Rattle.mip_history.specs.Setup.{Setup, Host, links_in, hosts_in, outsiders_in, setup_of}
use Rattle.mip_history.proofs.Declarations.{hosts_count}
use Rattle.mip_afresh.specs.Tellings.{host_seen}
use Rattle.mip_afresh.specs.declared.host.Host as declared_host

links_in-append : (xs ys : List Declaration) → links_in (xs ++ ys) ≡ links_in xs ++ links_in ys
links_in-append [] ys = refl
links_in-append (declare.Link name prefix ∷ xs) ys = ap (λ (l : List ℕ). prefix.0 ∷ l) (links_in-append xs ys)
links_in-append (_ ∷ xs) ys = links_in-append xs ys

pub links_more : (ds : List Declaration) (i : ℕ) (d : Declaration) → i < length ds → links_in (take i ds) ++ links_in (get_or ds i d ∷ []) ≡ links_in (take (i + 1) ds)
links_more ds i d inside = sym (links_in-append (take i ds) (get_or ds i d ∷ [])) ∙ ap links_in (sym (take_more ds i d inside))

-- as many as are declared
links_counted : (ds : List Declaration) → length (members sorts.Link ds) ≡ length (links_in ds)
unfolding members
links_counted [] = refl
links_counted (declare.Link name prefix ∷ ds) = ap suc (links_counted ds)
links_counted (_ ∷ ds) = links_counted ds

pub outsiders_counted : (ds : List Declaration) → length (members sorts.Outsider ds) ≡ outsiders_in ds
unfolding members
outsiders_counted [] = refl
outsiders_counted (declare.Outsider name ∷ ds) = ap suc (outsiders_counted ds)
outsiders_counted (_ ∷ ds) = outsiders_counted ds

pub few_prefixes : (ds : List Declaration) (links : List Prefix) → AreFew ds → map (λ p. p.0) links ≡ links_in ds → length links ≤ 32
few_prefixes ds links few are =
    let listed : length (map (λ p. p.0) links) ≡ length (links_in ds) = ap (λ (l : List ℕ). length l) are in
    omega (arith, length-map links (λ p. p.0), listed, links_counted ds, few.links)

pub few_nodes : (ds : List Declaration) (hosts : List declared_host.Host) → AreFew ds → map host_seen hosts ≡ hosts_in ds → length hosts ≤ 32
few_nodes ds hosts few are =
    let listed : length (map host_seen hosts) ≡ length (hosts_in ds) = ap (λ (l : List Host). length l) are in
    omega (arith, length-map hosts host_seen, listed, hosts_count ds 0 ds, few.nodes)

-- what is declared, part by part
pub same_setting : (c : Content) (links : List ℕ) (hosts : List Host) (outsiders numbers : ℕ)
    → links ≡ links_in c.declarations → hosts ≡ hosts_in c.declarations → outsiders ≡ outsiders_in c.declarations → numbers ≡ numbers_of_version c.version
    → (let s : Setup = record { seed = c.seed; start = c.start.0; links = links; hosts = hosts; outsiders = outsiders; numbers = numbers } in s) ≡ setup_of c
same_setting c links hosts outsiders numbers are_links are_hosts are_outsiders are_numbers = cc
