-- What a schedule that keeps to its declarations names is declared, and so is what stands in its permitted history.
use Rattle.std.proofs.Common.{◌≡◌, ℕ, suc, ◌<◌, ◌≤◌, List, [], ◌∷◌, ◌++◌, Bool, true, false, length, refl, sym, ap, ◌∙◌, arith}
use Rattle.std.specs.Prelude.{not, ◌||◌, Option, Some, None, slice_get, if◌then◌else◌}
use Rattle.std.specs.List.{AllByRecursion}
use Rattle.std.proofs.lemmas.List.{append_assoc}
use Rattle.std.proofs.lemmas.Option.{slice_get_within}
use Rattle.mip_words.specs.Addresses.{prefix_of}
use Rattle.mip_words.specs.declared.address.Address.{Address}
use Rattle.mip_words.specs.declared.ids.LinkId.{LinkId}
use Rattle.mip_schedule.specs.Contents.{Content}
use Rattle.mip_schedule.specs.DeclarationTimes.{gives_prefix, is_on_link, is_interface_taken, is_full, has_no_room, misplaced, undeclared}
use Rattle.mip_schedule.specs.Lawful.{IsWithin, IsLawful}
use Rattle.mip_schedule.specs.Versions.{is_numbered}
use Rattle.mip_symbols.specs.Places.{members, AreFew}
use Rattle.mip_symbols.specs.declared.declaration.Declaration.{Declaration}
use Rattle.mip_symbols.specs.declared.declaration.Declaration.TheVariants as declare
use Rattle.mip_schedule.specs.declared.event.Event.{Event}
use Rattle.mip_symbols.specs.declared.places.Sort.TheVariants as sorts
use Rattle.mip_symbols.specs.declared.reason.Reason.{Reason}
use Rattle.mip_symbols.specs.declared.reason.Reason.TheVariants as reasons
use Rattle.mip_history.specs.Setup.{links_in, hosts_from, outsiders_in, setup_of}
use Rattle.mip_history.specs.Permitted.{permitted}
use Rattle.mip_history.specs.Naming.{IsDeclared}
use Rattle.mip_history.proofs.Declaring.{IsOf}
use Rattle.mip_history.proofs.DeclaringRuns.{declared_run}

-- as many as are declared
links_count : (ds : List Declaration) → length (members sorts.Link ds) ≡ length (links_in ds)
unfolding members
links_count [] = refl
links_count (declare.Link name prefix ∷ ds) = ap suc (links_count ds)
links_count (declare.Agent name link address preference life room ∷ ds) = links_count ds
links_count (declare.Correspondent name link address room ∷ ds) = links_count ds
links_count (declare.Mobile name link address agent ∷ ds) = links_count ds
links_count (declare.Outsider name ∷ ds) = links_count ds
links_count (declare.Serve agent mobile ∷ ds) = links_count ds

pub hosts_count : (all : List Declaration) (n : ℕ) (ds : List Declaration) → length (members sorts.Node ds) ≡ length (hosts_from all n ds)
unfolding members
hosts_count all n [] = refl
hosts_count all n (declare.Link name prefix ∷ ds) = hosts_count all n ds
hosts_count all n (declare.Agent name link address preference life room ∷ ds) = ap suc (hosts_count all (suc n) ds)
hosts_count all n (declare.Correspondent name link address room ∷ ds) = ap suc (hosts_count all (suc n) ds)
hosts_count all n (declare.Mobile name link address agent ∷ ds) = ap suc (hosts_count all (suc n) ds)
hosts_count all n (declare.Outsider name ∷ ds) = hosts_count all n ds
hosts_count all n (declare.Serve agent mobile ∷ ds) = hosts_count all n ds

outsiders_count : (ds : List Declaration) → length (members sorts.Outsider ds) ≡ outsiders_in ds
unfolding members
outsiders_count [] = refl
outsiders_count (declare.Link name prefix ∷ ds) = outsiders_count ds
outsiders_count (declare.Agent name link address preference life room ∷ ds) = outsiders_count ds
outsiders_count (declare.Correspondent name link address room ∷ ds) = outsiders_count ds
outsiders_count (declare.Mobile name link address agent ∷ ds) = outsiders_count ds
outsiders_count (declare.Outsider name ∷ ds) = ap suc (outsiders_count ds)
outsiders_count (declare.Serve agent mobile ∷ ds) = outsiders_count ds

more_links : (front rest : List Declaration) → length (links_in front) ≤ length (links_in (front ++ rest))
more_links [] rest = omega arith
more_links (declare.Link name prefix ∷ front) rest = let more = more_links front rest in omega arith
more_links (declare.Agent name link address preference life room ∷ front) rest = more_links front rest
more_links (declare.Correspondent name link address room ∷ front) rest = more_links front rest
more_links (declare.Mobile name link address agent ∷ front) rest = more_links front rest
more_links (declare.Outsider name ∷ front) rest = more_links front rest
more_links (declare.Serve agent mobile ∷ front) rest = more_links front rest

-- a node stands on a link that is declared before it
some_link : (ds : List Declaration) (l : LinkId) (a : Address) → is_on_link ds l a ≡ true → 0 < length (links_in ds)
unfolding is_on_link
some_link ds l a = by (slice_get (members sorts.Link ds) l.0) refl
  where
    by : (o : Option Declaration) → slice_get (members sorts.Link ds) l.0 ≡ o → gives_prefix (prefix_of a.0) o ≡ true → 0 < length (links_in ds)
    by None is e = absurd cc
    by (Some d) is e = let within = slice_get_within (members sorts.Link ds) l.0 d is in omega (arith, within, links_count ds)

on_link : (ds : List Declaration) (l : LinkId) (a : Address) → misplaced ds l a ≡ None → 0 < length (links_in ds)
unfolding misplaced
on_link ds l a e = some_link ds l a (by (is_on_link ds l a) (is_interface_taken ds a) e)
  where
    by : (x y : Bool) → (if not x || y then Some reasons.Clash else None) ≡ None → x ≡ true
    by true y e = refl
    by false y e = absurd cc

-- behind a test of room
pub passed : (full : Bool) (o : Option Reason) → (if full then Some reasons.Limit else o) ≡ None → o ≡ None
passed true o e = absurd cc
passed false o e = e

-- each stands behind those before it
abbrev pub MayStand : List Declaration → Type 0
MayStand all = (before : List Declaration) (d : Declaration) (after : List Declaration) → all ≡ before ++ d ∷ after → undeclared before d ≡ None

module _ (all : List Declaration) (stand : MayStand all) where
  node_link : (front ds : List Declaration) (d : Declaration) → all ≡ front ++ d ∷ ds → 0 < length (links_in front) → 0 < length (links_in all)
  node_link front ds d whole some = let more = more_links front (d ∷ ds) in omega (arith, ap (λ (l : List Declaration). length (links_in l)) whole, more, some)

  need_link : (front ds : List Declaration) (n : ℕ) → all ≡ front ++ ds → 0 < length (hosts_from all n ds) → 0 < length (links_in all)
  unfolding undeclared
  need_link front [] n whole some = absurd (omega arith)
  need_link front (declare.Link name prefix ∷ ds) n whole some =
      need_link (front ++ declare.Link name prefix ∷ []) ds n (whole ∙ sym (append_assoc front (declare.Link name prefix ∷ []) ds)) some
  need_link front (declare.Outsider name ∷ ds) n whole some =
      need_link (front ++ declare.Outsider name ∷ []) ds n (whole ∙ sym (append_assoc front (declare.Outsider name ∷ []) ds)) some
  need_link front (declare.Serve agent mobile ∷ ds) n whole some =
      need_link (front ++ declare.Serve agent mobile ∷ []) ds n (whole ∙ sym (append_assoc front (declare.Serve agent mobile ∷ []) ds)) some
  need_link front (declare.Agent name link address preference life room ∷ ds) n whole some =
      node_link front ds (declare.Agent name link address preference life room) whole
      (on_link front link address (passed (is_full 32 (members sorts.Node front)) (misplaced front link address) (stand front (declare.Agent name link address preference life room) ds whole)))
  need_link front (declare.Correspondent name link address room ∷ ds) n whole some =
      node_link front ds (declare.Correspondent name link address room) whole
      (on_link front link address (passed (is_full 32 (members sorts.Node front)) (misplaced front link address) (stand front (declare.Correspondent name link address room) ds whole)))
  need_link front (declare.Mobile name link address agent ∷ ds) n whole some =
      node_link front ds (declare.Mobile name link address agent) whole
      (on_link front link address (passed (has_no_room front) (misplaced front link address) (stand front (declare.Mobile name link address agent) ds whole)))

module _ (c : Content) (lawful : IsLawful c) where
  within_from : (front es : List Event) → c.events ≡ front ++ es → AllByRecursion (IsWithin (is_numbered c.version) c.declarations) es
  within_from front [] whole = tt
  within_from front (e ∷ es) whole = ((lawful.events front e es whole).within, within_from (front ++ e ∷ []) es (whole ∙ sym (append_assoc front (e ∷ []) es)))

  module _ (few : AreFew c.declarations) where
    is_of : IsOf c.declarations (setup_of c)
    is_of = record {
      links = links_count c.declarations;
      nodes = hosts_count c.declarations 0 c.declarations;
      outsiders = outsiders_count c.declarations;
      few = let many = hosts_count c.declarations 0 c.declarations in omega (arith, many, few.nodes);
      linked = need_link c.declarations (λ before d after whole. (lawful.declarations before d after whole).free) [] c.declarations 0 refl;
    }

    pub permitted_declared : AllByRecursion (IsDeclared c.declarations) (permitted c)
    unfolding permitted
    permitted_declared = declared_run (is_numbered c.version) c.declarations (setup_of c) is_of c.events (within_from [] c.events refl)
