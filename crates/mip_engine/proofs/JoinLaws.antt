-- Each node of a schedule finds its link and its address free.
use Rattle.std.proofs.Common.{◌≡◌, ℕ, zero, suc, ◌+◌, ◌<◌, ◌≤◌, ◌^◌, List, [], ◌∷◌, ◌++◌, length, Bool, true, false, refl, sym, ap, ◌∙◌, subst, arith, drop, Option, option_map, length-append}
use Rattle.std.proofs.lemmas.Bool.{or_parts}
use Rattle.std.proofs.lemmas.Bool.Decides.{nat_tests}
use Rattle.std.proofs.lemmas.List.{append_assoc, append-nil, length-map, take-append-drop}
use Rattle.std.specs.Prelude.{Some, None, is_some, not, ◌||◌, ◌==◌, map, take, get_or, slice_get, if◌then◌else◌}
use Rattle.std.specs.List.{list_any}
use Rattle.mip_words.specs.Addresses.{prefix_of}
use Rattle.mip_words.specs.declared.prefix.Prefix.{Prefix}
use Rattle.mip_words.specs.declared.ids.LinkId.{LinkId}
use Rattle.mip_words.specs.EachAfter.{EachAfter}
use Rattle.mip_words.proofs.EachLaws.{each_at}
use Rattle.mip_links.specs.Table.{Asked, link_from, link_of}
use Rattle.mip_schedule.specs.Contents.{Content}
use Rattle.mip_schedule.specs.DeclarationTimes.{interface_of, has_interface, is_interface_taken, gives_prefix, is_on_link, is_full, has_no_room, misplaced, undeclared}
use Rattle.mip_schedule.specs.Lawful.{IsLawful}
use Rattle.mip_symbols.specs.Places.{AreFew, members}
use Rattle.mip_symbols.specs.declared.declaration.Declaration.{Declaration}
use Rattle.mip_symbols.specs.declared.declaration.Declaration.TheVariants as declare
use Rattle.mip_symbols.specs.declared.places.Sort.TheVariants as sorts
use Rattle.mip_symbols.specs.declared.reason.Reason.{Reason}
use Rattle.mip_symbols.specs.declared.reason.Reason.TheVariants as reasons
use Rattle.mip_history.specs.Setup.{Setup, Host, links_in, addresses_in, with_any, served_by, hosts_from, hosts_in, outsiders_in}
use Rattle.mip_history.specs.Setup.Kind.{Correspondent as OfCorrespondent, Agent as OfAgent, Mobile as OfMobile}
use Rattle.mip_history.specs.Runs.{Run}
use Rattle.mip_history.specs.Permitted.{is_first_agent, anycast_at, opened}
use Rattle.mip_engine.specs.Engines.{EngineSeen, new_engine}
use Rattle.mip_engine.specs.Joining.{has_address, is_anycast, IsPlaced, ArePlaced, hosts_of, anycast_for}
use Rattle.mip_engine.specs.Openings.{with_hosts, CanShare}
use Rattle.mip_engine.specs.Standing.{IsAt, node_in}
use Rattle.mip_engine.proofs.HostLaws.{hosts_from-append, links_in-append, outsiders_in-append, outsiders_more}
use Rattle.mip_engine.proofs.RoutableLaws.{IsHost, read_routable}
use Rattle.mip_engine.proofs.ShareLaws.{held_by_none, none_shares, none_anycast, others_share, first_alone, anycast_link, anycast_apart}
use Rattle.mip_provenance.proofs.ListLaws.{each_before}
use Rattle.mip_roles.specs.Nodes.{NodeSeen}
use Rattle.mip_roles.specs.Hosts.{IsFit}
use Rattle.mip_engine.specs.Engines.{IsFree}
use Rattle.mip_words.specs.declared.address.Address.{Address}
use Rattle.mip_words.specs.declared.ids.NodeId.{NodeId}
use Rattle.std.specs.List.{AllByRecursion}
use Rattle.std.specs.Option.{option_and_then}

-- nothing keeps a line from standing
pub passed : (b : Bool) (why : Reason) (o : Option Reason) → (if b then Some why else o) ≡ None → (b ≡ false) × (o ≡ None)
passed true why o e = absurd cc
passed false why o e = (refl, e)

-- links, nodes and outsiders are counted as they are declared
pub many_links : (ds : List Declaration) → length (members sorts.Link ds) ≡ length (links_in ds)
unfolding members
many_links [] = refl
many_links (declare.Link name prefix ∷ ds) = ap suc (many_links ds)
many_links (declare.Agent name link address preference life room ∷ ds) = many_links ds
many_links (declare.Correspondent name link address room ∷ ds) = many_links ds
many_links (declare.Mobile name link address agent ∷ ds) = many_links ds
many_links (declare.Serve agent mobile ∷ ds) = many_links ds
many_links (declare.Outsider name ∷ ds) = many_links ds

pub many_outsiders : (ds : List Declaration) → length (members sorts.Outsider ds) ≡ outsiders_in ds
unfolding members
many_outsiders [] = refl
many_outsiders (declare.Outsider name ∷ ds) = ap suc (many_outsiders ds)
many_outsiders (declare.Link name prefix ∷ ds) = many_outsiders ds
many_outsiders (declare.Agent name link address preference life room ∷ ds) = many_outsiders ds
many_outsiders (declare.Correspondent name link address room ∷ ds) = many_outsiders ds
many_outsiders (declare.Mobile name link address agent ∷ ds) = many_outsiders ds
many_outsiders (declare.Serve agent mobile ∷ ds) = many_outsiders ds

many_hosts : (all : List Declaration) (n : ℕ) (ds : List Declaration) → length (hosts_from all n ds) ≤ length (members sorts.Node ds)
unfolding members
many_hosts all n [] = omega arith
many_hosts all n (declare.Outsider name ∷ ds) = many_hosts all n ds
many_hosts all n (declare.Link name prefix ∷ ds) = many_hosts all n ds
many_hosts all n (declare.Agent name link address preference life room ∷ ds) = let more = many_hosts all (suc n) ds in omega arith
many_hosts all n (declare.Correspondent name link address room ∷ ds) = let more = many_hosts all (suc n) ds in omega arith
many_hosts all n (declare.Mobile name link address agent ∷ ds) = let more = many_hosts all (suc n) ds in omega arith
many_hosts all n (declare.Serve agent mobile ∷ ds) = many_hosts all n ds

-- so far there are no more outsiders than there may be
outsiders_fit : (ds : List Declaration) (i : ℕ) → AreFew ds → outsiders_in (take i ds) ≤ 8
outsiders_fit ds i few =
    let all : outsiders_in (take i ds) + outsiders_in (drop i ds) ≡ outsiders_in ds = sym (outsiders_in-append (take i ds) (drop i ds)) ∙ ap outsiders_in (take-append-drop i ds) in
    omega (arith, all, few.outsiders, many_outsiders ds)

pub one_fits : (ds : List Declaration) (i count : ℕ) (d : Declaration) → AreFew ds → i < length ds → count ≡ outsiders_in (take i ds)
    → count + outsiders_in (get_or ds i d ∷ []) < 2 ^ 8
one_fits ds i count d few inside is = omega (arith, is, outsiders_more ds i d inside, outsiders_fit ds (i + 1) few)

-- the link that a declaration names is found by its prefix
found_link : (ds : List Declaration) (i n prefix : ℕ) → gives_prefix prefix (slice_get (members sorts.Link ds) i) ≡ true → is_some (link_from n (links_in ds) prefix) ≡ true
unfolding members
found_link [] i n prefix e = absurd cc
found_link (declare.Link name p ∷ ds) zero n prefix e = ap (λ (b : Bool). is_some (if b then Some n else link_from (suc n) (links_in ds) prefix)) e
found_link (declare.Link name p ∷ ds) (suc i) n prefix e = by (p.0 == prefix) (found_link ds i (suc n) prefix e)
  where
    by : (b : Bool) → is_some (link_from (suc n) (links_in ds) prefix) ≡ true → is_some (if b then Some n else link_from (suc n) (links_in ds) prefix) ≡ true
    by true rest = refl
    by false rest = rest
found_link (declare.Outsider name ∷ ds) i n prefix e = found_link ds i n prefix e
found_link (declare.Agent name link address preference life room ∷ ds) i n prefix e = found_link ds i n prefix e
found_link (declare.Correspondent name link address room ∷ ds) i n prefix e = found_link ds i n prefix e
found_link (declare.Mobile name link address agent ∷ ds) i n prefix e = found_link ds i n prefix e
found_link (declare.Serve agent mobile ∷ ds) i n prefix e = found_link ds i n prefix e

more_links : (xs ys : List ℕ) (n prefix : ℕ) → is_some (link_from n xs prefix) ≡ true → is_some (link_from n (xs ++ ys) prefix) ≡ true
more_links [] ys n prefix e = absurd cc
more_links (x ∷ xs) ys n prefix e = by (x == prefix) e (λ e. more_links xs ys (suc n) prefix e)
  where
    by : (b : Bool) → is_some (if b then Some n else link_from (suc n) xs prefix) ≡ true
        → (is_some (link_from (suc n) xs prefix) ≡ true → is_some (link_from (suc n) (xs ++ ys) prefix) ≡ true)
        → is_some (if b then Some n else link_from (suc n) (xs ++ ys) prefix) ≡ true
    by true e rest = refl
    by false e rest = rest e

-- another interface is another address
other_address : (a b : ℕ) → (interface_of b == interface_of a) ≡ false → (a == b) ≡ false
other_address a b other = by (a == b) refl
  where
    by : (t : Bool) → (a == b) ≡ t → t ≡ false
    by false is = refl
    by true is =
        let same : a ≡ b = grind (arith, nat_tests, is) in
        let test : (interface_of b == interface_of b) ≡ false = subst (λ (x : ℕ). (interface_of b == interface_of x) ≡ false) same other in
        absurd (grind (arith, nat_tests, test))

no_address : (all : List Declaration) (n : ℕ) (ds : List Declaration) (a : ℕ) → list_any (has_interface (interface_of a)) ds ≡ false → list_any (has_address a) (hosts_from all n ds) ≡ false
no_address all n [] a e = refl
no_address all n (declare.Correspondent name link address room ∷ ds) a e =
    let p = or_parts _ _ e in
    ap (λ (b : Bool). b || list_any (has_address a) (hosts_from all (suc n) ds)) (other_address a address.0 p.0) ∙ no_address all (suc n) ds a p.1
no_address all n (declare.Outsider name ∷ ds) a e = no_address all n ds a e
no_address all n (declare.Link name prefix ∷ ds) a e = no_address all n ds a e
no_address all n (declare.Agent name link address preference life room ∷ ds) a e =
    let p = or_parts _ _ e in
    ap (λ (b : Bool). b || list_any (has_address a) (hosts_from all (suc n) ds)) (other_address a address.0 p.0) ∙ no_address all (suc n) ds a p.1
no_address all n (declare.Mobile name link address agent ∷ ds) a e =
    let p = or_parts _ _ e in
    ap (λ (b : Bool). b || list_any (has_address a) (hosts_from all (suc n) ds)) (other_address a address.0 p.0) ∙ no_address all (suc n) ds a p.1
no_address all n (declare.Serve agent mobile ∷ ds) a e = no_address all n ds a e

not_false : (b : Bool) → not b ≡ false → b ≡ true
not_false true e = refl
not_false false e = absurd cc

-- each declared address is routable
abbrev pub AreRoutable : List Declaration → Type 0
AreRoutable ds = AllByRecursion IsHost (addresses_in ds)

item_routable : (items : List Address) (i : ℕ) → AllByRecursion IsHost items → (o : Option Address) → slice_get items i ≡ o → (rest : List Address) → AllByRecursion IsHost rest → AllByRecursion IsHost (with_any o rest)
item_routable [] i all None is rest good = good
item_routable [] i all (Some a) is rest good = absurd cc
item_routable (x ∷ items) zero all None is rest good = absurd cc
item_routable (x ∷ items) zero all (Some a) is rest good = let same : x ≡ a = cc in (subst IsHost same all.0, good)
item_routable (x ∷ items) (suc i) all o is rest good = item_routable items i all.1 o is rest good

served_routable : (items : List Address) (n : ℕ) (ds : List Declaration) → AllByRecursion IsHost items → AllByRecursion IsHost (served_by items n ds)
served_routable items n [] all = tt
served_routable items n (declare.Correspondent name link address room ∷ ds) all = served_routable items n ds all
served_routable items n (declare.Outsider name ∷ ds) all = served_routable items n ds all
served_routable items n (declare.Link name prefix ∷ ds) all = served_routable items n ds all
served_routable items n (declare.Agent name link address preference life room ∷ ds) all = served_routable items n ds all
served_routable items n (declare.Mobile name link address agent ∷ ds) all = served_routable items n ds all
served_routable items n (declare.Serve agent mobile ∷ ds) all = by (n == agent.0) (served_routable items n ds all)
  where
    by : (b : Bool) → AllByRecursion IsHost (served_by items n ds) → AllByRecursion IsHost (if b then with_any (slice_get items mobile.0) (served_by items n ds) else served_by items n ds)
    by true rest = item_routable items mobile.0 all (slice_get items mobile.0) refl (served_by items n ds) rest
    by false rest = rest

-- a node that may stand is on a link, with an address of its own
placed : (all : List Declaration) (n : ℕ) (before after : List Declaration) (link : LinkId) (host : Host) → misplaced before link host.address ≡ None → IsFit host
    → IsPlaced (links_in (before ++ after)) (hosts_from all n before) host
unfolding misplaced is_on_link is_interface_taken
placed all n before after link host free fit =
    let p = or_parts _ _ (passed _ reasons.Clash None free).0 in
    let q = or_parts _ _ p.1 in
    record {
      on_link =
          subst (λ (l : List ℕ). is_some (link_of l host.address.0) ≡ true) (sym (links_in-append before after))
          (more_links (links_in before) (links_in after) 0 (prefix_of host.address.0) (found_link before link.0 0 (prefix_of host.address.0) (not_false _ p.0)));
      own = no_address all n before host.address.0 q.1;
      apart = q.0;
      fit = fit;
    }

-- each declaration that stands, after those before it
abbrev pub MayStand : List Declaration → Type 0
MayStand all = (before : List Declaration) (d : Declaration) (after : List Declaration) → all ≡ before ++ d ∷ after → undeclared before d ≡ None

-- what is declared next
module _ (all : List Declaration) (routable : AreRoutable all) where
  abbrev Placed : List Declaration → List Declaration → Type 0
  Placed front ds = EachAfter (IsPlaced (links_in all)) (hosts_from all 0 front) (hosts_from all (length (hosts_from all 0 front)) ds)

  front_more : (front : List Declaration) (d : Declaration) → hosts_from all 0 (front ++ d ∷ []) ≡ hosts_from all 0 front ++ hosts_from all (length (hosts_from all 0 front)) (d ∷ [])
  front_more front d =
      let same : 0 + length (hosts_from all 0 front) ≡ length (hosts_from all 0 front) = omega arith in
      hosts_from-append all 0 front (d ∷ []) ∙ ap (λ (n : ℕ). hosts_from all 0 front ++ hosts_from all n (d ∷ [])) same

  -- a declaration of no node
  no_more : (front ds : List Declaration) (d : Declaration) → hosts_from all (length (hosts_from all 0 front)) (d ∷ []) ≡ [] → Placed (front ++ d ∷ []) ds → EachAfter (IsPlaced (links_in all)) (hosts_from all 0 front) (hosts_from all (length (hosts_from all 0 front)) ds)
  no_more front ds d none rest =
      subst (λ (hs : List Host). EachAfter (IsPlaced (links_in all)) hs (hosts_from all (length hs) ds))
      (front_more front d ∙ ap (λ (hs : List Host). hosts_from all 0 front ++ hs) none ∙ append-nil (hosts_from all 0 front)) rest

  -- one of a node
  one_more : (front ds : List Declaration) (d : Declaration) (host : Host) → hosts_from all (length (hosts_from all 0 front)) (d ∷ []) ≡ host ∷ [] → Placed (front ++ d ∷ []) ds
      → EachAfter (IsPlaced (links_in all)) (hosts_from all 0 front ++ host ∷ []) (hosts_from all (suc (length (hosts_from all 0 front))) ds)
  one_more front ds d host one rest =
      let whole : hosts_from all 0 (front ++ d ∷ []) ≡ hosts_from all 0 front ++ host ∷ [] = front_more front d ∙ ap (λ (hs : List Host). hosts_from all 0 front ++ hs) one in
      let many : length (hosts_from all 0 front ++ host ∷ []) ≡ suc (length (hosts_from all 0 front)) = omega (arith, length-append (hosts_from all 0 front) (host ∷ [])) in
      subst (λ (n : ℕ). EachAfter (IsPlaced (links_in all)) (hosts_from all 0 front ++ host ∷ []) (hosts_from all n ds)) many
      (subst (λ (hs : List Host). EachAfter (IsPlaced (links_in all)) hs (hosts_from all (length hs) ds)) whole rest)

  placed_more : (front ds : List Declaration) (d : Declaration) → all ≡ front ++ d ∷ ds → AllByRecursion IsHost (addresses_in (d ∷ [])) → undeclared front d ≡ None → Placed (front ++ d ∷ []) ds → Placed front (d ∷ ds)
  unfolding undeclared
  placed_more front ds (declare.Correspondent name link address room) whole good free rest =
      let d : Declaration = declare.Correspondent name link address room in
      let host : Host = record { address = address; kind = OfCorrespondent room } in (
        subst (λ (l : List Declaration). IsPlaced (links_in l) (hosts_from all 0 front) host) (sym whole)
            (placed all 0 front (d ∷ ds) link host (passed (is_full 32 (members sorts.Node front)) reasons.Limit (misplaced front link address) free).1 tt),
        one_more front ds d host refl rest,
      )
  placed_more front ds (declare.Outsider name) whole good free rest = no_more front ds (declare.Outsider name) refl rest
  placed_more front ds (declare.Link name prefix) whole good free rest = no_more front ds (declare.Link name prefix) refl rest
  placed_more front ds (declare.Agent name link address preference life room) whole good free rest =
      let d : Declaration = declare.Agent name link address preference life room in
      let host : Host = record { address = address; kind = OfAgent preference life room (served_by (addresses_in all) (length (hosts_from all 0 front)) all) } in (
        subst (λ (l : List Declaration). IsPlaced (links_in l) (hosts_from all 0 front) host) (sym whole)
            (placed all 0 front (d ∷ ds) link host (passed (is_full 32 (members sorts.Node front)) reasons.Limit (misplaced front link address) free).1
            (served_routable (addresses_in all) (length (hosts_from all 0 front)) all routable)),
        one_more front ds d host refl rest,
      )
  placed_more front ds (declare.Mobile name link address agent) whole good free rest =
      let d : Declaration = declare.Mobile name link address agent in
      let host : Host = record { address = address; kind = OfMobile (option_and_then (λ (g : NodeId). slice_get (addresses_in all) g.0) agent) } in (
        subst (λ (l : List Declaration). IsPlaced (links_in l) (hosts_from all 0 front) host) (sym whole)
            (placed all 0 front (d ∷ ds) link host (passed (has_no_room front) reasons.Limit (misplaced front link address) free).1 good.0),
        one_more front ds d host refl rest,
      )
  placed_more front ds (declare.Serve agent mobile) whole good free rest = no_more front ds (declare.Serve agent mobile) refl rest

  placed_from : MayStand all → ((before : List Declaration) (d : Declaration) (after : List Declaration) → all ≡ before ++ d ∷ after → AllByRecursion IsHost (addresses_in (d ∷ [])))
      → (front ds : List Declaration) → all ≡ front ++ ds → Placed front ds
  placed_from stand good front [] whole = tt
  placed_from stand good front (d ∷ ds) whole =
      placed_more front ds d whole (good front d ds whole) (stand front d ds whole) (placed_from stand good (front ++ d ∷ []) ds (whole ∙ sym (append_assoc front (d ∷ []) ds)))

-- declarations whose addresses are routable, each by itself
all_routable : (all front ds : List Declaration) → all ≡ front ++ ds → ((before : List Declaration) (d : Declaration) (after : List Declaration) → all ≡ before ++ d ∷ after → AllByRecursion IsHost (addresses_in (d ∷ [])))
    → AllByRecursion IsHost (addresses_in ds)
all_routable all front [] whole good = tt
all_routable all front (d ∷ ds) whole good = by d (good front d ds whole) (all_routable all (front ++ d ∷ []) ds (whole ∙ sym (append_assoc front (d ∷ []) ds)) good)
  where
    by : (d : Declaration) → AllByRecursion IsHost (addresses_in (d ∷ [])) → AllByRecursion IsHost (addresses_in ds) → AllByRecursion IsHost (addresses_in (d ∷ ds))
    by (declare.Correspondent name link address room) one rest = (one.0, rest)
    by (declare.Agent name link address preference life room) one rest = (one.0, rest)
    by (declare.Mobile name link address agent) one rest = (one.0, rest)
    by (declare.Link name prefix) one rest = rest
    by (declare.Outsider name) one rest = rest
    by (declare.Serve agent mobile) one rest = rest

pub nodes_placed : (c : Content) → IsLawful c → AreFew c.declarations → ArePlaced (links_in c.declarations) (hosts_in c.declarations)
nodes_placed c lawful few =
    let good : (before : List Declaration) (d : Declaration) (after : List Declaration) → c.declarations ≡ before ++ d ∷ after → AllByRecursion IsHost (addresses_in (d ∷ [])) =
    λ before d after whole. read_routable before d ((lawful.declarations before d after whole).line) in
    let stand : MayStand c.declarations = λ before d after whole. (lawful.declarations before d after whole).free in
    record {
      few = let many = many_hosts c.declarations 0 c.declarations in omega (arith, many, few.nodes);
      each = placed_from c.declarations (all_routable c.declarations [] c.declarations refl good) stand good [] c.declarations refl;
    }

some_is : (x y : NodeSeen) → ◌≡◌ {A = Option NodeSeen} (Some x) (Some y) → x ≡ y
some_is x y e = cc

-- the nodes of an engine are those that it was opened with
pub hosts_at : (e : EngineSeen) (s : Setup) (run : Run) → IsAt e s run → hosts_of e.nodes ≡ s.hosts
hosts_at e s run at = by e.nodes s.hosts (node_in s run) at.nodes (λ m h. refl)
  where
    by : (xs : List NodeSeen) (ys : List Host) (f : ℕ → Host → NodeSeen) → ((m : ℕ) → slice_get xs m ≡ option_map (f m) (slice_get ys m)) → ((m : ℕ) (h : Host) → (f m h).host ≡ h) → hosts_of xs ≡ ys
    by [] [] f each own = refl
    by [] (y ∷ ys) f each own = absurd (cc (each 0))
    by (x ∷ xs) [] f each own = absurd (cc (each 0))
    by (x ∷ xs) (y ∷ ys) f each own =
        let first : x ≡ f 0 y = some_is x (f 0 y) (each 0) in
        ap (λ (h : Host). h ∷ hosts_of xs) (ap (λ (c : NodeSeen). c.host) first ∙ own 0 y) ∙ ap (λ (l : List Host). y ∷ l) (by xs ys (λ m. f (suc m)) (λ m. each (suc m)) (λ m. own (suc m)))

-- the next node finds the engine with room, its link there and its address free
module _ (e : EngineSeen) (s : Setup) (front rest : List Host) (host : Host) (placed : ArePlaced s.links (front ++ host ∷ rest))
    (at : IsAt e (with_hosts front s) (opened (with_hosts front s))) where
  pub joins_few : length e.nodes < 32
  joins_few = omega (arith, at.count, placed.few, length-append front (host ∷ rest))

  pub is_placed : IsPlaced s.links front host
  is_placed = each_at (IsPlaced s.links) [] front host rest placed.each

  -- those before it have no anycast addresses
  front_apart : list_any (λ h. is_anycast h.address.0) front ≡ false
  front_apart = apart_from [] front (each_before (IsPlaced s.links) [] front (host ∷ rest) placed.each)
    where
      apart_from : (before hosts : List Host) → EachAfter (IsPlaced s.links) before hosts → list_any (λ h. is_anycast h.address.0) hosts ≡ false
      apart_from before [] all = refl
      apart_from before (h ∷ hosts) all = ap (λ (b : Bool). b || list_any (λ x. is_anycast x.address.0) hosts) all.0.apart ∙ apart_from (before ++ h ∷ []) hosts all.1

  pub joins_free : IsFree e.net host.address.0
  joins_free = (
    ap (λ (q : Asked). is_some (link_of q.links host.address.0)) at.asked ∙ is_placed.on_link,
    ap (λ (q : Asked). q.holder host.address.0) at.asked
        ∙ held_by_none s.links [] front host.address.0 is_placed.own (none_shares s.links front host.address.0 is_placed.apart),
  )

  pub joins_share : CanShare e.net host.address.0 (anycast_for e.net.links (hosts_of e.nodes) host)
  joins_share =
      subst (λ (l : List ℕ). CanShare e.net host.address.0 (anycast_for l (hosts_of e.nodes) host)) (sym (ap (λ (q : Asked). q.links) at.asked))
      (subst (λ (l : List Host). CanShare e.net host.address.0 (anycast_for s.links l host)) (sym (hosts_at e (with_hosts front s) (opened (with_hosts front s)) at))
      (by (is_first_agent s.links front host.address host.kind) refl))
    where
      by : (b : Bool) → is_first_agent s.links front host.address host.kind ≡ b → CanShare e.net host.address.0 (if b then Some (anycast_at host.address) else None)
      by false is = tt
      by true is = (
        (
          ap (λ (q : Asked). is_some (link_of q.links (anycast_at host.address).0)) at.asked ∙ ap is_some (anycast_link s.links host.address) ∙ is_placed.on_link,
          ap (λ (q : Asked). q.holder (anycast_at host.address).0) at.asked
              ∙ held_by_none s.links [] front (anycast_at host.address).0 (none_anycast front host.address front_apart)
              (others_share s.links front host.address is_placed.on_link (first_alone s.links front host.address host.kind is)),
        ),
        λ same. anycast_apart host.address (is_placed.apart) same,
      )

-- an engine to which nothing has happened, as the start of a setup
abbrev pub setup_at : EngineSeen → List Host → Setup
setup_at e hosts = record { seed = e.seed; start = e.moment; links = e.net.links; hosts = hosts; outsiders = e.outsiders; numbers = e.numbers }

pub is_new : (e : EngineSeen) (seed : List ℕ) (start : ℕ) (links : List ℕ) (outsiders numbers : ℕ) → e ≡ new_engine seed start links outsiders numbers
    → e ≡ new_engine e.seed e.moment e.net.links e.outsiders e.numbers
is_new e seed start links outsiders numbers is = is ∙ sym (ap (λ (x : EngineSeen). new_engine x.seed x.moment x.net.links x.outsiders x.numbers) is)

-- the links of a schedule are few
pub links_few : (xs : List Prefix) (ds : List Declaration) → map (λ (p : Prefix). p.0) xs ≡ links_in ds → AreFew ds → length xs ≤ 32
links_few xs ds is few = omega (arith, length-map xs (λ (p : Prefix). p.0), ap (λ (l : List ℕ). length l) is, many_links ds, few.links)
