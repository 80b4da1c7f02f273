-- The setup of a schedule is orderly: what a declaration owes to those before it says so.
use Rattle.std.proofs.Common.{◌≡◌, ◌≢◌, ℕ, zero, suc, List, [], ◌∷◌, ◌++◌, Bool, true, false, length, refl, sym, ap, ◌∙◌, subst, arith}
use Rattle.std.specs.Prelude.{Option, Some, None, is_some, Ok, not, ◌||◌, ◌==◌, if◌then◌else◌, slice_get}
use Rattle.std.specs.List.{list_any}
use Rattle.std.proofs.lemmas.List.{append_assoc, append-nil}
use Rattle.std.proofs.lemmas.List.Folds.{list_any-append}
use Rattle.std.proofs.lemmas.Bool.{or_parts, eqb-false, eq-eqb}
use Rattle.mip_words.specs.Addresses.{prefix_of}
use Rattle.mip_words.specs.declared.address.Address.{Address}
use Rattle.mip_words.specs.declared.ids.LinkId.{LinkId}
use Rattle.mip_symbols.specs.Places.{members, AreFew}
use Rattle.mip_symbols.specs.declared.declaration.Declaration.{Declaration}
use Rattle.mip_symbols.specs.declared.declaration.Declaration.TheVariants as declare
use Rattle.mip_symbols.specs.declared.places.Sort.TheVariants as sorts
use Rattle.mip_symbols.specs.declared.reason.Reason.TheVariants as reasons
use Rattle.mip_links.specs.Table.{link_from, link_of}
use Rattle.mip_rules_agent.specs.Rules.{anycast_of}
use Rattle.mip_schedule.specs.Contents.{Content}
use Rattle.mip_schedule.specs.DeclarationTimes.{interface_of, has_interface, is_interface_taken, gives_prefix, is_on_link, is_full, has_no_room, misplaced, undeclared}
use Rattle.mip_schedule.specs.Lawful.{IsLawful}
use Rattle.mip_schedule.specs.Reading.{reading}
use Rattle.mip_schedule.proofs.FewLaws.{few_more, none_few}
use Rattle.mip_schedule.proofs.LawfulLaws.{read_so}
use Rattle.mip_history.specs.Setup.{Host, links_in, hosts_from, setup_of}
use Rattle.mip_history.proofs.Declarations.{passed}
use Rattle.mip_law_delivery.specs.Orderly.{IsOrderly}
use Rattle.mip_law_delivery.proofs.Reading.{AreDeclared, within_of, serves_mobile}
use Rattle.mip_law_delivery.proofs.Serving.{unserved}

-- as many hosts as nodes are declared
hosts_count : (all : List Declaration) (n : ℕ) (ds : List Declaration) → length (members sorts.Node ds) ≡ length (hosts_from all n ds)
unfolding members
hosts_count all n [] = refl
hosts_count all n (declare.Link name prefix ∷ ds) = hosts_count all n ds
hosts_count all n (declare.Agent name link address preference life room ∷ ds) = ap suc (hosts_count all (suc n) ds)
hosts_count all n (declare.Correspondent name link address room ∷ ds) = ap suc (hosts_count all (suc n) ds)
hosts_count all n (declare.Mobile name link address agent ∷ ds) = ap suc (hosts_count all (suc n) ds)
hosts_count all n (declare.Outsider name ∷ ds) = hosts_count all n ds
hosts_count all n (declare.Serve agent mobile ∷ ds) = hosts_count all n ds

-- the link of an address that was declared is found
link_found : (front rest : List Declaration) (n p i : ℕ) → gives_prefix p (slice_get (members sorts.Link front) i) ≡ true → is_some (link_from n (links_in (front ++ rest)) p) ≡ true
unfolding members
link_found [] rest n p i is = absurd cc
link_found (declare.Link name prefix ∷ front) rest n p zero is = ap (λ (b : Bool). let o : Option ℕ = (if b then Some n else link_from (suc n) (links_in (front ++ rest)) p) in is_some o) is
link_found (declare.Link name prefix ∷ front) rest n p (suc i) is = by (prefix.0 == p) (link_found front rest (suc n) p i is)
  where
    by : (b : Bool) → is_some (link_from (suc n) (links_in (front ++ rest)) p) ≡ true → is_some (let o : Option ℕ = (if b then Some n else link_from (suc n) (links_in (front ++ rest)) p) in o) ≡ true
    by true more = refl
    by false more = more
link_found (declare.Agent name link address preference life room ∷ front) rest n p i is = link_found front rest n p i is
link_found (declare.Correspondent name link address room ∷ front) rest n p i is = link_found front rest n p i is
link_found (declare.Mobile name link address agent ∷ front) rest n p i is = link_found front rest n p i is
link_found (declare.Outsider name ∷ front) rest n p i is = link_found front rest n p i is
link_found (declare.Serve agent mobile ∷ front) rest n p i is = link_found front rest n p i is

anycast_interface : (a : ℕ) → interface_of (anycast_of (record { 0 = a })) ≡ 18302628885633695742
anycast_interface a = omega arith

-- a node's address is on its link; and neither an address before nor a home-agents anycast address has its last 64 bits
record IsPlaced (before : List Declaration) (a : Address) : Type 0 where
  link : LinkId
  on : is_on_link before link a ≡ true
  apart : (interface_of a.0 == 18302628885633695742) ≡ false
  free : list_any (has_interface (interface_of a.0)) before ≡ false

placed : (before : List Declaration) (l : LinkId) (a : Address) → misplaced before l a ≡ None → IsPlaced before a
unfolding misplaced is_interface_taken
placed before l a e = by (is_on_link before l a) (interface_of a.0 == 18302628885633695742) (list_any (has_interface (interface_of a.0)) before) refl refl refl e
  where
    by : (x y z : Bool) → is_on_link before l a ≡ x → (interface_of a.0 == 18302628885633695742) ≡ y → list_any (has_interface (interface_of a.0)) before ≡ z → (if not x || (y || z) then Some reasons.Clash else None) ≡ None → IsPlaced before a
    by false y z p r q e = absurd cc
    by true true z p r q e = absurd cc
    by true false true p r q e = absurd cc
    by true false false p r q e = record { link = l; on = p; apart = r; free = q }

module _ (all : List Declaration) (stand : (before : List Declaration) (d : Declaration) (after : List Declaration) → all ≡ before ++ d ∷ after → undeclared before d ≡ None) where
  -- a host is declared behind these
  record IsFrom (front : List Declaration) (a : Address) : Type 0 where
    more : List Declaration
    rest : List Declaration
    whole : all ≡ (front ++ more) ++ rest
    there : IsPlaced (front ++ more) a

  first : (front : List Declaration) (d : Declaration) (ds : List Declaration) (a : Address) → all ≡ front ++ d ∷ ds → IsPlaced front a → IsFrom front a
  first front d ds a whole is = record {
    more = [];
    rest = d ∷ ds;
    whole = whole ∙ ap (λ (l : List Declaration). l ++ d ∷ ds) (sym (append-nil front));
    there = subst (λ (l : List Declaration). IsPlaced l a) (sym (append-nil front)) is;
  }

  later : (front : List Declaration) (d : Declaration) (a : Address) → IsFrom (front ++ d ∷ []) a → IsFrom front a
  later front d a f = record {
    more = d ∷ f.more;
    rest = f.rest;
    whole = f.whole ∙ ap (λ (l : List Declaration). l ++ f.rest) (append_assoc front (d ∷ []) f.more);
    there = subst (λ (l : List Declaration). IsPlaced l a) (append_assoc front (d ∷ []) f.more) f.there;
  }

  next : (front : List Declaration) (d : Declaration) (ds : List Declaration) → all ≡ front ++ d ∷ ds → all ≡ (front ++ d ∷ []) ++ ds
  next front d ds whole = whole ∙ sym (append_assoc front (d ∷ []) ds)

  some_host : (a b : Host) → (let o : Option Host = Some a in o) ≡ Some b → a.address ≡ b.address
  some_host a b e = let same : a ≡ b = cc in ap (λ (h : Host). h.address) same

  host_from : (front ds : List Declaration) (n i : ℕ) (h : Host) → all ≡ front ++ ds → slice_get (hosts_from all n ds) i ≡ Some h → IsFrom front h.address
  unfolding undeclared
  host_from front [] n i h whole is = absurd cc
  host_from front (declare.Link name prefix ∷ ds) n i h whole is =
      later front (declare.Link name prefix) h.address (host_from (front ++ declare.Link name prefix ∷ []) ds n i h (next front _ ds whole) is)
  host_from front (declare.Outsider name ∷ ds) n i h whole is =
      later front (declare.Outsider name) h.address (host_from (front ++ declare.Outsider name ∷ []) ds n i h (next front _ ds whole) is)
  host_from front (declare.Serve agent mobile ∷ ds) n i h whole is =
      later front (declare.Serve agent mobile) h.address (host_from (front ++ declare.Serve agent mobile ∷ []) ds n i h (next front _ ds whole) is)
  host_from front (declare.Agent name link address preference life room ∷ ds) n zero h whole is =
      subst (IsFrom front) (some_host _ h is)
      (first front (declare.Agent name link address preference life room) ds address whole
      (placed front link address (passed (is_full 32 (members sorts.Node front)) (misplaced front link address) (stand front (declare.Agent name link address preference life room) ds whole))))
  host_from front (declare.Correspondent name link address room ∷ ds) n zero h whole is =
      subst (IsFrom front) (some_host _ h is)
      (first front (declare.Correspondent name link address room) ds address whole
      (placed front link address (passed (is_full 32 (members sorts.Node front)) (misplaced front link address) (stand front (declare.Correspondent name link address room) ds whole))))
  host_from front (declare.Mobile name link address agent ∷ ds) n zero h whole is =
      subst (IsFrom front) (some_host _ h is)
      (first front (declare.Mobile name link address agent) ds address whole
      (placed front link address (passed (has_no_room front) (misplaced front link address) (stand front (declare.Mobile name link address agent) ds whole))))
  host_from front (declare.Agent name link address preference life room ∷ ds) n (suc i) h whole is =
      later front (declare.Agent name link address preference life room) h.address
      (host_from (front ++ declare.Agent name link address preference life room ∷ []) ds (suc n) i h (next front _ ds whole) is)
  host_from front (declare.Correspondent name link address room ∷ ds) n (suc i) h whole is =
      later front (declare.Correspondent name link address room) h.address (host_from (front ++ declare.Correspondent name link address room ∷ []) ds (suc n) i h (next front _ ds whole) is)
  host_from front (declare.Mobile name link address agent ∷ ds) n (suc i) h whole is =
      later front (declare.Mobile name link address agent) h.address (host_from (front ++ declare.Mobile name link address agent ∷ []) ds (suc n) i h (next front _ ds whole) is)

  linked : (n : ℕ) (h : Host) → slice_get (hosts_from all 0 all) n ≡ Some h → is_some (link_of (links_in all) h.address.0) ≡ true
  unfolding is_on_link
  linked n h is =
      let f = host_from [] all 0 n h refl is in
      let placed = f.there in
      let link = placed.link in
      subst (λ (l : List Declaration). is_some (link_of (links_in l) h.address.0) ≡ true) (sym f.whole) (link_found f.more f.rest 0 (prefix_of h.address.0) link.0 placed.on)

  -- a host has another address than the declaration before it
  other_than : (front : List Declaration) (d : Declaration) (a b : Address) → ((i : ℕ) → has_interface i d ≡ (interface_of a.0 == i)) → IsFrom (front ++ d ∷ []) b → a.0 ≢ b.0
  other_than front d a b has f same =
      let placed = f.there in
      let i : ℕ = interface_of b.0 in
      let split = or_parts (list_any (has_interface i) (front ++ d ∷ [])) (list_any (has_interface i) f.more) (sym (list_any-append (has_interface i) (front ++ d ∷ []) f.more) ∙ placed.free) in
      let last = or_parts (list_any (has_interface i) front) (list_any (has_interface i) (d ∷ [])) (sym (list_any-append (has_interface i) front (d ∷ [])) ∙ split.0) in
      let own = or_parts (has_interface i d) false last.1 in
      absurd (let both : true ≡ false = sym (eq-eqb (interface_of a.0) i (ap interface_of same)) ∙ sym (has i) ∙ own.0 in cc)

  -- the place of a host that a declaration gives, and of those behind it
  at_node : (front : List Declaration) (d : Declaration) (ds : List Declaration) (a : Address) → ((i : ℕ) → has_interface i d ≡ (interface_of a.0 == i)) → (n : ℕ) (own : Host) → own.address ≡ a → all ≡ front ++ d ∷ ds
      → (i j : ℕ) (g h : Host) → slice_get (own ∷ hosts_from all (suc n) ds) i ≡ Some g → slice_get (own ∷ hosts_from all (suc n) ds) j ≡ Some h → g.address.0 ≡ h.address.0
      → ((i j : ℕ) → slice_get (hosts_from all (suc n) ds) i ≡ Some g → slice_get (hosts_from all (suc n) ds) j ≡ Some h → i ≡ j) → i ≡ j
  at_node front d ds a has n own is whole zero zero g h p q same again = refl
  at_node front d ds a has n own is whole zero (suc j) g h p q same again =
      absurd (other_than front d a h.address has (host_from (front ++ d ∷ []) ds (suc n) j h (next front d ds whole) q) (ap (λ (x : Address). x.0) (sym is ∙ some_host own g p) ∙ same))
  at_node front d ds a has n own is whole (suc i) zero g h p q same again =
      absurd (other_than front d a g.address has (host_from (front ++ d ∷ []) ds (suc n) i g (next front d ds whole) p) (ap (λ (x : Address). x.0) (sym is ∙ some_host own h q) ∙ sym same))
  at_node front d ds a has n own is whole (suc i) (suc j) g h p q same again = ap suc (again i j p q)

  differs : (front ds : List Declaration) (n i j : ℕ) (g h : Host) → all ≡ front ++ ds → slice_get (hosts_from all n ds) i ≡ Some g → slice_get (hosts_from all n ds) j ≡ Some h → g.address.0 ≡ h.address.0 → i ≡ j
  differs front [] n i j g h whole p q same = absurd cc
  differs front (declare.Link name prefix ∷ ds) n i j g h whole p q same = differs (front ++ declare.Link name prefix ∷ []) ds n i j g h (next front _ ds whole) p q same
  differs front (declare.Outsider name ∷ ds) n i j g h whole p q same = differs (front ++ declare.Outsider name ∷ []) ds n i j g h (next front _ ds whole) p q same
  differs front (declare.Serve agent mobile ∷ ds) n i j g h whole p q same = differs (front ++ declare.Serve agent mobile ∷ []) ds n i j g h (next front _ ds whole) p q same
  differs front (declare.Agent name link address preference life room ∷ ds) n i j g h whole p q same =
      at_node front (declare.Agent name link address preference life room) ds address (λ k. refl) n _ refl whole i j g h p q same
      (λ i j p q. differs (front ++ declare.Agent name link address preference life room ∷ []) ds (suc n) i j g h (next front _ ds whole) p q same)
  differs front (declare.Correspondent name link address room ∷ ds) n i j g h whole p q same =
      at_node front (declare.Correspondent name link address room) ds address (λ k. refl) n _ refl whole i j g h p q same
      (λ i j p q. differs (front ++ declare.Correspondent name link address room ∷ []) ds (suc n) i j g h (next front _ ds whole) p q same)
  differs front (declare.Mobile name link address agent ∷ ds) n i j g h whole p q same =
      at_node front (declare.Mobile name link address agent) ds address (λ k. refl) n _ refl whole i j g h p q same
      (λ i j p q. differs (front ++ declare.Mobile name link address agent ∷ []) ds (suc n) i j g h (next front _ ds whole) p q same)

  -- no host has a home-agents anycast address
  unlike : (m : ℕ) (a : Host) (b : Address) → slice_get (hosts_from all 0 all) m ≡ Some a → a.address.0 ≢ anycast_of b
  unlike m a b is same =
      let f = host_from [] all 0 m a refl is in
      let placed = f.there in
      eqb-false (interface_of a.address.0) 18302628885633695742 placed.apart (ap interface_of same ∙ anycast_interface b.0)

-- they are few
few_of : (content : Content) → AreDeclared content → AreFew content.declarations
few_of content declared = by [] content.declarations refl none_few
  where
    by : (front ds : List Declaration) → content.declarations ≡ front ++ ds → AreFew front → AreFew content.declarations
    by front [] whole few = subst AreFew (sym (whole ∙ append-nil front)) few
    by front (d ∷ ds) whole few =
        let is = declared front d ds whole in by (front ++ d ∷ []) ds (whole ∙ sym (append_assoc front (d ∷ []) ds)) (few_more front d few is.free)

orderly_declared : (content : Content) → AreDeclared content → AreFew content.declarations → IsOrderly (setup_of content)
orderly_declared content declared few =
    let within = within_of content declared in
    let all : List Declaration = content.declarations in
    let stand : (before : List Declaration) (d : Declaration) (after : List Declaration) → all ≡ before ++ d ∷ after → undeclared before d ≡ None =
    λ before d after whole. (let x = declared before d after whole in x.free) in
    record {
      few = (let count = hosts_count all 0 all in omega (arith, few.nodes, count));
      prefixes = within.prefixes;
      routable = within.routable;
      linked = λ n host is. linked all stand n host is;
      differ = λ m n a b p q same. differs all stand [] all 0 m n a b refl p q same;
      unlike = λ m n a b p q. unlike all stand m a b.address p;
      unserved = λ n own preference life room serves is.
          unserved all (serves_mobile content declared) (λ m n a b p q same. differs all stand [] all 0 m n a b refl p q same) n own preference life room serves is;
    }

pub orderly_of : (content : Content) → IsLawful content → AreFew content.declarations → IsOrderly (setup_of content)
orderly_of content lawful few = orderly_declared content lawful.declarations few

-- so is the setup of a text that is read
pub orderly_text : (text : List ℕ) (content : Content) → reading text ≡ Ok content → IsOrderly (setup_of content)
orderly_text text content read = let so = read_so text content read in orderly_declared content so.declarations (few_of content so.declarations)
