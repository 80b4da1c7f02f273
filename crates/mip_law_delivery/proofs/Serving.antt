-- No agent of a schedule serves its own address, since what it serves are homes of mobiles.
use Rattle.std.proofs.Common.{◌≡◌, ℕ, zero, suc, List, [], ◌∷◌, ◌++◌, Bool, true, false, refl, sym, ap, ◌∙◌, subst}
use Rattle.std.specs.Prelude.{Option, Some, None, ◌==◌, ◌||◌, if◌then◌else◌, slice_get}
use Rattle.std.proofs.lemmas.List.{append_assoc}
use Rattle.std.proofs.lemmas.Bool.{eqb-true}
use Rattle.mip_words.specs.declared.address.Address.{Address}
use Rattle.mip_words.specs.declared.ids.NodeId.{NodeId}
use Rattle.mip_symbols.specs.Places.{members}
use Rattle.mip_symbols.specs.declared.declaration.Declaration.{Declaration}
use Rattle.mip_symbols.specs.declared.declaration.Declaration.TheVariants as declare
use Rattle.mip_rules_agent.specs.Pasts.{is_one_of}
use Rattle.mip_history.specs.Setup.{Host, Kind, is_mobile_host, addresses_in, with_any, served_by, hosts_from}
use Rattle.mip_history.specs.Setup.Kind.{Agent}
use Rattle.mip_law_delivery.proofs.Reading.{is_mobile_place}

-- the node that was declared as a mobile is one
mobile_host : (all front rest : List Declaration) (n i : ℕ) → is_mobile_place front i ≡ true → is_mobile_host (slice_get (hosts_from all n (front ++ rest)) i) ≡ true
unfolding members
mobile_host all [] rest n i is = absurd cc
mobile_host all (declare.Link name prefix ∷ front) rest n i is = mobile_host all front rest n i is
mobile_host all (declare.Outsider name ∷ front) rest n i is = mobile_host all front rest n i is
mobile_host all (declare.Serve agent mobile ∷ front) rest n i is = mobile_host all front rest n i is
mobile_host all (declare.Agent name link address preference life room ∷ front) rest n zero is = absurd cc
mobile_host all (declare.Correspondent name link address room ∷ front) rest n zero is = absurd cc
mobile_host all (declare.Mobile name link address agent ∷ front) rest n zero is = refl
mobile_host all (declare.Agent name link address preference life room ∷ front) rest n (suc i) is = mobile_host all front rest (suc n) i is
mobile_host all (declare.Correspondent name link address room ∷ front) rest n (suc i) is = mobile_host all front rest (suc n) i is
mobile_host all (declare.Mobile name link address agent ∷ front) rest n (suc i) is = mobile_host all front rest (suc n) i is

-- the host with an address that has a place
record IsHostOf (hosts : List Host) (i : ℕ) (a : Address) : Type 0 where
  host : Host
  there : slice_get hosts i ≡ Some host
  same : host.address ≡ a

address_same : (a b : Address) → (let o : Option Address = Some a in o) ≡ Some b → a ≡ b
address_same a b e = cc

host_of : (all ds : List Declaration) (n i : ℕ) (a : Address) → slice_get (addresses_in ds) i ≡ Some a → IsHostOf (hosts_from all n ds) i a
host_of all [] n i a is = absurd cc
host_of all (declare.Link name prefix ∷ ds) n i a is = host_of all ds n i a is
host_of all (declare.Outsider name ∷ ds) n i a is = host_of all ds n i a is
host_of all (declare.Serve agent mobile ∷ ds) n i a is = host_of all ds n i a is
host_of all (declare.Agent name link address preference life room ∷ ds) n zero a is = record { host = _; there = refl; same = address_same address a is }
host_of all (declare.Correspondent name link address room ∷ ds) n zero a is = record { host = _; there = refl; same = address_same address a is }
host_of all (declare.Mobile name link address agent ∷ ds) n zero a is = record { host = _; there = refl; same = address_same address a is }
host_of all (declare.Agent name link address preference life room ∷ ds) n (suc i) a is = let h = host_of all ds (suc n) i a is in record { host = h.host; there = h.there; same = h.same }
host_of all (declare.Correspondent name link address room ∷ ds) n (suc i) a is = let h = host_of all ds (suc n) i a is in record { host = h.host; there = h.there; same = h.same }
host_of all (declare.Mobile name link address agent ∷ ds) n (suc i) a is = let h = host_of all ds (suc n) i a is in record { host = h.host; there = h.there; same = h.same }

-- the homes that a host serves, if it is an agent
abbrev pub homes_by_kind : Kind → Option (List Address)
homes_by_kind (Agent preference life room serves) = Some serves
homes_by_kind _ = None

abbrev pub homes_by : Option Host → Option (List Address)
homes_by None = None
homes_by (Some host) = homes_by_kind host.kind

-- what an agent serves is what the declarations give some node
record IsServedBy (all : List Declaration) (serves : List Address) : Type 0 where
  node : ℕ
  is : serves ≡ served_by (addresses_in all) node all

list_same : (x y : List Address) → (let o : Option (List Address) = Some x in o) ≡ Some y → x ≡ y
list_same x y e = cc

none_served : (x : List Address) → (let o : Option (List Address) = None in o) ≡ Some x → ⊥
none_served x e = cc

agent_serves : (all ds : List Declaration) (n i : ℕ) (own : Address) (preference life room : ℕ) (serves : List Address)
    → slice_get (hosts_from all n ds) i ≡ Some (record { address = own; kind = Agent preference life room serves }) → IsServedBy all serves
agent_serves all [] n i own p l r serves is = absurd cc
agent_serves all (declare.Link name prefix ∷ ds) n i own p l r serves is = agent_serves all ds n i own p l r serves is
agent_serves all (declare.Outsider name ∷ ds) n i own p l r serves is = agent_serves all ds n i own p l r serves is
agent_serves all (declare.Serve agent mobile ∷ ds) n i own p l r serves is = agent_serves all ds n i own p l r serves is
agent_serves all (declare.Agent name link address preference life room ∷ ds) n zero own p l r serves is = record { node = n; is = sym (list_same (served_by (addresses_in all) n all) serves (ap homes_by is)) }
agent_serves all (declare.Correspondent name link address room ∷ ds) n zero own p l r serves is = absurd (none_served serves (ap homes_by is))
agent_serves all (declare.Mobile name link address agent ∷ ds) n zero own p l r serves is = absurd (none_served serves (ap homes_by is))
agent_serves all (declare.Agent name link address preference life room ∷ ds) n (suc i) own p l r serves is = agent_serves all ds (suc n) i own p l r serves is
agent_serves all (declare.Correspondent name link address room ∷ ds) n (suc i) own p l r serves is = agent_serves all ds (suc n) i own p l r serves is
agent_serves all (declare.Mobile name link address agent ∷ ds) n (suc i) own p l r serves is = agent_serves all ds (suc n) i own p l r serves is

module _ (all : List Declaration) (mobiles : (before : List Declaration) (agent mobile : NodeId) (after : List Declaration) → all ≡ before ++ declare.Serve agent mobile ∷ after → is_mobile_place before mobile.0 ≡ true)
    (differ : (m n : ℕ) (a b : Host) → slice_get (hosts_from all 0 all) m ≡ Some a → slice_get (hosts_from all 0 all) n ≡ Some b → a.address.0 ≡ b.address.0 → m ≡ n)
    (n : ℕ) (own : Address) (preference life room : ℕ) (serves : List Address) (host : slice_get (hosts_from all 0 all) n ≡ Some (record { address = own; kind = Agent preference life room serves })) where
  next : (front : List Declaration) (d : Declaration) (ds : List Declaration) → all ≡ front ++ d ∷ ds → all ≡ (front ++ d ∷ []) ++ ds
  next front d ds whole = whole ∙ sym (append_assoc front (d ∷ []) ds)

  -- the address of a mobile is another
  other : (front : List Declaration) (agent mobile : NodeId) (ds : List Declaration) → all ≡ front ++ declare.Serve agent mobile ∷ ds → (a : Address) → slice_get (addresses_in all) mobile.0 ≡ Some a → (b : Bool) → (a.0 == own.0) ≡ b → b ≡ false
  other front agent mobile ds whole a is false e = refl
  other front agent mobile ds whole a is true e =
      let h = host_of all all 0 mobile.0 a is in
      let one : mobile.0 ≡ n = differ mobile.0 n h.host _ h.there host (ap (λ (x : Address). x.0) h.same ∙ eqb-true a.0 own.0 e) in
      let found : is_mobile_host (slice_get (hosts_from all 0 all) mobile.0) ≡ true =
      subst (λ (l : List Declaration). is_mobile_host (slice_get (hosts_from all 0 l) mobile.0) ≡ true) (sym whole) (mobile_host all front (declare.Serve agent mobile ∷ ds) 0 mobile.0 (mobiles front agent mobile ds whole)) in
      absurd (let both : true ≡ false = sym found ∙ ap (λ (m : ℕ). is_mobile_host (slice_get (hosts_from all 0 all) m)) one ∙ ap is_mobile_host host in cc)

  not_served : (m : ℕ) (front ds : List Declaration) → all ≡ front ++ ds → is_one_of (served_by (addresses_in all) m ds) own ≡ false
  not_served m front [] whole = refl
  not_served m front (declare.Link name prefix ∷ ds) whole = not_served m (front ++ declare.Link name prefix ∷ []) ds (next front _ ds whole)
  not_served m front (declare.Outsider name ∷ ds) whole = not_served m (front ++ declare.Outsider name ∷ []) ds (next front _ ds whole)
  not_served m front (declare.Agent name link address p l r ∷ ds) whole = not_served m (front ++ declare.Agent name link address p l r ∷ []) ds (next front _ ds whole)
  not_served m front (declare.Correspondent name link address r ∷ ds) whole = not_served m (front ++ declare.Correspondent name link address r ∷ []) ds (next front _ ds whole)
  not_served m front (declare.Mobile name link address agent ∷ ds) whole = not_served m (front ++ declare.Mobile name link address agent ∷ []) ds (next front _ ds whole)
  not_served m front (declare.Serve agent mobile ∷ ds) whole = by (m == agent.0) (not_served m (front ++ declare.Serve agent mobile ∷ []) ds (next front _ ds whole))
    where
      with_one : (o : Option Address) → slice_get (addresses_in all) mobile.0 ≡ o → is_one_of (served_by (addresses_in all) m ds) own ≡ false → is_one_of (with_any o (served_by (addresses_in all) m ds)) own ≡ false
      with_one None is more = more
      with_one (Some a) is more = ap (λ (b : Bool). b || is_one_of (served_by (addresses_in all) m ds) own) (other front agent mobile ds whole a is (a.0 == own.0) refl) ∙ more

      by : (b : Bool) → is_one_of (served_by (addresses_in all) m ds) own ≡ false
          → is_one_of (if b then with_any (slice_get (addresses_in all) mobile.0) (served_by (addresses_in all) m ds) else served_by (addresses_in all) m ds) own ≡ false
      by true more = with_one (slice_get (addresses_in all) mobile.0) refl more
      by false more = more

  pub unserved : is_one_of serves own ≡ false
  unserved = let by = agent_serves all all 0 n own preference life room serves host in ap (λ (l : List Address). is_one_of l own) by.is ∙ not_served by.node [] all refl
