-- The numbers of a schedule that was read are within their bounds: prefixes have 64 bits, and addresses are routable. What an agent
-- serves is a mobile.
use Rattle.std.proofs.Common.{◌≡◌, ℕ, zero, suc, ◌<◌, ◌≤◌, ◌^◌, List, [], ◌∷◌, ◌++◌, Bool, true, false, ◌⊎◌, inl, inr, length, get_or, refl, sym, ap, ◌∙◌, subst, arith}
use Rattle.std.specs.Prelude.{Option, Some, None, Result, Ok, codes, slice_get, nat_lt, not, ◌&&◌}
use Rattle.std.specs.List.{position, position_or_len}
use Rattle.std.specs.Str.{bytes_eq}
use Rattle.std.proofs.lemmas.Bool.{cond_both, and_parts, not-false, ltb-true}
use Rattle.std.proofs.lemmas.Option.{slice_get_cases}
use Rattle.std.proofs.lemmas.List.Sums.{prefix_len_stops}
use Rattle.std.proofs.lemmas.List.{append_assoc}
use Rattle.mip_words.specs.Addresses.{is_routable}
use Rattle.mip_words.specs.declared.address.Address.{Address}
use Rattle.mip_words.specs.declared.ids.NodeId.{NodeId}
use Rattle.mip_words.specs.declared.prefix.Prefix.{Prefix}
use Rattle.mip_words.proofs.StepLaws.{bind_ok, ok_is}
use Rattle.mip_lines.specs.HexFields.{hex_number, address_in}
use Rattle.mip_lines.proofs.HexFieldLaws.{hex_number-spelled}
use Rattle.mip_symbols.specs.Kinds as kinds
use Rattle.mip_symbols.specs.Kinds.{or_reason, to_host, address, prefix, place, node}
use Rattle.mip_symbols.specs.Places.{members, place_of, fits, is_named, is_mobile}
use Rattle.mip_symbols.specs.declared.declaration.Declaration.{Declaration}
use Rattle.mip_symbols.specs.declared.declaration.Declaration.TheVariants as declare
use Rattle.mip_symbols.specs.declared.places.Sort.TheVariants as sorts
use Rattle.mip_symbols.specs.declared.reason.Reason.{Reason}
use Rattle.mip_symbols.proofs.KindLaws.{option_is}
use Rattle.mip_schedule.specs.Contents.{Content}
use Rattle.mip_schedule.specs.DeclarationRows.{room, u16, link_row, agent_row, correspondent_row, mobile_row, serve_row, outsider_row, node_fields, declaration_fields}
use Rattle.mip_schedule.specs.DeclarationTimes.{undeclared, judged, declaration_line}
use Rattle.mip_schedule.specs.Lawful.{IsDeclaration}
use Rattle.mip_history.specs.Setup.{Setup, Host, links_in, hosts_from, setup_of}

-- the node that has a place is a mobile
abbrev pub is_mobile_there : Option Declaration → Bool
is_mobile_there None = false
is_mobile_there (Some d) = is_mobile d

abbrev pub is_mobile_place : List Declaration → ℕ → Bool
is_mobile_place ds m = is_mobile_there (slice_get (members sorts.Mobile ds) m)

-- what a declaration behind others keeps to
abbrev Keeps : List Declaration → Declaration → Type 0
Keeps ds (declare.Link name p) = p.0 < 2 ^ 64
Keeps ds (declare.Agent name link a preference life room) = is_routable a.0 ≡ true
Keeps ds (declare.Correspondent name link a room) = is_routable a.0 ≡ true
Keeps ds (declare.Mobile name link a agent) = is_routable a.0 ≡ true
Keeps ds (declare.Serve agent mobile) = is_mobile_place ds mobile.0 ≡ true
Keeps ds _ = Unit {0}

-- the fields that were read
routable : (o : Option Address) (a : Address) → to_host o ≡ Ok a → is_routable a.0 ≡ true
routable None a = λ e. absurd cc
routable (Some b) a =
    cond_both (is_routable b.0) _ _ (λ (r : Result Address Reason). r ≡ Ok a → is_routable a.0 ≡ true)
    (λ test e. subst (λ (x : Address). is_routable x.0 ≡ true) (ok_is b a e) test)
    (λ other e. absurd cc)

address_keeps : (f : List ℕ) (a : Address) → kinds.address f ≡ Ok a → is_routable a.0 ≡ true
unfolding address
address_keeps f a e = routable (address_in f) a e

prefix_keeps : (f : List ℕ) (p : Prefix) → kinds.prefix f ≡ Ok p → p.0 < 2 ^ 64
unfolding prefix
prefix_keeps f p e =
    let x = bind_ok (or_reason _ (hex_number 8 f)) (λ n. Ok (record { 0 = n })) p e in
    let spelled = hex_number-spelled 8 f x.0 (option_is _ _ _ x.1) in
    subst (λ (q : Prefix). q.0 < 2 ^ 64) (ok_is _ p x.2) (let small = spelled.small in omega (arith, small))

-- what stands at the first place that passes, passes
abbrev passes : (Declaration → Bool) → Option Declaration → Bool
passes p None = false
passes p (Some d) = p d

there : (p : Declaration → Bool) (xs : List Declaration) (at : ℕ) → at ≡ position_or_len p xs → at < length xs
    → ((x : Declaration) × (at < length xs) × (slice_get xs at ≡ Some x) × (get_or xs at x ≡ x)) ⊎ ((length xs ≤ at) × (slice_get xs at ≡ None)) → passes p (slice_get xs at) ≡ true
there p xs at is inside (inl c) =
    let stops : p (get_or xs (position_or_len p xs) c.0) ≡ true = not-false _ (prefix_len_stops (λ x. not (p x)) xs c.0 (omega (arith, inside, is))) in
    ap (passes p) c.2 ∙ ap p (sym c.3) ∙ ap (λ (k : ℕ). p (get_or xs k c.0)) is ∙ stops
there p xs at is inside (inr c) = absurd (omega (arith, inside, c.0))

found : (p : Declaration → Bool) (xs : List Declaration) (i : ℕ) → position p xs ≡ Some i → passes p (slice_get xs i) ≡ true
found p xs i =
    cond_both (nat_lt (position_or_len p xs) (length xs)) _ _ (λ (o : Option ℕ). o ≡ Some i → passes p (slice_get xs i) ≡ true)
    (λ near e.
    let same : position_or_len p xs ≡ i = cc in
    subst (λ (k : ℕ). passes p (slice_get xs k) ≡ true) same
    (let cases = slice_get_cases xs (position_or_len p xs) in there p xs (position_or_len p xs) refl (ltb-true (position_or_len p xs) (length xs) near) cases.1))
    (λ past e. absurd cc)

mobile_passes : (f : List ℕ) (o : Option Declaration) → passes (λ d. fits sorts.Mobile d && is_named f d) o ≡ true → is_mobile_there o ≡ true
mobile_passes f None is = absurd cc
mobile_passes f (Some d) is = (and_parts (is_mobile d) (is_named f d) is).0

mobile_found : (ds : List Declaration) (f : List ℕ) (n : NodeId) → kinds.node sorts.Mobile ds f ≡ Ok n → is_mobile_place ds n.0 ≡ true
unfolding node place place_of
mobile_found ds f n e =
    let x = bind_ok (kinds.place sorts.Mobile ds f) (λ p. Ok (record { 0 = p })) n e in
    let is = found (λ d. fits sorts.Mobile d && is_named f d) (members sorts.Mobile ds) x.0 (option_is _ _ _ x.1) in
    subst (λ (m : NodeId). is_mobile_place ds m.0 ≡ true) (ok_is _ n x.2) (mobile_passes f (slice_get (members sorts.Mobile ds) x.0) is)

module _ (ds : List Declaration) where
  link_keeps : (fields : List (List ℕ)) (d : Declaration) → link_row ds fields ≡ Ok d → Keeps ds d
  unfolding link_row
  link_keeps [] d e = absurd cc
  link_keeps (a ∷ []) d e = absurd cc
  link_keeps (a ∷ b ∷ []) d e =
      let x = bind_ok (kinds.new_name ds a) _ d e in
      let y = bind_ok (kinds.prefix b) _ d x.2 in
      subst (Keeps ds) (ok_is _ d y.2) (prefix_keeps b y.0 y.1)
  link_keeps (a ∷ b ∷ c ∷ rest) d e = absurd cc

  agent_keeps : (fields : List (List ℕ)) (d : Declaration) → agent_row ds fields ≡ Ok d → Keeps ds d
  unfolding agent_row
  agent_keeps [] d e = absurd cc
  agent_keeps (f ∷ []) d e = absurd cc
  agent_keeps (f ∷ g ∷ []) d e = absurd cc
  agent_keeps (f ∷ g ∷ h ∷ []) d e = absurd cc
  agent_keeps (f ∷ g ∷ h ∷ i ∷ []) d e = absurd cc
  agent_keeps (f ∷ g ∷ h ∷ i ∷ j ∷ []) d e = absurd cc
  agent_keeps (f ∷ g ∷ h ∷ i ∷ j ∷ k ∷ []) d e =
      let x = bind_ok (kinds.new_name ds f) _ d e in
      let y = bind_ok (kinds.link ds g) _ d x.2 in
      let z = bind_ok (kinds.address h) _ d y.2 in
      let u = bind_ok (u16 i) _ d z.2 in
      let v = bind_ok (u16 j) _ d u.2 in
      let w = bind_ok (room k) _ d v.2 in
      subst (Keeps ds) (ok_is _ d w.2) (address_keeps h z.0 z.1)
  agent_keeps (f ∷ g ∷ h ∷ i ∷ j ∷ k ∷ l ∷ rest) d e = absurd cc

  correspondent_keeps : (fields : List (List ℕ)) (d : Declaration) → correspondent_row ds fields ≡ Ok d → Keeps ds d
  unfolding correspondent_row
  correspondent_keeps [] d e = absurd cc
  correspondent_keeps (f ∷ []) d e = absurd cc
  correspondent_keeps (f ∷ g ∷ []) d e = absurd cc
  correspondent_keeps (f ∷ g ∷ h ∷ []) d e = absurd cc
  correspondent_keeps (f ∷ g ∷ h ∷ i ∷ []) d e =
      let x = bind_ok (kinds.new_name ds f) _ d e in
      let y = bind_ok (kinds.link ds g) _ d x.2 in
      let z = bind_ok (kinds.address h) _ d y.2 in
      let u = bind_ok (room i) _ d z.2 in
      subst (Keeps ds) (ok_is _ d u.2) (address_keeps h z.0 z.1)
  correspondent_keeps (f ∷ g ∷ h ∷ i ∷ j ∷ rest) d e = absurd cc

  mobile_keeps : (fields : List (List ℕ)) (d : Declaration) → mobile_row ds fields ≡ Ok d → Keeps ds d
  unfolding mobile_row
  mobile_keeps [] d e = absurd cc
  mobile_keeps (f ∷ []) d e = absurd cc
  mobile_keeps (f ∷ g ∷ []) d e = absurd cc
  mobile_keeps (f ∷ g ∷ h ∷ []) d e = absurd cc
  mobile_keeps (f ∷ g ∷ h ∷ i ∷ []) d e =
      let x = bind_ok (kinds.new_name ds f) _ d e in
      let y = bind_ok (kinds.link ds g) _ d x.2 in
      let z = bind_ok (kinds.address h) _ d y.2 in
      let u = bind_ok (kinds.some_agent ds i) _ d z.2 in
      subst (Keeps ds) (ok_is _ d u.2) (address_keeps h z.0 z.1)
  mobile_keeps (f ∷ g ∷ h ∷ i ∷ j ∷ rest) d e = absurd cc

  serve_keeps : (fields : List (List ℕ)) (d : Declaration) → serve_row ds fields ≡ Ok d → Keeps ds d
  unfolding serve_row
  serve_keeps [] d e = absurd cc
  serve_keeps (f ∷ []) d e = absurd cc
  serve_keeps (f ∷ g ∷ []) d e =
      let x = bind_ok (kinds.node sorts.Agent ds f) _ d e in
      let y = bind_ok (kinds.node sorts.Mobile ds g) _ d x.2 in
      subst (Keeps ds) (ok_is _ d y.2) (mobile_found ds g y.0 y.1)
  serve_keeps (f ∷ g ∷ h ∷ rest) d e = absurd cc

  outsider_keeps : (fields : List (List ℕ)) (d : Declaration) → outsider_row ds fields ≡ Ok d → Keeps ds d
  unfolding outsider_row
  outsider_keeps [] d e = absurd cc
  outsider_keeps (f ∷ []) d e = let x = bind_ok (kinds.new_name ds f) _ d e in subst (Keeps ds) (ok_is _ d x.2) tt
  outsider_keeps (f ∷ g ∷ rest) d e = absurd cc

  node_keeps : (word : List ℕ) (fields : List (List ℕ)) (d : Declaration) → node_fields ds word fields ≡ Ok d → Keeps ds d
  unfolding node_fields
  node_keeps word fields d =
      cond_both (bytes_eq word (codes "agent")) _ _ (λ (r : Result Declaration Reason). r ≡ Ok d → Keeps ds d) (λ is e. agent_keeps fields d e) (λ other.
      cond_both (bytes_eq word (codes "correspondent")) _ _ (λ (r : Result Declaration Reason). r ≡ Ok d → Keeps ds d) (λ is e. correspondent_keeps fields d e) (λ more.
      cond_both (bytes_eq word (codes "mobile")) _ _ (λ (r : Result Declaration Reason). r ≡ Ok d → Keeps ds d) (λ is e. mobile_keeps fields d e) (λ last e. absurd cc)))

  fields_keep : (row : List (List ℕ)) (d : Declaration) → declaration_fields ds row ≡ Ok d → Keeps ds d
  unfolding declaration_fields
  fields_keep [] d = λ e. absurd cc
  fields_keep (word ∷ fields) d =
      cond_both (bytes_eq word (codes "link")) _ _ (λ (r : Result Declaration Reason). r ≡ Ok d → Keeps ds d) (λ is e. link_keeps fields d e) (λ other.
      cond_both (bytes_eq word (codes "serve")) _ _ (λ (r : Result Declaration Reason). r ≡ Ok d → Keeps ds d) (λ is e. serve_keeps fields d e) (λ more.
      cond_both (bytes_eq word (codes "outsider")) _ _ (λ (r : Result Declaration Reason). r ≡ Ok d → Keeps ds d) (λ is e. outsider_keeps fields d e) (λ last e. node_keeps word fields d e)))

  judged_same : (x d : Declaration) (o : Option Reason) → judged x o ≡ Ok d → x ≡ d
  judged_same x d None e = ok_is x d e
  judged_same x d (Some why) e = absurd cc

  line_keeps : (row : List (List ℕ)) (d : Declaration) → declaration_line ds row ≡ Ok d → Keeps ds d
  unfolding declaration_line
  line_keeps row d e =
      let x = bind_ok (declaration_fields ds row) _ d e in
      subst (Keeps ds) (judged_same x.0 d (undeclared ds x.0) x.2) (fields_keep row x.0 x.1)

module _ (all : List Declaration) (each : (before : List Declaration) (d : Declaration) (after : List Declaration) → all ≡ before ++ d ∷ after → Keeps before d) where
  next : (front : List Declaration) (d : Declaration) (ds : List Declaration) → all ≡ front ++ d ∷ ds → all ≡ (front ++ d ∷ []) ++ ds
  next front d ds whole = whole ∙ sym (append_assoc front (d ∷ []) ds)

  number_same : (p q : ℕ) → (let o : Option ℕ = Some p in o) ≡ Some q → p ≡ q
  number_same p q e = cc

  links_keep : (front ds : List Declaration) (l p : ℕ) → all ≡ front ++ ds → slice_get (links_in ds) l ≡ Some p → p < 2 ^ 64
  links_keep front [] l p whole is = absurd cc
  links_keep front (declare.Link name q ∷ ds) zero p whole is = subst (λ (x : ℕ). x < 2 ^ 64) (number_same q.0 p is) (each front (declare.Link name q) ds whole)
  links_keep front (declare.Link name q ∷ ds) (suc l) p whole is = links_keep (front ++ declare.Link name q ∷ []) ds l p (next front _ ds whole) is
  links_keep front (declare.Agent name link a preference life room ∷ ds) l p whole is = links_keep (front ++ declare.Agent name link a preference life room ∷ []) ds l p (next front _ ds whole) is
  links_keep front (declare.Correspondent name link a room ∷ ds) l p whole is = links_keep (front ++ declare.Correspondent name link a room ∷ []) ds l p (next front _ ds whole) is
  links_keep front (declare.Mobile name link a agent ∷ ds) l p whole is = links_keep (front ++ declare.Mobile name link a agent ∷ []) ds l p (next front _ ds whole) is
  links_keep front (declare.Outsider name ∷ ds) l p whole is = links_keep (front ++ declare.Outsider name ∷ []) ds l p (next front _ ds whole) is
  links_keep front (declare.Serve agent mobile ∷ ds) l p whole is = links_keep (front ++ declare.Serve agent mobile ∷ []) ds l p (next front _ ds whole) is

  host_same : (a b : Host) → (let o : Option Host = Some a in o) ≡ Some b → a ≡ b
  host_same a b e = cc

  host_keeps : (front : List Declaration) (d : Declaration) (ds : List Declaration) (own : Host) → is_routable own.address.0 ≡ true → (n i : ℕ) (h : Host) → slice_get (own ∷ hosts_from all n ds) i ≡ Some h
      → ((j : ℕ) → slice_get (hosts_from all n ds) j ≡ Some h → is_routable h.address.0 ≡ true) → is_routable h.address.0 ≡ true
  host_keeps front d ds own is n zero h e again = subst (λ (x : Host). is_routable x.address.0 ≡ true) (host_same own h e) is
  host_keeps front d ds own is n (suc i) h e again = again i e

  hosts_keep : (front ds : List Declaration) (n i : ℕ) (h : Host) → all ≡ front ++ ds → slice_get (hosts_from all n ds) i ≡ Some h → is_routable h.address.0 ≡ true
  hosts_keep front [] n i h whole is = absurd cc
  hosts_keep front (declare.Link name q ∷ ds) n i h whole is = hosts_keep (front ++ declare.Link name q ∷ []) ds n i h (next front _ ds whole) is
  hosts_keep front (declare.Outsider name ∷ ds) n i h whole is = hosts_keep (front ++ declare.Outsider name ∷ []) ds n i h (next front _ ds whole) is
  hosts_keep front (declare.Serve agent mobile ∷ ds) n i h whole is = hosts_keep (front ++ declare.Serve agent mobile ∷ []) ds n i h (next front _ ds whole) is
  hosts_keep front (declare.Agent name link a preference life room ∷ ds) n i h whole is =
      host_keeps front (declare.Agent name link a preference life room) ds _ (each front (declare.Agent name link a preference life room) ds whole) (suc n) i h is
      (λ j e. hosts_keep (front ++ declare.Agent name link a preference life room ∷ []) ds (suc n) j h (next front _ ds whole) e)
  hosts_keep front (declare.Correspondent name link a room ∷ ds) n i h whole is =
      host_keeps front (declare.Correspondent name link a room) ds _ (each front (declare.Correspondent name link a room) ds whole) (suc n) i h is
      (λ j e. hosts_keep (front ++ declare.Correspondent name link a room ∷ []) ds (suc n) j h (next front _ ds whole) e)
  hosts_keep front (declare.Mobile name link a agent ∷ ds) n i h whole is =
      host_keeps front (declare.Mobile name link a agent) ds _ (each front (declare.Mobile name link a agent) ds whole) (suc n) i h is
      (λ j e. hosts_keep (front ++ declare.Mobile name link a agent ∷ []) ds (suc n) j h (next front _ ds whole) e)

-- the numbers of a setup are within their bounds: prefixes have 64 bits, and each node's address is routable
pub record AreWithin (s : Setup) : Type 0 where
  pub prefixes : (l prefix : ℕ) → slice_get s.links l ≡ Some prefix → prefix < 2 ^ 64
  pub routable : (n : ℕ) (host : Host) → slice_get s.hosts n ≡ Some host → is_routable host.address.0 ≡ true

-- each declaration of a schedule stands after those before it
abbrev pub AreDeclared : Content → Type 0
AreDeclared content = (before : List Declaration) (d : Declaration) (after : List Declaration) → content.declarations ≡ before ++ d ∷ after → IsDeclaration before d

pub within_of : (content : Content) → AreDeclared content → AreWithin (setup_of content)
within_of content declared =
    let all : List Declaration = content.declarations in
    let each : (before : List Declaration) (d : Declaration) (after : List Declaration) → all ≡ before ++ d ∷ after → Keeps before d =
    λ before d after whole. (let x = declared before d after whole in line_keeps before _ d x.line) in
    record {
      prefixes = λ l prefix is. links_keep all each [] all l prefix refl is;
      routable = λ n host is. hosts_keep all each [] all 0 n host refl is;
    }

-- what an agent serves is a mobile
pub serves_mobile : (content : Content) → AreDeclared content → (before : List Declaration) (agent mobile : NodeId) (after : List Declaration) → content.declarations ≡ before ++ declare.Serve agent mobile ∷ after
    → is_mobile_place before mobile.0 ≡ true
serves_mobile content declared before agent mobile after whole = let x = declared before _ after whole in line_keeps before _ (declare.Serve agent mobile) x.line
