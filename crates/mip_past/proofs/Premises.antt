-- Each schedule that was read has what the laws ask.
use Rattle.std.proofs.Common.{◌≡◌, ℕ, zero, suc, ◌+◌, ◌^◌, ◌<◌, ◌≤◌, List, [], ◌∷◌, ◌++◌, take, Bool, true, false, not, refl, sym, ap, ◌∙◌, subst, arith}
use Rattle.std.specs.Prelude.{◌==◌, ◌||◌, nat_le, nat_lt, if◌then◌else◌, Option, Some, None, slice_get}
use Rattle.std.specs.List.{list_any, sum_by}
use Rattle.std.proofs.lemmas.Bool.{or_parts, eq-eqb}
use Rattle.std.proofs.lemmas.Bool.Decides.{nat_tests}
use Rattle.std.proofs.lemmas.List.{append_assoc, append-nil}
use Rattle.std.proofs.lemmas.List.Folds.{list_any-append}
use Rattle.std.proofs.lemmas.List.Sums.{sum_by-append, sum_by-cons}
use Rattle.std.proofs.lemmas.Option.{slice_get_within}
use Rattle.mip_words.specs.declared.address.Address.{Address}
use Rattle.mip_words.specs.declared.ids.LinkId.{LinkId}
use Rattle.mip_words.specs.declared.ids.NodeId.{NodeId}
use Rattle.mip_symbols.specs.Places.{AreFew, members}
use Rattle.mip_symbols.specs.declared.name.Name.{Name}
use Rattle.mip_symbols.specs.declared.places.Sort.TheVariants as sorts
use Rattle.mip_symbols.specs.declared.declaration.Declaration.{Declaration}
use Rattle.mip_symbols.specs.declared.declaration.Declaration.TheVariants as declare
use Rattle.mip_symbols.specs.declared.reason.Reason.{Reason}
use Rattle.mip_symbols.specs.declared.reason.Reason.TheVariants as reasons
use Rattle.mip_schedule.specs.Contents.{Content}
use Rattle.mip_schedule.specs.DeclarationTimes.{interface_of, has_interface, is_interface_taken, is_on_link, is_full, has_no_room, misplaced, undeclared}
use Rattle.mip_schedule.specs.EventTimes.{wait_of, waited, misfit, untimely}
use Rattle.mip_schedule.specs.Lawful.{IsEvent, IsLawful}
use Rattle.mip_schedule.specs.Versions.{is_numbered, numbers_in}
use Rattle.mip_schedule.specs.declared.event.Event.{Event}
use Rattle.mip_schedule.specs.declared.event.Event.TheVariants as events
use Rattle.mip_history.specs.Setup.{Host, hosts_from, setup_of}
use Rattle.mip_history.specs.Passing.{waited_by}
use Rattle.mip_history.proofs.Declarations.{passed, MayStand, hosts_count}
use Rattle.mip_past.specs.HearingLaws.{AreApart}
use Rattle.mip_past.specs.MeetingLaws.{MeetsPremises}
use Rattle.mip_past.proofs.PlansKept.{wait_same, now_is}

-- an address that stands is nobody's before it
free_of : (taken on : Bool) → (if not on || taken then Some reasons.Clash else None) ≡ None → taken ≡ false
free_of false on e = refl
free_of true true e = absurd cc
free_of true false e = absurd cc

own_place : (before : List Declaration) (l : LinkId) (a : Address) → misplaced before l a ≡ None → list_any (has_interface (interface_of a.0)) before ≡ false
unfolding misplaced is_interface_taken
own_place before l a e =
    let free : is_interface_taken before a ≡ false = free_of (is_interface_taken before a) (is_on_link before l a) e in
    (or_parts (interface_of a.0 == 0xfdff_ffff_ffff_fffe) (list_any (has_interface (interface_of a.0)) before) free).1

clash : {Q : Type 0} → true ≡ false → Q
clash e = absurd cc

agent_place : (front : List Declaration) (name : Name) (l : LinkId) (a : Address) (preference life room : ℕ) → undeclared front (declare.Agent name l a preference life room) ≡ None → misplaced front l a ≡ None
unfolding undeclared
agent_place front name l a preference life room e = passed (is_full 32 (members sorts.Node front)) (misplaced front l a) e

correspondent_place : (front : List Declaration) (name : Name) (l : LinkId) (a : Address) (room : ℕ) → undeclared front (declare.Correspondent name l a room) ≡ None → misplaced front l a ≡ None
unfolding undeclared
correspondent_place front name l a room e = passed (is_full 32 (members sorts.Node front)) (misplaced front l a) e

mobile_place : (front : List Declaration) (name : Name) (l : LinkId) (a : Address) (agent : Option NodeId) → undeclared front (declare.Mobile name l a agent) ≡ None → misplaced front l a ≡ None
unfolding undeclared
mobile_place front name l a agent e = passed (has_no_room front) (misplaced front l a) e

module _ (all : List Declaration) (stand : MayStand all) where
  -- a node stands behind others with another address
  abbrev IsNew : List Declaration → Address → Type 0
  IsNew front a = list_any (has_interface (interface_of a.0)) front ≡ false

  earlier : (front : List Declaration) (d : Declaration) (a : Address) → IsNew (front ++ d ∷ []) a → IsNew front a
  earlier front d a new =
      (or_parts (list_any (has_interface (interface_of a.0)) front) (list_any (has_interface (interface_of a.0)) (d ∷ [])) (sym (list_any-append (has_interface (interface_of a.0)) front (d ∷ [])) ∙ new)).0

  differs : (front : List Declaration) (d : Declaration) (a : Address) → IsNew (front ++ d ∷ []) a → has_interface (interface_of a.0) d ≡ false
  differs front d a new =
      let last = (or_parts (list_any (has_interface (interface_of a.0)) front) (list_any (has_interface (interface_of a.0)) (d ∷ [])) (sym (list_any-append (has_interface (interface_of a.0)) front (d ∷ [])) ∙ new)).1 in
      (or_parts (has_interface (interface_of a.0) d) false last).0

  further : (front : List Declaration) (d : Declaration) (ds : List Declaration) → all ≡ front ++ d ∷ ds → all ≡ (front ++ d ∷ []) ++ ds
  further front d ds whole = whole ∙ sym (append_assoc front (d ∷ []) ds)

  agent_new : (front : List Declaration) (d : Declaration) (ds : List Declaration) (l : LinkId) (a : Address) → all ≡ front ++ d ∷ ds → (undeclared front d ≡ None → misplaced front l a ≡ None) → IsNew front a
  agent_new front d ds l a whole goes = own_place front l a (goes (stand front d ds whole))

  -- each node has an address that is new behind what stands in front
  later : (front ds : List Declaration) (n : ℕ) → all ≡ front ++ ds → (j : ℕ) (y : Host) → slice_get (hosts_from all n ds) j ≡ Some y → IsNew front y.address
  later front [] n whole j y at = absurd cc
  later front (declare.Link name prefix ∷ ds) n whole j y at =
      earlier front (declare.Link name prefix) y.address (later (front ++ declare.Link name prefix ∷ []) ds n (further front (declare.Link name prefix) ds whole) j y at)
  later front (declare.Outsider name ∷ ds) n whole j y at =
      earlier front (declare.Outsider name) y.address (later (front ++ declare.Outsider name ∷ []) ds n (further front (declare.Outsider name) ds whole) j y at)
  later front (declare.Serve agent mobile ∷ ds) n whole j y at =
      earlier front (declare.Serve agent mobile) y.address (later (front ++ declare.Serve agent mobile ∷ []) ds n (further front (declare.Serve agent mobile) ds whole) j y at)
  later front (declare.Agent name link address preference life room ∷ ds) n whole zero y at =
      let same : address ≡ y.address = cc in
      subst (IsNew front) same (agent_new front (declare.Agent name link address preference life room) ds link address whole (agent_place front name link address preference life room))
  later front (declare.Agent name link address preference life room ∷ ds) n whole (suc j) y at =
      earlier front (declare.Agent name link address preference life room) y.address
      (later (front ++ declare.Agent name link address preference life room ∷ []) ds (suc n) (further front (declare.Agent name link address preference life room) ds whole) j y at)
  later front (declare.Correspondent name link address room ∷ ds) n whole zero y at =
      let same : address ≡ y.address = cc in
      subst (IsNew front) same (agent_new front (declare.Correspondent name link address room) ds link address whole (correspondent_place front name link address room))
  later front (declare.Correspondent name link address room ∷ ds) n whole (suc j) y at =
      earlier front (declare.Correspondent name link address room) y.address
      (later (front ++ declare.Correspondent name link address room ∷ []) ds (suc n) (further front (declare.Correspondent name link address room) ds whole) j y at)
  later front (declare.Mobile name link address agent ∷ ds) n whole zero y at =
      let same : address ≡ y.address = cc in
      subst (IsNew front) same (agent_new front (declare.Mobile name link address agent) ds link address whole (mobile_place front name link address agent))
  later front (declare.Mobile name link address agent ∷ ds) n whole (suc j) y at =
      earlier front (declare.Mobile name link address agent) y.address
      (later (front ++ declare.Mobile name link address agent ∷ []) ds (suc n) (further front (declare.Mobile name link address agent) ds whole) j y at)

  -- one node more in front
  more_apart : (h : Host) (hosts : List Host) → ((j : ℕ) (y : Host) → slice_get hosts j ≡ Some y → (interface_of h.address.0 == interface_of y.address.0) ≡ false) → AreApart hosts → AreApart (h ∷ hosts)
  more_apart h hosts new apart zero zero x y one two same = let a : h ≡ x = cc in let b : h ≡ y = cc in sym a ∙ b
  more_apart h hosts new apart zero (suc j) x y one two same =
      clash (sym (eq-eqb (interface_of h.address.0) (interface_of y.address.0) (ap interface_of ((let a : h ≡ x = cc in ap (λ (z : Host). let u : Address = z.address in u.0) a) ∙ same))) ∙ new j y two)
  more_apart h hosts new apart (suc i) zero x y one two same =
      clash (sym (eq-eqb (interface_of h.address.0) (interface_of x.address.0) (ap interface_of ((let b : h ≡ y = cc in ap (λ (z : Host). let u : Address = z.address in u.0) b) ∙ sym same))) ∙ new i x one)
  more_apart h hosts new apart (suc i) (suc j) x y one two same = apart i j x y one two same

  apart_from : (front ds : List Declaration) (n : ℕ) → all ≡ front ++ ds → AreApart (hosts_from all n ds)
  apart_from front [] n whole = λ i j x y one two same. absurd cc
  apart_from front (declare.Link name prefix ∷ ds) n whole = apart_from (front ++ declare.Link name prefix ∷ []) ds n (further front (declare.Link name prefix) ds whole)
  apart_from front (declare.Outsider name ∷ ds) n whole = apart_from (front ++ declare.Outsider name ∷ []) ds n (further front (declare.Outsider name) ds whole)
  apart_from front (declare.Serve agent mobile ∷ ds) n whole = apart_from (front ++ declare.Serve agent mobile ∷ []) ds n (further front (declare.Serve agent mobile) ds whole)
  apart_from front (declare.Agent name link address preference life room ∷ ds) n whole =
      let d : Declaration = declare.Agent name link address preference life room in
      let next : all ≡ (front ++ d ∷ []) ++ ds = further front d ds whole in
      more_apart _ (hosts_from all (suc n) ds) (λ j y at. differs front d y.address (later (front ++ d ∷ []) ds (suc n) next j y at)) (apart_from (front ++ d ∷ []) ds (suc n) next)
  apart_from front (declare.Correspondent name link address room ∷ ds) n whole =
      let d : Declaration = declare.Correspondent name link address room in
      let next : all ≡ (front ++ d ∷ []) ++ ds = further front d ds whole in
      more_apart _ (hosts_from all (suc n) ds) (λ j y at. differs front d y.address (later (front ++ d ∷ []) ds (suc n) next j y at)) (apart_from (front ++ d ∷ []) ds (suc n) next)
  apart_from front (declare.Mobile name link address agent ∷ ds) n whole =
      let d : Declaration = declare.Mobile name link address agent in
      let next : all ≡ (front ++ d ∷ []) ++ ds = further front d ds whole in
      more_apart _ (hosts_from all (suc n) ds) (λ j y at. differs front d y.address (later (front ++ d ∷ []) ds (suc n) next j y at)) (apart_from (front ++ d ∷ []) ds (suc n) next)

-- waits are short
late_none : (b : Bool) (why : Reason) (o : Option Reason) → (if b then Some why else o) ≡ None → b ≡ false
late_none true why o e = absurd cc
late_none false why o e = refl

wait_fits : (ds : List Declaration) (waits carries : ℕ) (e : Event) → misfit ds waits carries e ≡ None → waits ≤ 36000000 → waits + wait_of e ≤ 36000000
unfolding misfit
wait_fits ds waits carries (events.Wait ms) fits few =
    let late : nat_lt 36000000 (waits + ms) ≡ false = late_none (nat_lt 36000000 (waits + ms)) reasons.Time None fits in grind (arith, nat_tests, late)
wait_fits ds waits carries _ fits few = omega (arith, few)

wait_timely : (ds : List Declaration) (count waits carries : ℕ) (e : Event) → untimely ds count waits carries e ≡ None → waits ≤ 36000000 → waits + wait_of e ≤ 36000000
unfolding untimely
wait_timely ds count waits carries e timely few = wait_fits ds waits carries e (passed (nat_le 20000 count) (misfit ds waits carries e) timely) few

abbrev AreTimed : Bool → List Declaration → List Event → Type 0
AreTimed numbered ds all = (before : List Event) (e : Event) (after : List Event) → all ≡ before ++ e ∷ after → IsEvent numbered ds before e

more_wait : (es : List Event) (e : Event) → waited es + wait_of e ≤ 36000000 → waited (es ++ e ∷ []) ≤ 36000000
unfolding waited
more_wait es e few = omega (arith, few, sum_by-append wait_of es (e ∷ []))

none_wait : waited [] ≤ 36000000
unfolding waited
none_wait = omega arith

waits_from : (numbered : Bool) (ds : List Declaration) (all : List Event) → AreTimed numbered ds all → (front rest : List Event) → all ≡ front ++ rest → waited front ≤ 36000000 → (k : ℕ) → waited (front ++ take k rest) ≤ 36000000
waits_from numbered ds all timed front [] whole few zero = subst (λ (es : List Event). waited es ≤ 36000000) (sym (append-nil front)) few
waits_from numbered ds all timed front [] whole few (suc k) = subst (λ (es : List Event). waited es ≤ 36000000) (sym (append-nil front)) few
waits_from numbered ds all timed front (e ∷ rest) whole few zero = subst (λ (es : List Event). waited es ≤ 36000000) (sym (append-nil front)) few
waits_from numbered ds all timed front (e ∷ rest) whole few (suc k) =
    let is : IsEvent numbered ds front e = timed front e rest whole in
    subst (λ (es : List Event). waited es ≤ 36000000) (append_assoc front (e ∷ []) (take k rest))
    (waits_from numbered ds all timed (front ++ e ∷ []) rest (whole ∙ sym (append_assoc front (e ∷ []) rest)) (more_wait front e (wait_timely ds _ (waited front) _ e is.fits few)) k)

same_waits : (es : List Event) → sum_by waited_by es ≡ sum_by wait_of es
same_waits [] = refl
same_waits (e ∷ es) = sum_by-cons waited_by e es ∙ ap (λ (n : ℕ). n + sum_by waited_by es) (sym (wait_same e)) ∙ ap (λ (n : ℕ). wait_of e + n) (same_waits es) ∙ sym (sum_by-cons wait_of e es)

short_waits : (es : List Event) → waited es ≤ 36000000 → sum_by waited_by es ≤ 36000000
unfolding waited
short_waits es few = omega (arith, few, same_waits es)

numbers_some : (b : Bool) → 1 ≤ numbers_in b
numbers_some true = omega arith
numbers_some false = omega arith

pub meets_premises : (c : Content) → IsLawful c → AreFew c.declarations → MeetsPremises c
meets_premises c lawful few = record {
  apart = apart_from c.declarations (λ before d after whole. let is = lawful.declarations before d after whole in is.free) [] c.declarations 0 refl;
  numbers = numbers_some (is_numbered c.version);
  early = λ k.
      let waits = short_waits (take k c.events) (waits_from (is_numbered c.version) c.declarations c.events lawful.events [] c.events refl none_wait k) in
      let now = now_is (setup_of c) (take k c.events) in
      let start : c.start.0 ≤ 2 ^ 40 = lawful.start in
      omega (arith, waits, now, start);
  small = λ n host at. let w = within n host at in omega (arith, w);
  node = λ n host at o same. let w = within n host at in absurd (omega (arith, w, same));
}
  where
    within : (n : ℕ) (host : Host) → slice_get (hosts_from c.declarations 0 c.declarations) n ≡ Some host → n < 32
    within n host at = let inside = slice_get_within (hosts_from c.declarations 0 c.declarations) n host at in let many = hosts_count c.declarations 0 c.declarations in let nodes = few.nodes in omega (arith, inside, many, nodes)
