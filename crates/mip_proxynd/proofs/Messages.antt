-- The two laws of a message: what is read is spelled so, and what is spelled so is read.
use Rattle.std.proofs.Common.{◌≡◌, ℕ, ◌%◌, ◌≤◌, true, false, eqb, ltb, not, ◌||◌, List, length, drop, Result, Ok, Err, refl, sym, ap, subst, ◌∙◌}
use Rattle.std.specs.Prelude.{slice_index, IfOk}
use Rattle.std.proofs.lemmas.Bool.{cond_both, cond-false, eqb-true, ltb-false, le-ltb, not-false, not_from_true, or_parts, or_from, eq-eqb}
use Rattle.mip_words.specs.Steps.{◌>>=◌, Gives}
use Rattle.mip_words.specs.declared.address.Address.{Address}
use Rattle.mip_words.proofs.StepLaws.{bind_ok, done, ok_is}
use Rattle.mip_ipv6.specs.Sum.{message_sum, is_right_sum}
use Rattle.mip_proxynd.specs.declared.layers.Layers.{Layers}
use Rattle.mip_proxynd.specs.declared.neighbour.Neighbour.{Neighbour}
use Rattle.mip_proxynd.specs.declared.neighbour.Neighbour.TheVariants.{Solicit, Advert}
use Rattle.mip_proxynd.specs.declared.fault.NeighbourFault.{NeighbourFault}
use Rattle.mip_proxynd.specs.Fields.{is_known, is_group, target_at}
use Rattle.mip_proxynd.specs.Options.{IsArea}
use Rattle.mip_proxynd.specs.Reading.{area_of, kind_of, message_in, neighbour_of}
use Rattle.mip_proxynd.specs.Spelling.{type_of, IsFields, IsNeighbour}
use Rattle.mip_proxynd.proofs.Areas.{area_takes, area_again}

-- all tests before the options have passed
record Checked (source destination : Address) (hop : ℕ) (body : List ℕ) (type : ℕ) : Type 0 where
  near : hop ≡ 255
  long : 24 ≤ length body
  sum : message_sum source destination 58 body % 65535 ≡ 0
  known : is_known type ≡ true
  code : slice_index body 1 ≡ 0
  target : is_group (target_at body) ≡ false
  first : slice_index body 0 ≡ type

checked_takes : (source destination : Address) (hop : ℕ) (body : List ℕ) (type : ℕ) → kind_of source destination hop body ≡ Ok type → Checked source destination hop body type
unfolding kind_of
checked_takes source destination hop body type =
    let t = slice_index body 0 in
    let P : Result ℕ NeighbourFault → Type 0 = λ r. r ≡ Ok type → Checked source destination hop body type in
    cond_both (not (eqb hop 255)) _ _ P (λ _ e. absurd cc) (λ near.
    cond_both (ltb (length body) 24) _ _ P (λ _ e. absurd cc) (λ long.
    cond_both (not (is_right_sum source destination 58 body)) _ _ P (λ _ e. absurd cc) (λ sum.
    cond_both (not (is_known t) || not (eqb (slice_index body 1) 0)) _ _ P (λ _ e. absurd cc) (λ known.
    cond_both (is_group (target_at body)) _ _ P (λ _ e. absurd cc) (λ target e.
    let parts = or_parts _ _ known in
    let passed : Checked source destination hop body t = record {
      near = eqb-true _ 255 (not-false _ near);
      long = ltb-false _ _ long;
      sum = eqb-true _ 0 (not-false _ sum);
      known = not-false _ parts.0;
      code = eqb-true _ 0 (not-false _ parts.1);
      target = target;
      first = refl;
    } in
    subst (λ (y : ℕ). Checked source destination hop body y) (ok_is t type e) passed)))))

-- the message of this type with these link-layer addresses
record Fields (type : ℕ) (body : List ℕ) (m : Neighbour) : Type 0 where
  type_is : type ≡ type_of m
  fields : IsFields m body

fields_takes : (type : ℕ) (body : List ℕ) (layers : Layers) → is_known type ≡ true → IsArea layers (drop 24 body) → Fields type body (message_in type body layers)
unfolding message_in
fields_takes type body layers known area =
    cond_both (eqb type 135) _ _ (λ m. Fields type body m)
    (λ is. record { type_is = eqb-true type 135 is; fields = (refl, layers, area, refl) })
    (λ no.
    let last : eqb type 136 ≡ true = simp no at known in
    record { type_is = eqb-true type 136 last; fields = (refl, refl, refl, refl, layers, area, refl) })

-- what is read is spelled so
neighbour_takes : (source destination : Address) (hop : ℕ) (body : List ℕ) (m : Neighbour) → neighbour_of source destination hop body ≡ Ok m → IsNeighbour source destination hop m body
unfolding neighbour_of
neighbour_takes source destination hop body m e =
    let b = bind_ok (kind_of source destination hop body) (λ type. area_of 24 body >>= (λ layers. Ok (message_in type body layers))) m e in
    let o = bind_ok (area_of 24 body) (λ layers. Ok (message_in b.0 body layers)) m b.2 in
    let passed = checked_takes source destination hop body b.0 b.1 in
    let f = subst (λ (y : Neighbour). Fields b.0 body y) (ok_is (message_in b.0 body o.0) m o.2) (fields_takes b.0 body o.0 passed.known (area_takes 24 (drop 24 body) o.0 o.1)) in
    record {
      near = passed.near;
      long = passed.long;
      sum = passed.sum;
      type = passed.first ∙ f.type_is;
      code = passed.code;
      target = passed.target;
      fields = f.fields;
    }

all_known : (m : Neighbour) → is_known (type_of m) ≡ true
all_known (Solicit target layer) = refl
all_known (Advert router solicited over target layer) = refl

checked_again : (source destination : Address) (hop : ℕ) (body : List ℕ) (m : Neighbour) → IsNeighbour source destination hop m body → kind_of source destination hop body ≡ Ok (type_of m)
unfolding kind_of
checked_again source destination hop body m is =
    let known : is_known (slice_index body 0) ≡ true = ap is_known is.type ∙ all_known m in
    let code : eqb (slice_index body 1) 0 ≡ true = eq-eqb _ 0 is.code in
    cond-false _ _ _ (not_from_true _ (eq-eqb _ 255 is.near))
    ∙ cond-false _ _ _ (le-ltb _ _ is.long)
    ∙ cond-false _ _ _ (not_from_true _ (eq-eqb _ 0 is.sum))
    ∙ cond-false _ _ _ (or_from _ _ (not_from_true _ known) (not_from_true _ code))
    ∙ cond-false _ _ _ is.target
    ∙ ap done is.type

-- the link-layer addresses of a message's options
record Laid (m : Neighbour) (body : List ℕ) : Type 0 where
  layers : Layers
  area : IsArea layers (drop 24 body)
  says : message_in (type_of m) body layers ≡ m

laid : (m : Neighbour) (body : List ℕ) → IsFields m body → Laid m body
unfolding message_in
laid (Solicit target layer) body is = record { layers = is.1; area = is.2; says = rw (is.0, is.3) refl }
laid (Advert router solicited over target layer) body is = record { layers = is.4; area = is.5; says = rw (is.0, is.1, is.2, is.3, is.6) refl }

-- what is spelled so is read
pub neighbour_again : (source destination : Address) (hop : ℕ) (body : List ℕ) (m : Neighbour) → IsNeighbour source destination hop m body → neighbour_of source destination hop body ≡ Ok m
unfolding neighbour_of
neighbour_again source destination hop body m is =
    let l = laid m body is.fields in
    rw (checked_again source destination hop body m is, area_again 24 (drop 24 body) l.layers l.area) (ap done l.says)

pub is_found : (source destination : Address) (hop : ℕ) (body : List ℕ) (r : Result Neighbour NeighbourFault) → Gives (λ m. m) r (neighbour_of source destination hop body) → IfOk r (λ m. IsNeighbour source destination hop m body)
is_found source destination hop body (Ok m) given = neighbour_takes source destination hop body m given
is_found source destination hop body (Err e) given = tt

pub is_read : (source destination : Address) (hop : ℕ) (body : List ℕ) (r : Result Neighbour NeighbourFault) → Gives (λ m. m) r (neighbour_of source destination hop body) → (m : Neighbour) → IsNeighbour source destination hop m body → r ≡ Ok m
is_read source destination hop body (Ok n) given m is = sym given ∙ neighbour_again source destination hop body m is
is_read source destination hop body (Err e) given m is = sym given ∙ neighbour_again source destination hop body m is
