-- The two laws of a message: what is read is spelled so, and what is spelled so is read.
use Rattle.std.proofs.Common.{◌≡◌, ℕ, ◌%◌, ◌≤◌, true, eqb, ltb, not, ◌||◌, List, length, drop, Result, Ok, Err, refl, sym, ap, subst, ◌∙◌}
use Rattle.std.specs.Prelude.{slice_index, IfOk}
use Rattle.std.proofs.lemmas.Bool.{cond_both, cond-false, eqb-true, ltb-false, le-ltb, not-false, not_from_true, or_parts, or_from, eq-eqb}
use Rattle.mip_words.specs.Numbers.{number_at}
use Rattle.mip_words.specs.Steps.{Gives}
use Rattle.mip_words.specs.declared.address.Address.{Address}
use Rattle.mip_words.proofs.StepLaws.{bind_ok, done, ok_is}
use Rattle.mip_ipv6.specs.Sum.{message_sum, is_right_sum}
use Rattle.mip_icmp.specs.declared.options.IcmpSet.{IcmpSet}
use Rattle.mip_icmp.specs.declared.message.Icmp.{Icmp}
use Rattle.mip_icmp.specs.declared.fault.IcmpFault.{IcmpFault}
use Rattle.mip_icmp.specs.Fields.{least_size, is_known, identifier_at, is_agent_flag}
use Rattle.mip_icmp.specs.Said.{Said, Parameter, Advertisement, DiscoverAsk, DiscoverReply, PrefixAsk, PrefixReply, said}
use Rattle.mip_icmp.specs.Reading.{area_of, kind_of, parameter_in, advertisement_in, agents_in, prefixes_in, fields_in, icmp_of}
use Rattle.mip_icmp.specs.Spelling.{type_of, IsFields, IsIcmp}
use Rattle.mip_icmp.proofs.Areas.{area_takes, area_again}

-- all tests before the fields have passed
record Checked (source destination : Address) (body : List ℕ) (type : ℕ) : Type 0 where
  long : least_size type ≤ length body
  sum : message_sum source destination 58 body % 65535 ≡ 0
  known : is_known type ≡ true
  code : slice_index body 1 ≡ 0
  first : slice_index body 0 ≡ type

checked_takes : (source destination : Address) (body : List ℕ) (type : ℕ) → kind_of source destination body ≡ Ok type → Checked source destination body type
unfolding kind_of
checked_takes source destination body type =
    let t = slice_index body 0 in
    let P : Result ℕ IcmpFault → Type 0 = λ r. r ≡ Ok type → Checked source destination body type in
    cond_both (ltb (length body) (least_size t)) _ _ P (λ _ e. absurd cc) (λ long.
    cond_both (not (is_right_sum source destination 58 body)) _ _ P (λ _ e. absurd cc) (λ sum.
    cond_both (not (is_known t) || not (eqb (slice_index body 1) 0)) _ _ P (λ _ e. absurd cc) (λ known e.
    let parts = or_parts _ _ known in
    let passed : Checked source destination body t = record {
      long = ltb-false _ _ long;
      sum = eqb-true _ 0 (not-false _ sum);
      known = not-false _ parts.0;
      code = eqb-true _ 0 (not-false _ parts.1);
      first = refl;
    } in
    subst (λ (y : ℕ). Checked source destination body y) (ok_is t type e) passed)))

-- the fields of a message of this type
record Fields (type : ℕ) (body : List ℕ) (m : Said) : Type 0 where
  type_is : type ≡ type_of m
  fields : IsFields m body

advertisement_takes : (body : List ℕ) (m : Said) → advertisement_in body ≡ Ok m → Fields 134 body m
unfolding advertisement_in
advertisement_takes body m e =
    let made = λ (o : IcmpSet). Advertisement (slice_index body 4) (is_agent_flag (slice_index body 5)) (number_at 2 6 body) o in
    let b = bind_ok (area_of 16 body) (λ o. Ok (made o)) m e in
    subst (λ (y : Said). Fields 134 body y) (ok_is (made b.0) m b.2) (record { type_is = refl; fields = (refl, refl, refl, area_takes 16 (drop 16 body) b.0 b.1) })

agents_takes : (body : List ℕ) (m : Said) → agents_in body ≡ Ok m → Fields 145 body m
unfolding agents_in
agents_takes body m =
    let made = DiscoverReply (identifier_at body) (drop 8 body) in
    let P : Result Said IcmpFault → Type 0 = λ r. r ≡ Ok m → Fields 145 body m in
    cond_both (eqb (length (drop 8 body) % 16) 0) _ _ P (λ whole e. subst (λ (y : Said). Fields 145 body y) (ok_is made m e) (record { type_is = refl; fields = (refl, refl, eqb-true _ 0 whole) })) (λ _ e. absurd cc)

prefixes_takes : (body : List ℕ) (m : Said) → prefixes_in body ≡ Ok m → Fields 147 body m
unfolding prefixes_in
prefixes_takes body m e =
    let made = λ (o : IcmpSet). PrefixReply (identifier_at body) o in
    let b = bind_ok (area_of 8 body) (λ o. Ok (made o)) m e in
    subst (λ (y : Said). Fields 147 body y) (ok_is (made b.0) m b.2) (record { type_is = refl; fields = (refl, area_takes 8 (drop 8 body) b.0 b.1) })

fields_takes : (type : ℕ) (body : List ℕ) (m : Said) → is_known type ≡ true → fields_in type body ≡ Ok m → Fields type body m
unfolding fields_in parameter_in
fields_takes type body m known =
    let P : Result Said IcmpFault → Type 0 = λ r. r ≡ Ok m → Fields type body m in
    cond_both (eqb type 4) _ _ P (λ is e. subst (λ (y : Said). Fields type body y) (ok_is (Parameter (number_at 4 4 body) (drop 8 body)) m e) (record { type_is = eqb-true type 4 is; fields = (refl, refl) })) (λ four.
    cond_both (eqb type 134) _ _ P (λ is e. subst (λ (t : ℕ). Fields t body m) (sym (eqb-true type 134 is)) (advertisement_takes body m e)) (λ advertisement.
    cond_both (eqb type 144) _ _ P (λ is e. subst (λ (y : Said). Fields type body y) (ok_is (DiscoverAsk (identifier_at body)) m e) (record { type_is = eqb-true type 144 is; fields = refl })) (λ ask.
    cond_both (eqb type 145) _ _ P (λ is e. subst (λ (t : ℕ). Fields t body m) (sym (eqb-true type 145 is)) (agents_takes body m e)) (λ reply.
    cond_both (eqb type 146) _ _ P (λ is e. subst (λ (y : Said). Fields type body y) (ok_is (PrefixAsk (identifier_at body)) m e) (record { type_is = eqb-true type 146 is; fields = refl })) (λ prefix e.
    let last : eqb type 147 ≡ true = simp (four, advertisement, ask, reply, prefix) at known in
    subst (λ (t : ℕ). Fields t body m) (sym (eqb-true type 147 last)) (prefixes_takes body m e))))))

-- what is read is spelled so
icmp_takes : (source destination : Address) (body : List ℕ) (m : Said) → icmp_of source destination body ≡ Ok m → IsIcmp source destination m body
unfolding icmp_of
icmp_takes source destination body m e =
    let b = bind_ok (kind_of source destination body) (λ type. fields_in type body) m e in
    let passed = checked_takes source destination body b.0 b.1 in
    let f = fields_takes b.0 body m passed.known b.2 in
    record {
      long = subst (λ (t : ℕ). least_size t ≤ length body) f.type_is passed.long;
      sum = passed.sum;
      type = passed.first ∙ f.type_is;
      code = passed.code;
      fields = f.fields;
    }

all_known : (m : Said) → is_known (type_of m) ≡ true
all_known (Parameter pointer quoted) = refl
all_known (Advertisement hop agent life options) = refl
all_known (DiscoverAsk identifier) = refl
all_known (DiscoverReply identifier agents) = refl
all_known (PrefixAsk identifier) = refl
all_known (PrefixReply identifier options) = refl

checked_again : (source destination : Address) (body : List ℕ) (m : Said) → IsIcmp source destination m body → kind_of source destination body ≡ Ok (type_of m)
unfolding kind_of
checked_again source destination body m is =
    let t = slice_index body 0 in
    let long : least_size t ≤ length body = subst (λ (x : ℕ). least_size x ≤ length body) (sym is.type) is.long in
    let known : is_known t ≡ true = ap is_known is.type ∙ all_known m in
    let code : eqb (slice_index body 1) 0 ≡ true = eq-eqb _ 0 is.code in
    cond-false _ _ _ (le-ltb _ _ long) ∙ cond-false _ _ _ (not_from_true _ (eq-eqb _ 0 is.sum)) ∙ cond-false _ _ _ (or_from _ _ (not_from_true _ known) (not_from_true _ code)) ∙ ap done is.type

fields_again : (m : Said) (body : List ℕ) → IsFields m body → fields_in (type_of m) body ≡ Ok m
unfolding fields_in parameter_in advertisement_in agents_in prefixes_in
fields_again (Parameter pointer quoted) body is = rw (is.0, is.1) refl
fields_again (Advertisement hop agent life options) body is = rw (area_again 16 (drop 16 body) options is.3, is.0, is.1, is.2) refl
fields_again (DiscoverAsk identifier) body is = rw is refl
fields_again (DiscoverReply identifier agents) body is = rw (is.0, is.1, is.2) refl
fields_again (PrefixAsk identifier) body is = rw is refl
fields_again (PrefixReply identifier options) body is = rw (area_again 8 (drop 8 body) options is.1, is.0) refl

-- what is spelled so is read
pub icmp_again : (source destination : Address) (body : List ℕ) (m : Said) → IsIcmp source destination m body → icmp_of source destination body ≡ Ok m
unfolding icmp_of
icmp_again source destination body m is = rw (checked_again source destination body m is) (fields_again m body is.fields)

pub is_found : (source destination : Address) (body : List ℕ) (r : Result Icmp IcmpFault) → Gives said r (icmp_of source destination body) → IfOk r (λ m. IsIcmp source destination (said m) body)
is_found source destination body (Ok m) given = icmp_takes source destination body (said m) given
is_found source destination body (Err e) given = tt
