-- Which options count: going through them one by one finds what the whole list says.
use Rattle.std.proofs.Common.{◌≡◌, ℕ, true, false, cond, eqb, List, [], ◌∷◌, ◌++◌, Option, Some, None, inl, inr, refl, sym, ◌∙◌, arith}
use Rattle.std.specs.Prelude.{map, slice_index}
use Rattle.std.specs.Option.{option_or, option_to_list}
use Rattle.std.proofs.lemmas.Bool.{cases_Bool, cases_eq, eq-eqb, ne_eqb}
use Rattle.mip_icmp.specs.WalkLaws.{seen_by}
use Rattle.mip_icmp.specs.declared.prefix_info.PrefixInfo.{PrefixInfo}
use Rattle.mip_icmp.specs.declared.options.IcmpSet.{IcmpSet}
use Rattle.mip_icmp.specs.Options.{prefix_at, interval_at, agent_at, of_type, first_of, preferred_among, set_from}
use Rattle.mip_icmp.specs.Reading.{preferred_of, noted, nothing}

-- what is seen after these options
abbrev pub seen_after : IcmpSet → List (List ℕ) → IcmpSet
seen_after seen options = seen_by noted seen options

-- what these options say behind what was seen
abbrev said_with : IcmpSet → List (List ℕ) → IcmpSet
said_with seen options = record {
  prefix = preferred_among (option_to_list seen.prefix ++ map prefix_at (of_type 3 options));
  interval = first_of (option_to_list seen.interval ++ map interval_at (of_type 7 options));
  agent = first_of (option_to_list seen.agent ++ map agent_at (of_type 8 options));
}

pub preferred_one : (seen : Option PrefixInfo) → preferred_among (option_to_list seen ++ []) ≡ seen
preferred_one None = refl
preferred_one (Some x) =
    elim (eqb x.length 64) as (λ b. option_or (cond b (Some x) None) (Some x) ≡ Some x) [ true ↦ refl | false ↦ refl ]

pub first_one : {A : Type 0} (seen : Option A) → first_of (option_to_list seen ++ []) ≡ seen
first_one None = refl
first_one (Some x) = refl

-- of two prefixes at the front one may be left out
preferred_two : (x y : PrefixInfo) (ys : List PrefixInfo) → preferred_among (x ∷ y ∷ ys) ≡ preferred_among (preferred_of (Some x) y ∷ ys)
preferred_two x y ys =
    elim (cases_Bool (eqb x.length 64)) [
      | inl e ↦ simp e
      | inr e ↦ elim (cases_Bool (eqb y.length 64)) [ inl d ↦ simp (e, d) | inr d ↦ simp (e, d) ]
    ]

preferred_more : (seen : Option PrefixInfo) (y : PrefixInfo) (ys : List PrefixInfo) → preferred_among (option_to_list seen ++ (y ∷ ys)) ≡ preferred_among (preferred_of seen y ∷ ys)
preferred_more None y ys = refl
preferred_more (Some x) y ys = preferred_two x y ys

pub first_more : {A : Type 0} (seen : Option A) (y : A) (ys : List A) → first_of (option_to_list seen ++ (y ∷ ys)) ≡ first_of (option_to_list (option_or seen (Some y)) ++ ys)
first_more None y ys = refl
first_more (Some x) y ys = refl

one_more : (seen : IcmpSet) (o : List ℕ) (options : List (List ℕ)) → said_with seen (o ∷ options) ≡ said_with (noted seen o) options
one_more seen o options =
    let t = slice_index o 0 in
    elim (cases_eq t 3) [
      | inl e ↦
          let a : eqb t 3 ≡ true = eq-eqb t 3 e in
          let b : eqb t 7 ≡ false = ne_eqb t 7 (λ f. omega arith) in
          let c : eqb t 8 ≡ false = ne_eqb t 8 (λ f. omega arith) in
          rw (a, b, c) (rw (preferred_more seen.prefix (prefix_at o) (map prefix_at (of_type 3 options))) refl)
      | inr e ↦
          let a : eqb t 3 ≡ false = ne_eqb t 3 e in
          elim (cases_eq t 7) [
            | inl f ↦
                let b : eqb t 7 ≡ true = eq-eqb t 7 f in
                let c : eqb t 8 ≡ false = ne_eqb t 8 (λ g. omega arith) in
                rw (a, b, c) (rw (first_more seen.interval (interval_at o) (map interval_at (of_type 7 options))) refl)
            | inr f ↦
                let b : eqb t 7 ≡ false = ne_eqb t 7 f in
                elim (cases_eq t 8) [
                  | inl g ↦
                      let c : eqb t 8 ≡ true = eq-eqb t 8 g in
                      rw (a, b, c) (rw (first_more seen.agent (agent_at o) (map agent_at (of_type 8 options))) refl)
                  | inr g ↦
                      let c : eqb t 8 ≡ false = ne_eqb t 8 g in
                      rw (a, b, c) refl
                ]
          ]
    ]

all_said : (seen : IcmpSet) (options : List (List ℕ)) → seen_after seen options ≡ said_with seen options
all_said seen [] = rw (preferred_one seen.prefix, first_one seen.interval, first_one seen.agent) refl
all_said seen (o ∷ options) = all_said (noted seen o) options ∙ sym (one_more seen o options)

-- from the first option on
pub set_from_seen : (options : List (List ℕ)) → seen_after nothing options ≡ set_from options
set_from_seen options = all_said nothing options
