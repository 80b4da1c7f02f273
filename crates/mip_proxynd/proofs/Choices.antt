-- Which options count: going through them one by one finds what the whole list says.
use Rattle.std.proofs.Common.{◌≡◌, ℕ, true, false, eqb, List, [], ◌∷◌, ◌++◌, inl, inr, refl, sym, ◌∙◌, arith}
use Rattle.std.specs.Prelude.{map, slice_index}
use Rattle.std.specs.Option.{option_to_list}
use Rattle.std.proofs.lemmas.Bool.{cases_eq, eq-eqb, ne_eqb}
use Rattle.mip_icmp.specs.WalkLaws.{seen_by}
use Rattle.mip_icmp.proofs.Choices.{first_one, first_more}
use Rattle.mip_proxynd.specs.declared.layers.Layers.{Layers}
use Rattle.mip_proxynd.specs.Options.{layer_at, of_type, first_of, layers_from}
use Rattle.mip_proxynd.specs.Reading.{noted, nothing}

-- what is seen after these options
abbrev pub seen_after : Layers → List (List ℕ) → Layers
seen_after seen options = seen_by noted seen options

-- what these options say behind what was seen
abbrev said_with : Layers → List (List ℕ) → Layers
said_with seen options = record {
  source = first_of (option_to_list seen.source ++ map layer_at (of_type 1 options));
  target = first_of (option_to_list seen.target ++ map layer_at (of_type 2 options));
}

one_more : (seen : Layers) (o : List ℕ) (options : List (List ℕ)) → said_with seen (o ∷ options) ≡ said_with (noted seen o) options
one_more seen o options =
    let t = slice_index o 0 in
    elim (cases_eq t 1) [
      | inl e ↦
          let a : eqb t 1 ≡ true = eq-eqb t 1 e in
          let b : eqb t 2 ≡ false = ne_eqb t 2 (λ f. omega arith) in
          rw (a, b) (rw (first_more seen.source (layer_at o) (map layer_at (of_type 1 options))) refl)
      | inr e ↦
          let a : eqb t 1 ≡ false = ne_eqb t 1 e in
          elim (cases_eq t 2) [
            | inl f ↦
                let b : eqb t 2 ≡ true = eq-eqb t 2 f in
                rw (a, b) (rw (first_more seen.target (layer_at o) (map layer_at (of_type 2 options))) refl)
            | inr f ↦
                let b : eqb t 2 ≡ false = ne_eqb t 2 f in
                rw (a, b) refl
          ]
    ]

all_said : (seen : Layers) (options : List (List ℕ)) → seen_after seen options ≡ said_with seen options
all_said seen [] = rw (first_one seen.source, first_one seen.target) refl
all_said seen (o ∷ options) = all_said (noted seen o) options ∙ sym (one_more seen o options)

-- from the first option on
pub layers_from_seen : (options : List (List ℕ)) → seen_after nothing options ≡ layers_from options
layers_from_seen options = all_said nothing options
