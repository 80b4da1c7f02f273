-- The two laws of an area of options: what is read is spelled so, and what is spelled so is read.
use Rattle.std.proofs.Common.{◌≡◌, ℕ, ◌+◌, ◌<◌, ◌≤◌, Bool, true, eqb, ◌||◌, List, ◌++◌, length, take, drop, Ok, refl, sym, ap, ◌∙◌, arith, length-drop}
use Rattle.std.proofs.lemmas.Bool.{cond_both, eqb-true, eqb-false, not-true}
use Rattle.std.proofs.lemmas.List.{drop-append-le, take-append-le}
use Rattle.mip_words.proofs.StepLaws.{done}
use Rattle.mip_icmp.proofs.Cuts.{at-append, option_long, area_cut, options_again}
use Rattle.mip_proxynd.specs.declared.layers.Layers.{Layers}
use Rattle.mip_proxynd.specs.declared.fault.NeighbourFault.TheVariants as faults
use Rattle.mip_proxynd.specs.Options.{layer_at, has_units, IsOption, IsArea}
use Rattle.mip_proxynd.specs.Reading.{noted, options_after, nothing}
use Rattle.mip_proxynd.proofs.Choices.{layers_from_seen}

-- an option takes some bytes
units_some : (type units : ℕ) → has_units type units ≡ true → 0 < units
units_some type units e =
    let P : Bool → Type 0 = λ b. b ≡ true → 0 < units in
    cond_both (eqb type 1 || eqb type 2) _ _ P (λ _ is. omega (arith, eqb-true units 1 is)) (λ _ is.
    let no : units ≡ 0 → ⊥ = eqb-false units 0 (not-true (eqb units 0) is) in omega arith) e

-- a piece of a list, with more behind the list
piece_kept : {A : Type 0} (i n : ℕ) (xs ys : List A) → i + n ≤ length xs → take n (drop i (xs ++ ys)) ≡ take n (drop i xs)
piece_kept i n xs ys inside = rw (drop-append-le i xs ys (omega (arith, inside))) (take-append-le n (drop i xs) ys (omega (arith, length-drop i xs, inside)))

layer_at-append : (option rest : List ℕ) → 8 ≤ length option → layer_at (option ++ rest) ≡ layer_at option
layer_at-append option rest long = piece_kept 2 6 option rest long

-- an option says the same with other bytes behind it
noted-append : (seen : Layers) (option rest : List ℕ) → IsOption option → noted seen (option ++ rest) ≡ noted seen option
noted-append seen option rest is =
    let long = option_long has_units units_some option is in
    rw (at-append option rest 0 (omega arith), layer_at-append option rest long) refl

-- what is read is spelled so
pub area_takes : (place : ℕ) (area : List ℕ) (set : Layers) → options_after 0 nothing place area ≡ Ok set → IsArea set area
area_takes place area set e =
    let cut = area_cut has_units noted faults.Option units_some noted-append (length area) nothing place area set (omega arith) e in
    (cut.options, cut.are, cut.whole, sym (layers_from_seen cut.options) ∙ cut.set_now)

-- what is spelled so is read
pub area_again : (place : ℕ) (area : List ℕ) (set : Layers) → IsArea set area → options_after 0 nothing place area ≡ Ok set
area_again place area set is =
    ap (options_after 0 nothing place) is.2 ∙ options_again has_units noted faults.Option units_some noted-append nothing place is.0 is.1 ∙ ap done (layers_from_seen is.0 ∙ is.3)
