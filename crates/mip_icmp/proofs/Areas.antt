-- The two laws of an area of options: what is read is spelled so, and what is spelled so is read.
use Rattle.std.proofs.Common.{◌≡◌, ℕ, ◌<◌, ◌≤◌, Bool, true, eqb, ◌||◌, List, ◌++◌, length, Some, Ok, inl, inr, refl, sym, ap, ◌∙◌, arith}
use Rattle.std.specs.Prelude.{slice_index}
use Rattle.std.proofs.lemmas.Bool.{cond_both, cases_Bool, eqb-true, eqb-false, not-true}
use Rattle.mip_words.proofs.Fields.{number_at-append}
use Rattle.mip_words.proofs.StepLaws.{done}
use Rattle.mip_icmp.specs.declared.prefix_info.PrefixInfo.{PrefixInfo}
use Rattle.mip_icmp.specs.declared.options.IcmpSet.{IcmpSet}
use Rattle.mip_icmp.specs.declared.fault.IcmpFault.TheVariants as faults
use Rattle.mip_icmp.specs.Options.{prefix_at, interval_at, agent_at, has_units, IsOption, IsArea}
use Rattle.mip_icmp.specs.Reading.{preferred_of, noted, options_after, nothing}
use Rattle.mip_icmp.proofs.Cuts.{at-append, option_long, area_cut, options_again}
use Rattle.mip_icmp.proofs.Choices.{set_from_seen}

-- an option takes some bytes
units_some : (type units : ℕ) → has_units type units ≡ true → 0 < units
units_some type units e =
    let P : Bool → Type 0 = λ b. b ≡ true → 0 < units in
    cond_both (eqb type 3) _ _ P (λ _ is. omega (arith, eqb-true units 4 is)) (λ _.
    cond_both (eqb type 7 || eqb type 8) _ _ P (λ _ is. omega (arith, eqb-true units 1 is)) (λ _ is.
    let no : units ≡ 0 → ⊥ = eqb-false units 0 (not-true (eqb units 0) is) in omega arith)) e

units_four : (type units : ℕ) → type ≡ 3 → has_units type units ≡ true → units ≡ 4
units_four type units is e =
    let P : Bool → Type 0 = λ b. b ≡ true → units ≡ 4 in
    cond_both (eqb type 3) _ _ P (λ _ four. eqb-true units 4 four) (λ no _. absurd (eqb-false type 3 no is)) e

prefix_at-append : (option rest : List ℕ) → 32 ≤ length option → prefix_at (option ++ rest) ≡ prefix_at option
prefix_at-append option rest long =
    rw (at-append option rest 2 (omega arith), at-append option rest 3 (omega arith), number_at-append 4 4 option rest (omega arith), number_at-append 4 8 option rest (omega arith), number_at-append 16 16 option rest (omega arith)) refl

interval_at-append : (option rest : List ℕ) → 8 ≤ length option → interval_at (option ++ rest) ≡ interval_at option
interval_at-append option rest long = number_at-append 4 4 option rest (omega arith)

agent_at-append : (option rest : List ℕ) → 8 ≤ length option → agent_at (option ++ rest) ≡ agent_at option
agent_at-append option rest long = rw (number_at-append 2 4 option rest (omega arith), number_at-append 2 6 option rest (omega arith)) refl

-- an option says the same with other bytes behind it
noted-append : (seen : IcmpSet) (option rest : List ℕ) → IsOption option → noted seen (option ++ rest) ≡ noted seen option
noted-append seen option rest is =
    let t = slice_index option 0 in
    let long = option_long has_units units_some option is in
    rw (at-append option rest 0 (omega arith))
    (elim (cases_Bool (eqb t 3)) [
      | inl three ↦
          let whole : 32 ≤ length option = omega (arith, is.whole, units_four t (slice_index option 1) (eqb-true t 3 three) is.units) in
          rw three (ap (λ (p : PrefixInfo). record seen { prefix = Some (preferred_of seen.prefix p) }) (prefix_at-append option rest whole))
      | inr three ↦ rw (three, interval_at-append option rest long, agent_at-append option rest long) refl
    ])

-- what is read is spelled so
pub area_takes : (place : ℕ) (area : List ℕ) (set : IcmpSet) → options_after 0 nothing place area ≡ Ok set → IsArea set area
area_takes place area set e =
    let cut = area_cut has_units noted faults.Option units_some noted-append (length area) nothing place area set (omega arith) e in
    (cut.options, cut.are, cut.whole, sym (set_from_seen cut.options) ∙ cut.set_now)

-- what is spelled so is read
pub area_again : (place : ℕ) (area : List ℕ) (set : IcmpSet) → IsArea set area → options_after 0 nothing place area ≡ Ok set
area_again place area set is =
    ap (options_after 0 nothing place) is.2 ∙ options_again has_units noted faults.Option units_some noted-append nothing place is.0 is.1 ∙ ap done (set_from_seen is.0 ∙ is.3)
