-- The tokens from which mobiles made updates, after one more.
use Rattle.std.proofs.Common.{◌≡◌, ℕ, Bool, true, false, refl, sym, ap, ◌∙◌}
use Rattle.std.specs.Prelude.{Option, Some, None, ◌==◌, ◌&&◌, option_map, is_some, if◌then◌else◌}
use Rattle.std.specs.Option.{option_or}
use Rattle.std.proofs.lemmas.Bool.{and_parts, eqb-true}
use Rattle.mip_provenance.specs.declared.pair.Pair.{Pair as FoundPair}
use Rattle.mip_provenance.specs.Seen.{pair_of}

pub none_there : {X : Type 0} (at : ℕ → ℕ → Option X) (x y n k : ℕ) → is_some (at x y) ≡ false → (x == n && y == k) ≡ true → at n k ≡ None
none_there {X = X} at x y n k none test =
    let parts = and_parts (x == n) (y == k) test in
    sym (ap (λ (m : ℕ). at m k) (eqb-true x n parts.0)) ∙ sym (ap (λ (l : ℕ). at x l) (eqb-true y k parts.1)) ∙ by (at x y) none
  where
    by : (o : Option X) → is_some o ≡ false → o ≡ None
    by None e = refl
    by (Some z) e = absurd cc

pub made_put : (pair : FoundPair) (old new : Option FoundPair) (b : Bool) → new ≡ (if b then Some pair else old) → (b ≡ true → old ≡ None)
    → option_map pair_of new ≡ option_or (option_map pair_of old) (if b then Some (pair_of pair) else None)
made_put pair old new true is none =
    ap (λ (o : Option FoundPair). option_map pair_of o) is ∙ sym (ap (λ (o : Option FoundPair). option_or (option_map pair_of o) (Some (pair_of pair))) (none refl))
made_put pair old new false is none = ap (λ (o : Option FoundPair). option_map pair_of o) is ∙ by old
  where
    by : (o : Option FoundPair) → option_map pair_of o ≡ option_or (option_map pair_of o) None
    by None = refl
    by (Some x) = refl
