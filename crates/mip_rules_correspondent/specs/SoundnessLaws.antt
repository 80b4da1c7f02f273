-- Laws and invariants of Soundness: only proofs stand on them.
use Rattle.std.specs.Prelude.{◌≡◌, ℕ, false, Some}
use Rattle.mip_words.specs.Sequence.{is_after}
use Rattle.mip_reception.specs.declared.registration.Registration.{Registration}
use Rattle.mip_rules_correspondent.specs.Verdicts.{Bench}

-- it was denied for its sequence: it does not come after the one that is kept
pub record IsBehind (b : Bench) (r : Registration) (last : ℕ) : Type 0 where
  pub kept : b.floor ≡ Some last
  pub behind : is_after r.sequence last ≡ false
