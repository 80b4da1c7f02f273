-- Laws and invariants of Differences: only proofs stand on them.
use Rattle.std.specs.Prelude.{◌≡◌, ℕ, List, None, Some}
use Rattle.std.specs.declared.option.Option.{Option}
use Rattle.mip_audit.specs.Differences.{DifferFirstAt}

-- what a judgement says of two texts
abbrev pub IsJudgedSo : Option ℕ → List ℕ → List ℕ → Type 0
IsJudgedSo None given permitted = given ≡ permitted
IsJudgedSo (Some n) given permitted = DifferFirstAt n given permitted
