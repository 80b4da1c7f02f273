-- Laws and invariants of Verdicts: only proofs stand on them.
use Rattle.std.specs.Prelude.{Bool, not, Option, is_some}
use Rattle.mip_words.specs.declared.shield.Shield.{Shield}
use Rattle.mip_reception.specs.declared.registration.Registration.{Registration}
use Rattle.mip_rules_agent.specs.declared.bench.Bench.{Bench}
use Rattle.mip_rules_agent.specs.Verdicts.{before_claim}

-- the verdict rests on the claim
abbrev pub asks_claim : Bench → Option Shield → Registration → Bool
asks_claim b shield r = not (is_some (before_claim b shield r))
