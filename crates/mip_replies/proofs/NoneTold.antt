-- An answer of which nothing was told.
use Rattle.std.proofs.Common.{ℕ, List, refl, arith}
use Rattle.std.specs.declared.option.Option.{Option}
use Rattle.mip_outside.proofs.Known.{append_none}
use Rattle.mip_replies.specs.Answers.{Answer}
use Rattle.mip_replies.specs.Told.{Told}

-- memory ran out before anything was written
pub none_told : (answer : Answer) (held : Option (List ℕ)) → Told answer 5 held held
none_told answer held = record {
  conclusive = λ s. absurd (s.no_want_of_memory refl);
  part = λ fault. absurd (omega (arith, fault));
  front = (0, append_none _ _ refl);
}
