use Rattle.std.proofs.Common.{◌≡◌, drop}
use Rattle.std.specs.Prelude.{option_map}
use Rattle.mip_history.specs.Questions.{spot_in}
use Rattle.mip_afresh.proofs.questions.spot.Given as goal

abbrev pub invariant-loop-entry : goal.invariant-loop-entry
invariant-loop-entry l = spot_in (option_map (λ k. k.0) l.spot) (drop l.entry-index l.past) l.node.0 ≡ spot_in (option_map (λ k. k.0) l.fn.home) l.past l.node.0
