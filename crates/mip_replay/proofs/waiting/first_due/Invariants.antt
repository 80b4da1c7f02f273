use Rattle.std.proofs.Common.{◌≡◌}
use Rattle.std.specs.Prelude.{option_map}
use Rattle.mip_words.specs.declared.moment.Moment.{Moment}
use Rattle.mip_history.specs.Waiting.{earliest}
use Rattle.mip_replay.proofs.WaitLaws.{due_at}
use Rattle.mip_replay.proofs.waiting.first_due.Given as goal

abbrev pub invariant-loop-node : goal.invariant-loop-node
invariant-loop-node l = option_map (λ (m : Moment). m.0) l.first ≡ earliest (due_at l.engine) l.node
