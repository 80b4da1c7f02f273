use Rattle.std.proofs.Common.{◌≡◌, ◌++◌, drop}
use Rattle.mip_homeagent.specs.Endings.{answers_released}
use Rattle.mip_homeagent.proofs.answering.note_ends.Given as goal

abbrev pub invariant-loop-end : goal.invariant-loop-end
invariant-loop-end l = l.answers ++ answers_released (drop l.end-index l.ends) ≡ answers_released l.ends
