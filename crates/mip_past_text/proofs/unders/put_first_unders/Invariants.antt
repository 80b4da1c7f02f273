use Rattle.std.proofs.Common.{◌≡◌, ◌++◌}
use Rattle.mip_past_text.specs.Fronts.{front_of}
use Rattle.mip_past_text.specs.Text.{under_lines}
use Rattle.mip_past_text.proofs.unders.put_first_unders.Given as goal

abbrev pub invariant-loop-number : goal.invariant-loop-number
invariant-loop-number l = l.out ≡ l.fn.out ++ under_lines l.asked.scene.declarations.now (front_of l.asked.scene) l.asked.node l.home l.number
