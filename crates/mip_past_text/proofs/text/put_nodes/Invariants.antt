use Rattle.std.proofs.Common.{◌≡◌, ◌++◌}
use Rattle.mip_past_text.specs.Fronts.{front_of}
use Rattle.mip_past_text.specs.Text.{nodes_known}
use Rattle.mip_past_text.proofs.text.put_nodes.Given as goal

abbrev pub invariant-loop-number : goal.invariant-loop-number
invariant-loop-number l = l.out ≡ l.fn.out ++ nodes_known l.scene.declarations.now (front_of l.scene) l.number
