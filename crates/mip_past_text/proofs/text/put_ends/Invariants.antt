use Rattle.std.proofs.Common.{◌≡◌, ◌++◌, drop}
use Rattle.mip_past_text.specs.Text.{due_lines}
use Rattle.mip_past_text.proofs.text.put_ends.Given as goal

abbrev pub invariant-loop-one : goal.invariant-loop-one
invariant-loop-one l = l.out ++ due_lines l.asked.scene.declarations.now l.asked.node (drop l.one-index l.ends) ≡ l.fn.out ++ due_lines l.asked.scene.declarations.now l.asked.node l.ends
