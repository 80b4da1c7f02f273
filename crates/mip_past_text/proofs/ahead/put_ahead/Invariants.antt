use Rattle.std.proofs.Common.{◌≡◌, ◌++◌, drop}
use Rattle.mip_past_text.specs.Led.{work_lines}
use Rattle.mip_past_text.proofs.ahead.put_ahead.Given as goal

abbrev pub invariant-loop-due : goal.invariant-loop-due
invariant-loop-due l = l.out ++ work_lines l.node (drop l.due-index l.work) ≡ l.fn.out ++ work_lines l.node l.work
