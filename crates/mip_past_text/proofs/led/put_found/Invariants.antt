use Rattle.std.proofs.Common.{◌≡◌, ◌++◌, drop}
use Rattle.mip_past_text.specs.Led.{found_lines}
use Rattle.mip_past_text.proofs.led.put_found.Given as goal

abbrev pub invariant-loop-agent : goal.invariant-loop-agent
invariant-loop-agent l = l.out ++ found_lines l.node (drop l.agent-index l.agents) ≡ l.fn.out ++ found_lines l.node l.agents
