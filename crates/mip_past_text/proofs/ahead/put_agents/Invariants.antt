use Rattle.std.proofs.Common.{◌≡◌, ◌++◌, drop}
use Rattle.mip_past_text.specs.Led.{agents_lines}
use Rattle.mip_past_text.proofs.ahead.put_agents.Given as goal

abbrev pub invariant-loop-agent : goal.invariant-loop-agent
invariant-loop-agent l = l.out ++ agents_lines l.node l.mobile.numberings (drop l.agent-index l.agents) ≡ l.fn.out ++ agents_lines l.node l.mobile.numberings l.agents
