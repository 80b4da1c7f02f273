use Rattle.std.proofs.Common.{◌≡◌, ◌++◌, drop}
use Rattle.mip_past_text.specs.Text.{hears_lines}
use Rattle.mip_past_text.proofs.roles.put_each.Given as goal

abbrev pub invariant-loop-agent : goal.invariant-loop-agent
invariant-loop-agent l =
    l.out ++ hears_lines l.asked.scene.declarations.now l.asked.node (drop l.agent-index l.agents) ≡ l.fn.out ++ hears_lines l.asked.scene.declarations.now l.asked.node l.agents
