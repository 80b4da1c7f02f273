use Rattle.std.proofs.Common.{◌≡◌, ◌++◌, drop, map}
use Rattle.mip_past_led.proofs.lists.agents_in.Given as goal

abbrev pub invariant-loop-numbering : goal.invariant-loop-numbering
invariant-loop-numbering l = l.agents.items ++ map (λ n. n.agent) (drop l.numbering-index l.numberings) ≡ map (λ n. n.agent) l.numberings
