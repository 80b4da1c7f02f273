use Rattle.std.proofs.Common.{◌≡◌, ◌++◌}
use Rattle.std.specs.List.{flat_map}
use Rattle.std.specs.Map.{values_of}
use Rattle.mip_proxynd.specs.Text.{holds_of}
use Rattle.mip_proxynd.proofs.holding.put_link.Given as goal

abbrev pub invariant-loop-row : goal.invariant-loop-row
invariant-loop-row l = l.out ++ flat_map (holds_of l.ds l.link) l.row-iterator ≡ l.fn.out ++ flat_map (holds_of l.ds l.link) (values_of l.claims)
