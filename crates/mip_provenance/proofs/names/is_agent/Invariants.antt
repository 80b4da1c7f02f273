use Rattle.std.proofs.Common.{◌≡◌, drop, take}
use Rattle.std.specs.Prelude.{map}
use Rattle.std.specs.List.{list_any}
use Rattle.mip_provenance.specs.Sights.{sight}
use Rattle.mip_provenance.specs.Names.{is_agent}
use Rattle.mip_provenance.specs.Seen.{front_of}
use Rattle.mip_provenance.proofs.names.is_agent.Given as goal

abbrev pub invariant-loop-entry : goal.invariant-loop-entry
invariant-loop-entry l =
    list_any (is_agent l.node.0) (map (sight l.front.history.now) (drop l.entry-index (take l.front.place l.front.history.now))) ≡ list_any (is_agent l.node.0) (front_of l.front)
