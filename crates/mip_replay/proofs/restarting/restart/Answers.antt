use Rattle.std.proofs.Common.{refl, sym}
use Rattle.std.specs.Prelude.{slice_get}
use Rattle.mip_engine.specs.Nodes.{NodeSeen}
use Rattle.mip_engine.specs.Engines.{station_of}
use Rattle.mip_engine.proofs.ItemLaws.{map_none}
use Rattle.mip_engine.proofs.GoesLaws.{goes_to}
use Rattle.mip_replay.proofs.RestartLaws.{at_restarted_nowhere}
use Rattle.mip_replay.proofs.restarting.restart.Goals as goal

pub returns-in-None : goal.returns-in-None
returns-in-None c =
    let e = c.args.engine.now in
    let n = c.args.node.0 in
    let none = map_none (λ (x : NodeSeen). station_of e.net.links x) (slice_get e.nodes n) (sym c.in-None.ensures.found) in
    goes_to c.note.ensures refl refl (λ s run at. at_restarted_nowhere e s run at n none)
