use Rattle.std.proofs.Common.{refl, sym}
use Rattle.std.specs.Prelude.{slice_get}
use Rattle.mip_roles.specs.Nodes.{NodeSeen}
use Rattle.mip_engine.specs.Engines.{station_of}
use Rattle.mip_engine.proofs.ItemLaws.{map_some, map_none}
use Rattle.mip_engine.proofs.QuietLaws.{at_run}
use Rattle.mip_engine.proofs.GoesLaws.{goes_idle, goes_to}
use Rattle.mip_engine.proofs.ShowLaws.{shown_none, shown_some, at_shown}
use Rattle.mip_engine.proofs.engine.Engine.show.Goals as goal

pub returns-in-Some : goal.returns-in-Some
returns-in-Some c =
    let e = c.args.self.now in
    let n = c.args.node.0 in
    let found = map_some (λ (x : NodeSeen). station_of e.net.links x) (slice_get e.nodes n) _ (sym c.in-Some.ensures.found) in
    goes_to (c.show_rows.ensures.shown found.0 found.1) refl refl
    (λ s run at. at_run (shown_some e s run at n found.0 found.1) (at_shown e s run at n found.0.role))

pub returns-in-None : goal.returns-in-None
returns-in-None c =
    let e = c.args.self.now in
    let n = c.args.node.0 in
    let none = map_none (λ (x : NodeSeen). station_of e.net.links x) (slice_get e.nodes n) (sym c.in-None.ensures.found) in
    goes_idle c.note.ensures (λ s run at. sym (shown_none e s run at n none))
