use Rattle.std.proofs.Common.{◌≡◌, refl, ap, ◌∙◌, arith, length-set, List, length}
use Rattle.std.specs.Prelude.{slice_get, Some}
use Rattle.mip_entries.specs.declared.entry.Entry.TheVariants.{Restarted}
use Rattle.mip_rules_agent.specs.declared.home_row.HomeRow.{HomeRow}
use Rattle.mip_engine.specs.Nodes as nodes
use Rattle.mip_engine.specs.Engines.{EngineSeen, with_entry}
use Rattle.mip_replay.specs.Renewals.{renewed, begun_anew}
use Rattle.mip_engine.proofs.ItemLaws.{set_here, there_is}
use Rattle.mip_engine.proofs.GoesLaws.{goes_after, gone_to}
use Rattle.mip_replay.proofs.RestartLaws.{at_renewed, restarts_so}
use Rattle.mip_replay.proofs.restarting.begin_life.Goals as goal

pub begin_anew-requires : goal.begin_anew-requires
begin_anew-requires c =
    let e = c.args.engine.now in
    let n = c.args.node.0 in
    let found = there_is e.nodes n c.requires.node in
    let here = c.in_ok-note.ensures ∙ ap (λ (x : EngineSeen). with_entry (Restarted c.args.node) x) (c.in_ok-renew.ensures found.0 found.1) in
    omega (arith, c.requires.node, ap (λ (x : EngineSeen). length x.nodes) here, length-set e.nodes n (nodes.reborn e.seed e.numbers n found.0))

pub returns : goal.returns
returns c =
    let e = c.args.engine.now in
    let n = c.args.node.0 in
    let found = there_is e.nodes n c.requires.node in
    let node = found.0 in
    let there = found.1 in
    let next = nodes.reborn e.seed e.numbers n node in
    let here = c.in_ok-note.ensures ∙ ap (λ (x : EngineSeen). with_entry (Restarted c.args.node) x) (c.in_ok-renew.ensures node there) in
    let now_there : slice_get c.note.new.self.nodes n ≡ Some next = ap (λ (x : EngineSeen). slice_get x.nodes n) here ∙ set_here e.nodes n next c.requires.node in
    goes_after (gone_to (λ s run. renewed n run node.host.kind) here refl (λ s run at. at_renewed e s run at n node there)) (c.begin_anew.ensures next now_there)
    (λ s run at. ap (λ (homes : List HomeRow). begun_anew s n homes (renewed n run node.host.kind) node.host.kind) (c.as_slice.ensures.value ∙ c.in_ok-homes.ensures node there)
    ∙ restarts_so e s run at n node there)
