use Rattle.std.proofs.Common.{refl, ap}
use Rattle.mip_entries.specs.declared.entry.Entry.TheVariants.{Moved}
use Rattle.mip_engine.specs.Engines.{EngineSeen, with_entry}
use Rattle.mip_engine.proofs.GoesLaws.{goes_to, goes_after, gone}
use Rattle.mip_engine.proofs.EntryLaws.{at_moved}
use Rattle.mip_engine.proofs.MoveLaws.{stood_told}
use Rattle.mip_engine.proofs.engine.Engine.move_mobile.Goals as goal

pub returns : goal.returns
returns c =
    let n = c.args.node.0 in
    let link = c.args.link in
    goes_after (gone c.in_ok-act.ensures)
    (goes_to c.note.ensures (ap (λ (x : EngineSeen). with_entry (Moved c.args.node link) x) c.stand.ensures) (stood_told n _ c.act.new.self)
    (λ s run at. at_moved c.act.new.self s run n link at))
    (λ s run at. refl)
