use Rattle.std.proofs.Common.{List, Bool, ap, ◌∙◌, refl}
use Rattle.mip_entries.specs.declared.entry.Entry.{Entry}
use Rattle.mip_entries.specs.declared.entry.Entry.TheVariants.{Settled}
use Rattle.mip_history.specs.Runs.{Run, note}
use Rattle.mip_history.specs.Permitted.{run_of}
use Rattle.mip_history.specs.Settled.{is_settled}
use Rattle.mip_engine.specs.Engines.{with_entry}
use Rattle.mip_engine.specs.Settling.{are_settled}
use Rattle.mip_engine.proofs.QuietLaws.{quiet_by, at_note, at_ok, at_ok_run}
use Rattle.mip_replay.proofs.happening.settle.Goals as goal

pub returns-clause-stands : goal.returns-clause-stands
returns-clause-stands c = λ s events at.
    let e = c.args.engine.now in
    let a = c.args.a in
    let b = c.args.b in
    let run : Run = run_of s events in
    let yes = are_settled e a.0 b.0 in
    let is = c.settle.ensures.settled s events at ∙ ap (λ (l : List Entry). is_settled s.start l a.0 b.0) at.history in
    at_ok_run c.settle.result c.settle.new.self s (note (Settled a b yes) run) (note (Settled a b (is_settled s.start run.past a.0 b.0)) run)
    (at_ok c.settle.result c.settle.new.self (with_entry (Settled a b yes) e) s (note (Settled a b yes) run) c.settle.ensures.noted (at_note e s run (Settled a b yes) (quiet_by (Settled a b yes) refl refl) at))
    (ap (λ (y : Bool). note (Settled a b y) run) is)
