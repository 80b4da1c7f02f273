use Rattle.std.proofs.Common.{ℕ, subst}
use Rattle.std.specs.Prelude.{None, OnOk}
use Rattle.mip_entries.specs.declared.entry.Entry.TheVariants.{Advertised}
use Rattle.mip_history.specs.Calls.{Attach}
use Rattle.mip_history.specs.Nodes.{acts}
use Rattle.mip_history.specs.Runs.{note}
use Rattle.mip_engine.specs.Standing.{IsAt}
use Rattle.mip_engine.proofs.QuietLaws.{at_is}
use Rattle.mip_replay.proofs.AdvertLaws.{at_advertised}
use Rattle.mip_replay.proofs.advertising.attach.Goals as goal

pub returns-clause-stands : goal.returns-clause-stands
returns-clause-stands c = λ s run at is.
    let here = note (Advertised c.args.node c.args.link None) run in
    subst (λ (p : ℕ). OnOk c.act.result (IsAt c.act.new.self s (acts s c.args.node.0 (Attach p) here))) is
    (c.act.ensures.stands s here (at_is c.in_ok-note.ensures (at_advertised c.args.engine.now s run c.args.node.0 c.args.link.0 None at)))
