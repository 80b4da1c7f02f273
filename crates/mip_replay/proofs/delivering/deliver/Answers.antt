use Rattle.std.proofs.Common.{◌≡◌, refl, sym, ap, ◌∙◌}
use Rattle.std.specs.Prelude.{Some, slice_get}
use Rattle.mip_entries.specs.declared.entry.Entry.TheVariants.{Idle}
use Rattle.mip_engine.specs.Engines.{EngineSeen, with_entry}
use Rattle.mip_engine.proofs.QuietLaws.{at_note, at_run}
use Rattle.mip_engine.proofs.PostingLaws.{quiet_idle}
use Rattle.mip_engine.proofs.GoesLaws.{goes_after, goes_to, gone_to}
use Rattle.mip_engine.proofs.DeliveryLaws.{lifted, at_lifted, delivered_none, comes, still_posted, became_is}
use Rattle.mip_replay.proofs.delivering.deliver.Goals as goal

pub returns-in-Some : goal.returns-in-Some
returns-in-Some c =
    let e = c.args.engine.now in
    let k = c.args.number in
    let keep = c.args.keep in
    let come = comes e k c.in-Some.arrival c.in-Some.ensures.found in
    let there : slice_get c.lift.new.self.net.posts k ≡ Some come.post =
    ap (λ (x : EngineSeen). slice_get x.net.posts k) c.in-Some.ensures.after ∙ still_posted e k keep ∙ come.posted in
    goes_after (gone_to (λ s run. lifted k keep run) c.in-Some.ensures.after refl (λ s run at. at_lifted e s run k keep at)) (c.reach.ensures come.post there come.shield)
    (λ s run at. became_is e s run k keep at c.in-Some.arrival come)

pub returns-in-None : goal.returns-in-None
returns-in-None c =
    let e = c.args.engine.now in
    let k = c.args.number in
    let keep = c.args.keep in
    goes_to c.note.ensures (ap (λ (x : EngineSeen). with_entry Idle x) c.in-None.ensures.after) refl
    (λ s run at. at_run (delivered_none e s run k keep at (sym c.in-None.ensures.found)) (at_note _ s (lifted k keep run) Idle quiet_idle (at_lifted e s run k keep at)))
