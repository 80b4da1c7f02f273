use Rattle.std.proofs.Common.{◌≡◌, ◌<◌, List, length, refl, sym, ap, ◌∙◌, subst, arith}
use Rattle.std.proofs.lemmas.Option.{slice_get_read}
use Rattle.std.specs.Prelude.{Some, slice_get, get_or}
use Rattle.mip_schedule.specs.Schedules.{content}
use Rattle.mip_schedule.specs.declared.event.Event.{Event}
use Rattle.mip_afresh.specs.Tellings.{TellingSeen}
use Rattle.mip_afresh_run.specs.Fitting.{IsFit}
use Rattle.mip_afresh_run.specs.Runs.{RunSeen, IsRunOf}
use Rattle.mip_afresh_run.proofs.run.Run.step.Goals as goal

pub happen-requires : goal.happen-requires
happen-requires c =
    let s = content c.args.schedule.now in
    let i = c.self.inside.next in
    let event = c.index-events-self.result in
    let was = subst (λ (r : RunSeen). IsRunOf r s) (sym c.self.view_is) c.requires in
    let are : c.as_slice-events.result.now ≡ s.events = c.as_slice-events.ensures in
    let inside : i < length s.events = omega (arith, was.within, c.if-self-events.false, ap (λ (l : List Event). length l) are) in
    let there : slice_get s.events i ≡ Some event = slice_get_read s.events (length s.events) i event refl inside (c.index-events-self.is ∙ ap (λ (l : List Event). get_or l i event) are) in
    subst (λ (t : TellingSeen). IsFit t event) (sym was.is) (c.fits.ensures i event there)
