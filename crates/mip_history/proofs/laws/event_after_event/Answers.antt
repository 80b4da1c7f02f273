use Rattle.std.proofs.Common.{[], ◌∷◌}
use Rattle.std.proofs.lemmas.List.Sums.{fold-append}
use Rattle.mip_history.specs.Runs.{Run}
use Rattle.mip_schedule.specs.declared.event.Event.{Event}
use Rattle.mip_history.specs.Permitted.{opened, happens}
use Rattle.mip_history.proofs.laws.event_after_event.Goals as goal

pub returns : goal.returns
returns c = λ s events event. fold-append (λ (run : Run) (e : Event). happens s run e) (opened s) events (event ∷ [])
