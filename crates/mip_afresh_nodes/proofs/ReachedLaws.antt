-- A delivery leads on from a run that was reached.
use Rattle.std.proofs.Common.{◌≡◌, ℕ, zero, suc, [], ◌∷◌, ◌++◌, false, sym, ap, ◌∙◌, subst}
use Rattle.std.specs.Prelude.{Option, Some, None}
use Rattle.std.proofs.lemmas.List.Sums.{fold-append}
use Rattle.mip_schedule.specs.declared.event.Event.{Event}
use Rattle.mip_schedule.specs.declared.event.Event.TheVariants.{Deliver}
use Rattle.mip_links.specs.Nets.{lowest_of}
use Rattle.mip_history.specs.Setup.{Setup}
use Rattle.mip_history.specs.Runs.{Run}
use Rattle.mip_history.specs.RunsLaws.{IsRun}
use Rattle.mip_history.specs.Delivery.{delivered, carried_one, carried}
use Rattle.mip_history.specs.Permitted.{opened, happens}
use Rattle.mip_history.proofs.Events.{run_passes}
use Rattle.mip_afresh_nodes.specs.Reached.{IsReached}

pub reached_run : (s : Setup) (run : Run) → IsReached s run → IsRun s run
reached_run s run r = subst (IsRun s) (sym r.is) (run_passes s r.events).run

delivered_reached : (s : Setup) (run : Run) (k : ℕ) → IsReached s run → IsReached s (delivered s run k false)
delivered_reached s run k r = record {
  events = r.events ++ Deliver k ∷ [];
  is = ap (λ (x : Run). delivered s x k false) r.is ∙ sym (fold-append (λ (x : Run) (event : Event). happens s x event) (opened s) r.events (Deliver k ∷ []));
}

one_reached : (s : Setup) (run : Run) (o : Option ℕ) → IsReached s run → IsReached s (carried_one s run o)
one_reached s run None r = r
one_reached s run (Some k) r = delivered_reached s run k r

pub carried_reached : (s : Setup) (run : Run) (n : ℕ) → IsReached s run → IsReached s (carried s run n)
unfolding carried
carried_reached s run zero r = r
carried_reached s run (suc n) r = one_reached s (carried s run n) (lowest_of (carried s run n).flying) (carried_reached s run n r)
