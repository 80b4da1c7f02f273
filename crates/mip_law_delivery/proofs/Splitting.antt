-- Carrying packets one by one leaves the same history.
use Rattle.std.proofs.Common.{◌≡◌, ℕ, zero, suc, List, [], ◌∷◌, replicate, refl, sym, ap, ◌∙◌}
use Rattle.std.proofs.lemmas.List.Sums.{fold-append}
use Rattle.mip_schedule.specs.declared.event.Event.{Event}
use Rattle.mip_schedule.specs.declared.event.Event.TheVariants.{Carry}
use Rattle.mip_links.specs.Nets.{lowest_of}
use Rattle.mip_history.specs.Setup.{Setup}
use Rattle.mip_history.specs.Runs.{Run}
use Rattle.mip_history.specs.Delivery.{carried, carried_one}
use Rattle.mip_history.specs.Permitted.{happens, opened, run_of}
use Rattle.mip_law_delivery.specs.Stretches.{run_on, split}

module _ (s : Setup) where
  -- the first packet is carried, and then the others
  carried_first : (run : Run) (n : ℕ) → carried s (carried s run 1) n ≡ carried s run (suc n)
  unfolding carried
  carried_first run zero = refl
  carried_first run (suc n) = ap (λ (r : Run). carried_one s r (lowest_of r.flying)) (carried_first run n)

  none_carried : (run : Run) → carried s run zero ≡ run
  unfolding carried
  none_carried run = refl

  carried_each : (run : Run) (n : ℕ) → run_on s run (replicate n (Carry 1)) ≡ carried s run n
  carried_each run zero = sym (none_carried run)
  carried_each run (suc n) = carried_each (carried s run 1) n ∙ carried_first run n

  pub split_same : (events : List Event) (run : Run) → run_on s run (split events) ≡ run_on s run events
  split_same [] run = refl
  split_same (Carry count ∷ events) run =
      fold-append (λ (r : Run) (event : Event). happens s r event) run (replicate count (Carry 1)) (split events)
      ∙ split_same events (run_on s run (replicate count (Carry 1)))
      ∙ ap (λ (r : Run). run_on s r events) (carried_each run count)
  split_same (event ∷ events) run = split_same events (happens s run event)

pub split_run : (s : Setup) (events : List Event) → run_of s (split events) ≡ run_of s events
split_run s events = split_same s events (opened s)
