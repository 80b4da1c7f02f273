-- Every schedule keeps a run, takes the time of its waits, and begins a life of a node as often as it restarts it.
use Rattle.std.proofs.Common.{◌≡◌, ℕ, suc, ◌+◌, List, [], ◌∷◌, false, refl, ap, ◌∙◌, arith}
use Rattle.std.specs.Prelude.{fold, Option, Some, None, unwrap_or, slice_get}
use Rattle.std.specs.List.{sum_by}
use Rattle.std.proofs.lemmas.List.Sums.{fold-append, sum_by-cons}
use Rattle.mip_entries.specs.declared.entry.Entry.{Entry}
use Rattle.mip_entries.specs.declared.entry.Entry.TheVariants as entries
use Rattle.mip_schedule.specs.declared.event.Event.{Event}
use Rattle.mip_schedule.specs.declared.event.Event.TheVariants.{Wait, Restart}
use Rattle.mip_rules_agent.specs.declared.home_row.HomeRow.{HomeRow}
use Rattle.mip_rules_agent.specs.Questions.{rows_at}
use Rattle.mip_history.specs.Setup.{Setup, Host, Kind}
use Rattle.mip_history.specs.Setup.Kind.{Correspondent, Agent, Mobile}
use Rattle.mip_history.specs.Runs.{Run, note, with_agent_past}
use Rattle.mip_history.specs.Questions.{moment_says, restarts, life_in}
use Rattle.mip_history.specs.Calls as calls
use Rattle.mip_history.specs.Knowing.{now_in, secrets_in, agent_known_in}
use Rattle.mip_history.specs.Homes.{gives_up}
use Rattle.mip_history.specs.Waiting.{works_until, waited}
use Rattle.mip_history.specs.Restarting.{homes_left, reborn_by_kind, reborn_by_host, restarted}
use Rattle.mip_history.specs.Permitted.{opened, happens, run_of}
use Rattle.mip_history.specs.Passing.{waited_by, restarted_by}
use Rattle.mip_history.proofs.Effects.{Effect, h-gives_up, h-acts, effect_now, effect_life}
use Rattle.mip_history.proofs.Changes.{IsWait, is_restart, alive, comes_now, happens_keeps, all_keep}
use Rattle.mip_history.proofs.Folds.{change_effects}
use Rattle.mip_history.proofs.Runs.{IsRun, quiet_run}
use Rattle.mip_history.proofs.Restarting.{again, born_life}
use Rattle.mip_history.proofs.Opening.{nothing, nothing_is, quiet_opened}
use Rattle.mip_history.proofs.Passes.{Passes}
use Rattle.mip_history.proofs.Numbers.{AreNumbered, numbers_change, run_numbers}
use Rattle.mip_history.proofs.Shields.{AreShielded, shields_change, run_shields}
use Rattle.mip_history.proofs.RunChanges.{run_change}

-- a wait comes to its end
waited_now : (s : Setup) (run : Run) (ms : ℕ) → now_in s (waited s run ms) ≡ now_in s run + ms
unfolding waited
waited_now s run ms = comes_now s (now_in s run + ms) (works_until s (now_in s run + ms) (suc ms) (record { run = run; told = false }))

-- another event takes no time
still : (s : Setup) (event : Event) → (IsWait event → ⊥) → (run : Run) → now_in s (happens s run event) ≡ now_in s run
still s event none run =
    happens_keeps s (λ (r : Run). now_in s r ≡ now_in s run) run event
    (change_effects s (λ (r : Run). now_in s r ≡ now_in s run) (λ a b effect same. effect_now s a b effect ∙ same) event (λ r m wait early same. absurd (none wait))
    (λ r node so same. fold-append (λ (at : ℕ) (x : Entry). unwrap_or (moment_says x) at) s.start r.past (entries.Restarted node ∷ []) ∙ same)) refl

happens_now : (s : Setup) (run : Run) (event : Event) → now_in s (happens s run event) ≡ now_in s run + waited_by event
happens_now s run (Wait ms) = waited_now s run ms
happens_now s run event = let e = still s event (λ wait. wait) run in omega (arith, e)

-- an event begins no life but by a restart
module _ (s : Setup) (m : ℕ) where
  same_life : (run : Run) → (a b : Run) → Effect s a b → life_in a.past m ≡ life_in run.past m → life_in b.past m ≡ life_in run.past m
  same_life run a b effect same = effect_life s m a b effect ∙ same

  unborn : (event : Event) → is_restart event ≡ false → (run : Run) → life_in (happens s run event).past m ≡ life_in run.past m
  unborn event none run =
      happens_keeps s (λ (r : Run). life_in r.past m ≡ life_in run.past m) run event
      (change_effects s (λ (r : Run). life_in r.past m ≡ life_in run.past m) (same_life run) event
      (λ r at wait early same. fold-append (restarts m) 0 r.past (entries.At (record { 0 = at }) ∷ []) ∙ same) (λ r node so same. absurd (alive event node so none))) refl

  homes_life : (n : ℕ) (rows : List HomeRow) (run : Run) → life_in (homes_left s n rows run).past m ≡ life_in run.past m
  unfolding homes_left
  homes_life n [] run = refl
  homes_life n (r ∷ rows) run = homes_life n rows (gives_up s n r.home run) ∙ h-gives_up s (λ (x : Run). life_in x.past m ≡ life_in run.past m) (same_life run) n r.home run refl

  restarted_life : (run : Run) (n : ℕ) → life_in (restarted s run n).past m ≡ life_in run.past m + again n m
  unfolding restarted
  restarted_life run n = by (slice_get s.hosts n)
    where
      next : Run
      next = note (entries.Restarted (record { 0 = n })) run

      of_kind : (kind : Kind) → life_in (reborn_by_kind s n run kind).past m ≡ life_in run.past m + again n m
      of_kind (Correspondent room) = born_life run.past n m
      of_kind (Agent preference life room serves) =
          homes_life n (rows_at (now_in s run) (agent_known_in run n serves).homes) (note (entries.Restarted (record { 0 = n })) (with_agent_past n [] run)) ∙ born_life run.past n m
      of_kind (Mobile agent) =
          h-acts s (λ (x : Run). life_in x.past m ≡ life_in next.past m) (same_life next) n (calls.Restart (secrets_in s n (life_in next.past n))) next refl ∙ born_life run.past n m

      by : (o : Option Host) → life_in (reborn_by_host s n run o).past m ≡ life_in run.past m + again n m
      by None = born_life run.past n m
      by (Some host) = of_kind host.kind

  happens_life : (run : Run) (event : Event) → life_in (happens s run event).past m ≡ life_in run.past m + restarted_by m event
  happens_life run (Restart node) = restarted_life run node.0
  happens_life run event = let e = unborn event refl run in omega (arith, e)

-- a whole schedule
added : (a b c x y z : ℕ) → b ≡ a + x → c ≡ b + y → z ≡ x + y → c ≡ a + z
added a b c x y z p q sum = omega arith

now_all : (s : Setup) (run : Run) (events : List Event) → now_in s (fold (λ run event. happens s run event) run events) ≡ now_in s run + sum_by waited_by events
now_all s run [] = omega arith
now_all s run (event ∷ events) =
    added (now_in s run) (now_in s (happens s run event)) _ (waited_by event) (sum_by waited_by events) _ (happens_now s run event) (now_all s (happens s run event) events) (sum_by-cons waited_by event events)

life_all : (s : Setup) (n : ℕ) (run : Run) (events : List Event) → life_in (fold (λ run event. happens s run event) run events).past n ≡ life_in run.past n + sum_by (restarted_by n) events
life_all s n run [] = omega arith
life_all s n run (event ∷ events) =
    added (life_in run.past n) (life_in (happens s run event).past n) _ (restarted_by n event) (sum_by (restarted_by n) events) _ (happens_life s n run event) (life_all s n (happens s run event) events)
    (sum_by-cons (restarted_by n) event events)

pub run_passes : (s : Setup) (events : List Event) → Passes s (nothing s) (run_of s events) (sum_by waited_by events) (λ n. sum_by (restarted_by n) events)
run_passes s events =
    let quiet = quiet_opened s in record {
      run = (all_keep s (λ (run : Run). IsRun s run × (AreNumbered s run × AreShielded s run))
          (λ event a b change is. (run_change s event a b change is.1.0 is.1.1 is.0, (numbers_change s event a b change is.1.0, shields_change s event a b change is.1.1))) (opened s) events
          (quiet_run s (nothing s) (opened s) quiet (nothing_is s), (run_numbers s [], run_shields s []))).0;
      moment = now_all s (opened s) events ∙ ap (λ (m : ℕ). m + sum_by waited_by events) quiet.moment;
      life = λ n. life_all s n (opened s) events ∙ ap (λ (m : ℕ). m + sum_by (restarted_by n) events) (quiet.life n);
    }
