-- A history only grows: what was left stays in front of what is left later.
use Rattle.std.proofs.Common.{◌≡◌, ℕ, List, [], ◌∷◌, ◌++◌, take, drop, sym, ap, ◌∙◌, subst}
use Rattle.std.proofs.lemmas.List.{append_assoc, append-nil, take-append-drop}
use Rattle.std.proofs.lemmas.List.Sums.{fold-append}
use Rattle.mip_entries.specs.declared.entry.Entry.{Entry}
use Rattle.mip_schedule.specs.declared.event.Event.{Event}
use Rattle.mip_history.specs.Setup.{Setup}
use Rattle.mip_history.specs.Runs.{Run, note}
use Rattle.mip_history.specs.Permitted.{happens, run_of}
use Rattle.mip_history.proofs.Effects.{Effect, notes-it, enters, goes, learns}
use Rattle.mip_history.proofs.Folds.{schedule_effects}

-- the history of a run begins with these entries
pub record Begins (front : List Entry) (run : Run) : Type 0 where
  pub rest : List Entry
  pub whole : run.past ≡ front ++ rest

pub on_note : (front : List Entry) (run : Run) (e : Entry) → Begins front run → Begins front (note e run)
on_note front run e b = record { rest = b.rest ++ e ∷ []; whole = ap (λ (l : List Entry). l ++ e ∷ []) b.whole ∙ append_assoc front b.rest (e ∷ []) }

pub begins_effect : (s : Setup) (front : List Entry) (a b : Run) → Effect s a b → Begins front a → Begins front b
begins_effect s front _ _ (notes-it run e seen) b = on_note front run e b
begins_effect s front _ _ (enters run post e is) b = let here = on_note front run e b in record { rest = here.rest; whole = here.whole }
begins_effect s front _ _ (goes run k) b = record { rest = b.rest; whole = b.whole }
begins_effect s front _ _ (learns run next past posts flying) b = record { rest = b.rest; whole = past ∙ b.whole }

-- what some events leave stands in front of what they leave with others behind them
pub front_of_run : (s : Setup) (events : List Event) (i : ℕ) → Begins (run_of s (take i events)).past (run_of s events)
front_of_run s events i =
    let here = run_of s (take i events) in
    subst (λ (run : Run). Begins here.past run)
    (sym (fold-append (λ (run : Run) (event : Event). happens s run event) _ (take i events) (drop i events))
    ∙ ap (λ (es : List Event). run_of s es) (take-append-drop i events))
    (schedule_effects s (Begins here.past) (begins_effect s here.past) (λ run m early b. on_note here.past run _ b) (λ run node b. on_note here.past run _ b)
    here (drop i events) (record { rest = []; whole = sym (append-nil here.past) }))
