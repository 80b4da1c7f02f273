-- Where no moment of a run is behind this one, none was told that is.
use Rattle.std.proofs.Common.{◌≡◌, ℕ, ◌≤◌, List, [], ◌∷◌, ◌++◌, Bool, true, false, refl, sym, subst, arith}
use Rattle.std.specs.Prelude.{Some, None, unwrap_or, nat_lt, if◌then◌else◌}
use Rattle.std.proofs.lemmas.List.{append_assoc}
use Rattle.std.proofs.lemmas.List.Sums.{fold-append}
use Rattle.std.proofs.lemmas.Bool.Decides.{nat_tests}
use Rattle.mip_words.specs.declared.moment.Moment.{Moment}
use Rattle.mip_words.specs.Asked.{asked}
use Rattle.mip_words.specs.EachAfter.{EachAfter}
use Rattle.mip_entries.specs.declared.entry.Entry.{Entry}
use Rattle.mip_entries.specs.declared.entry.Entry.TheVariants as entries
use Rattle.mip_schedule.specs.declared.event.Event.{Event}
use Rattle.mip_history.specs.Setup.{Setup}
use Rattle.mip_history.specs.Questions.{moment_says, moment_in}
use Rattle.mip_history.specs.Knowing.{now_in}
use Rattle.mip_history.specs.Permitted.{run_of}
use Rattle.mip_history.proofs.Runs.{Meets}
use Rattle.mip_history.proofs.Moments.{rises_from}
use Rattle.mip_history.proofs.Events.{run_passes}
use Rattle.mip_history.specs.ToldLaws.{late_says}

module _ (s : Setup) (u : ℕ) where
  shifted : (front : List Entry) (e : Entry) (es : List Entry) → moment_in s.start (front ++ e ∷ es) ≤ u → moment_in s.start ((front ++ e ∷ []) ++ es) ≤ u
  shifted front e es le = subst (λ (l : List Entry). moment_in s.start l ≤ u) (sym (append_assoc front (e ∷ []) es)) le

  told_after : (front : List Entry) (m : Moment) (es : List Entry) → EachAfter (Meets s) (front ++ entries.At m ∷ []) es → m.0 ≤ moment_in s.start ((front ++ entries.At m ∷ []) ++ es)
  told_after front m es each =
      let at : moment_in s.start (front ++ entries.At m ∷ []) ≡ m.0 = fold-append (λ (n : ℕ) (e : Entry). unwrap_or (moment_says e) n) s.start front (entries.At m ∷ []) in
      let r = rises_from s m.0 (front ++ entries.At m ∷ []) es each (omega (arith, at)) in r.1

  none_late : (front es : List Entry) → EachAfter (Meets s) front es → moment_in s.start (front ++ es) ≤ u → asked (late_says u) false es ≡ false
  none_late front [] each le = refl
  none_late front (entries.At m ∷ es) each le =
      by (nat_lt u m.0) refl (told_after front m es each.1) (shifted front (entries.At m) es le) (none_late (front ++ entries.At m ∷ []) es each.1 (shifted front (entries.At m) es le))
    where
      by : (b : Bool) → nat_lt u m.0 ≡ b → m.0 ≤ moment_in s.start ((front ++ entries.At m ∷ []) ++ es) → moment_in s.start ((front ++ entries.At m ∷ []) ++ es) ≤ u → asked (late_says u) false es ≡ false
          → asked (late_says u) (unwrap_or (if b then Some true else None) false) es ≡ false
      by true is after le rest = absurd (let never : ⊥ = grind (arith, nat_tests) in never)
      by false is after le rest = rest
  none_late front (e ∷ es) each le = none_late (front ++ e ∷ []) es each.1 (shifted front e es le)

  -- in a run no moment was told that is behind its last one
  pub early_run : (events : List Event) → now_in s (run_of s events) ≤ u → asked (late_says u) false (run_of s events).past ≡ false
  early_run events le = let p = run_passes s events in none_late [] (run_of s events).past p.run.kept le

  pub started_run : (events : List Event) → now_in s (run_of s events) ≤ u → s.start ≤ u
  started_run events le = let p = run_passes s events in let r = rises_from s s.start [] (run_of s events).past p.run.kept (omega arith) in let first = r.1 in omega (arith, first, le)
